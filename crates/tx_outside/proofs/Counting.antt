-- How rises of counts compose over several calls.
use Rattle.std.proofs.Common.{ℕ, inl, inr, arith}
use Rattle.tx_outside.specs.Counts.{Rose, NeverFalls}

-- nothing happened
pub never_falls_refl : (n : ℕ) → NeverFalls n n
never_falls_refl n = record { kept = omega arith; within = λ e. e }

-- one call after another
pub never_falls_then : (a b c : ℕ) → NeverFalls a b → NeverFalls b c → NeverFalls a c
never_falls_then a b c first second = record { kept = omega arith; within = λ e. second.within (first.within e) }

-- a rise, and then a call
pub rose_then : (a b c : ℕ) → Rose a b → NeverFalls b c → Rose a c
rose_then a b c rise rest = elim rise [ inl above ↦ inl (omega arith) | inr last ↦ inr (omega arith) ]

-- a call, and then a rise
pub then_rose : (a b c : ℕ) → NeverFalls a b → Rose b c → Rose a c
then_rose a b c first rise = elim rise [ inl above ↦ inl (omega arith) | inr last ↦ inr last ]
