-- The beginning of a line that is stored.
use Rattle.std.proofs.Common.{◌≡◌, ℕ, ◌+◌, ◌-◌, ◌<◌, ◌≤◌, Bool, true, nat_eq, eqb, if◌then◌else◌, List, [], ◌∷◌, ◌++◌}
use Rattle.std.proofs.Common.{length, take, arith, Result, Ok, Err, IfErr}
use Rattle.std.specs.List.{ends_with}
use Rattle.std.proofs.lemmas.Grind.{common_steps}
use Rattle.tx_session.specs.Scripts.{command_line}

pub returned_some : (bytes : List ℕ) → ends_with nat_eq bytes (13 ∷ []) ≡ true → 0 < length bytes
returned_some [] e = cc
returned_some (b ∷ bytes) e = grind arith

-- how long a line is without its return
pub command_length : (bytes : List ℕ) (r : Bool) → r ≡ ends_with nat_eq bytes (13 ∷ [])
    → length (command_line bytes) ≡ (if r then length bytes - 1 else length bytes)
command_length bytes r e = grind (arith, common_steps)

pub kept_text : (bytes front : List ℕ) (most n : ℕ) (r : Bool) → front ≡ take (most + 1) bytes
    → r ≡ ends_with nat_eq bytes (13 ∷ []) → n ≡ (if r then length bytes - 1 else length bytes) → n ≤ most
    → take n front ≡ command_line bytes
kept_text bytes front most n r f e c within = grind (arith, common_steps)

-- one byte more
pub returned_next : (bytes : List ℕ) (b : ℕ) → ends_with nat_eq (bytes ++ b ∷ []) (13 ∷ []) ≡ eqb b 13
returned_next bytes b = grind (arith, common_steps)

pub front_next : (bytes front : List ℕ) (b most : ℕ) → front ≡ take (most + 1) bytes → length front ≤ most
    → front ++ b ∷ [] ≡ take (most + 1) (bytes ++ b ∷ [])
front_next bytes front b most f within = grind (arith, common_steps)

pub front_full : (bytes front : List ℕ) (b most : ℕ) → front ≡ take (most + 1) bytes → most < length front
    → front ≡ take (most + 1) (bytes ++ b ∷ [])
front_full bytes front b most f full = grind (arith, common_steps)

pub short_line : (bytes front : List ℕ) (most : ℕ) → front ≡ take (most + 1) bytes → length front ≤ most
    → length bytes ≤ most
short_line bytes front most f short = grind (arith, common_steps)

pub err_anyway : {T E : Type 0} (result : Result T E) (P : Type 0) → P → IfErr result (λ _. P)
err_anyway (Ok x) P p = tt
err_anyway (Err e) P p = p
