-- Escapes take one byte more each.
use Rattle.std.proofs.Common.{◌≡◌, ℕ, ◌+◌, Bool, true, false, cond, ◌==◌, ◌||◌, List, [], ◌∷◌, length, refl}
use Rattle.std.proofs.Common.{length-append, arith}
use Rattle.std.specs.Prelude.{count_by}
use Rattle.std.specs.List.{flat_map}
use Rattle.std.proofs.lemmas.List.Sums.{sum_by-cons}
use Rattle.tx_scm.specs.Spelling.{escaped}

either : (quote backslash : Bool) (b : ℕ) → (quote ≡ true → backslash ≡ true → ⊥)
    → length (cond (quote || backslash) (92 ∷ b ∷ []) (b ∷ [])) ≡ 1 + (cond quote 1 0 + cond backslash 1 0)
either true true b n = absurd (n refl refl)
either true false b n = refl
either false true b n = refl
either false false b n = refl

byte_length : (b : ℕ) → length (escaped b) ≡ 1 + (cond (b == 34) 1 0 + cond (b == 92) 1 0)
byte_length b = either (b == 34) (b == 92) b (λ q s. grind arith)

pub escaped_length : (text : List ℕ) → length (flat_map escaped text)
    ≡ length text + (count_by (λ b. b == 34) text + count_by (λ b. b == 92) text)
escaped_length [] = refl
escaped_length (b ∷ text) =
    omega (
      arith,
      byte_length b,
      escaped_length text,
      length-append (escaped b) (flat_map escaped text),
      sum_by-cons (λ b. cond (b == 34) 1 0) b text,
      sum_by-cons (λ b. cond (b == 92) 1 0) b text,
    )
