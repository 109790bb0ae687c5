-- The numbers of a path, from its end.
use Rattle.std.proofs.Common.{◌≡◌, ◌≢◌, ℕ, zero, suc, List, [], ◌∷◌, ◌++◌, length, refl, arith}
use Rattle.std.specs.Prelude.{Some, slice_get}

-- the last number
pub number_here : (ns : List ℕ) (n i : ℕ) → length ns ≡ i → slice_get (ns ++ n ∷ []) i ≡ Some n
number_here [] n zero e = refl
number_here [] n (suc i) e = absurd (omega arith)
number_here (m ∷ ns) n zero e = absurd (omega arith)
number_here (m ∷ ns) n (suc i) e = number_here ns n i (omega arith)

-- every other one is a number of the path above
pub number_above : (ns : List ℕ) (n i : ℕ) → length ns ≢ i → slice_get (ns ++ n ∷ []) i ≡ slice_get ns i
number_above [] n zero e = absurd (e refl)
number_above [] n (suc i) e = refl
number_above (m ∷ ns) n zero e = refl
number_above (m ∷ ns) n (suc i) e = number_above ns n i (λ p. e (omega (arith, p)))

pub ruleset number_rules = (number_here, number_above)
