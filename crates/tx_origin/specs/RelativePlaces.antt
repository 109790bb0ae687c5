-- Places that are given from a base path.
use Rattle.std.specs.Prelude.{ℕ, List, ◌++◌, Option, Some, None, refl}
use Rattle.std.specs.Coded.{Coded, code_by, coded×, coded_ℕ, coded_list, coded_option}

-- an origin, and an offset there: a place that is given from a base, where its path begins
pub record RelativePlace : Type 0 where
  pub origin : List ℕ
  pub offset : ℕ

-- a path, an origin below it or none, and an offset
pub record BasedPlace : Type 0 where
  pub base : List ℕ
  pub origin : Option (List ℕ)
  pub offset : ℕ

-- the path with the origin after it; without an origin the path alone
abbrev pub path_below : List ℕ → Option (List ℕ) → List ℕ
path_below base None = base
path_below base (Some origin) = base ++ origin

-- ---- the codes by which proofs tell them apart

abbrev pub coded_RelativePlace : Coded RelativePlace
coded_RelativePlace =
    code_by (List ℕ × ℕ) (coded× (coded_list coded_ℕ) coded_ℕ) (λ p. (p.origin, p.offset))
    (λ c. record { origin = c.0; offset = c.1 }) (λ _. refl)

abbrev pub coded_BasedPlace : Coded BasedPlace
coded_BasedPlace =
    code_by (List ℕ × (Option (List ℕ) × ℕ))
    (coded× (coded_list coded_ℕ) (coded× (coded_option (coded_list coded_ℕ)) coded_ℕ))
    (λ p. (p.base, (p.origin, p.offset))) (λ c. record { base = c.0; origin = c.1.0; offset = c.1.1 }) (λ _. refl)
