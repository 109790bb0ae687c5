-- What is cached of units, as the view has it.
use Rattle.std.specs.Prelude.{ℕ, ◌+◌, ◌-◌, nat_lt, List, [], ◌∷◌, map, length, Option, None, Some}
use Rattle.std.specs.Prelude.{if◌then◌else◌}
use Rattle.std.specs.List.{AllByRecursion}
use Rattle.std.specs.Option.{option_map}
use Rattle.tx_units.specs.Places.{AreApart}
use Rattle.tx_view_form.specs.Views.{UnitView}
use Rattle.tx_part_layout.specs.LaidParts.{AreBelow}
use Rattle.tx_unit_layout.specs.Views.{unit_view}
use Rattle.tx_unit_layout.specs.declared.shown.Shown.{Shown}

abbrev pub unit_views : List Shown → List UnitView
unit_views xs = map unit_view xs

-- its parts know how many lines are above them
abbrev pub IsBelow : Shown → Type 0
IsBelow x = AreBelow 0 x.parts

-- the sums of the numbers before each, and of all
abbrev pub sums_from : ℕ → List ℕ → List ℕ
sums_from n [] = n ∷ []
sums_from n (k ∷ ks) = n ∷ sums_from (n + k) ks

abbrev pub row_counts : List UnitView → List ℕ
row_counts xs = map (λ x. length x.lines) xs

abbrev pub error_counts : List UnitView → List ℕ
error_counts xs = map (λ x. length x.errors) xs

-- where lists have so many elements, the list that holds element k of all, and its number there
abbrev pub place_among : List ℕ → ℕ → Option (ℕ × ℕ)
place_among [] k = None
place_among (n ∷ ns) k = if nat_lt k n then Some (0, k) else option_map (λ p. (p.0 + 1, p.1)) (place_among ns (k - n))

-- no path of a unit is that of another, or begins it
abbrev pub AreAllApart : List UnitView → Type 0
AreAllApart [] = Unit {0}
AreAllApart (x ∷ xs) = AllByRecursion (λ y. AreApart x.path y.path) xs × AreAllApart xs
