-- Ways and stands: paths and places as they are known before they are made. Only private clauses cite these.
use Rattle.std.specs.Prelude.{◌≡◌, ℕ, ◌≤◌, List, ◌∷◌}
use Rattle.std.specs.List.{AllByRecursion}
use Rattle.tx_tree.specs.declared.places.Place.{Place}
use Rattle.tx_mod.specs.declared.ways.Stand.{Stand}
use Rattle.tx_mod.specs.declared.ways.Way.{Way}
use Rattle.tx_mod.specs.declared.ways.Way.TheVariants.{Rest, Step, Steps}
use Rattle.tx_mod.specs.Moves.{place}

abbrev pub way_numbers : Way → List ℕ
way_numbers (Rest r) = r.now
way_numbers (Step k r) = k ∷ r.now
way_numbers (Steps k l r) = k ∷ l ∷ r.now

-- the stand is this place
abbrev pub IsPlaceOf : Stand → Place → Type 0
IsPlaceOf a at = place (way_numbers a.way) a.offset ≡ at

-- each number is one of a child
abbrev pub AreChildNumbers : List ℕ → Type 0
AreChildNumbers r = AllByRecursion (λ k. k ≤ 65535) r
