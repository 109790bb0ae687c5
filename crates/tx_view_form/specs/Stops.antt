-- The places of the document at which a cursor stops.
use Rattle.std.specs.Prelude.{ℕ, List, [], ◌∷◌, ◌++◌, if◌then◌else◌}
use Rattle.std.specs.List.{flat_map, list_any, fold}
use Rattle.std.specs.Option.{option_map_or}
use Rattle.tx_tree.specs.SamePlaces.{same_place}
use Rattle.tx_tree.specs.declared.places.Place.{Place}
use Rattle.tx_view_form.specs.Views.{UnitView}
use Rattle.tx_view_form.specs.Positions.{Mark, marks_of}

-- a place in the text of a cluster, in a unit with this path
abbrev pub mark_place : List ℕ → Mark → ℕ → Place
mark_place path m offset = record { path = path ++ m.origin; offset = offset }

-- where each cluster that has a place begins and ends; where there is none, the unit's path
abbrev pub stops_by : List ℕ → List Mark → List Place
stops_by path [] = record { path = path; offset = 0 } ∷ []
stops_by path (m ∷ ms) = flat_map (λ n. mark_place path n n.start ∷ (mark_place path n n.stop ∷ [])) (m ∷ ms)

-- the stops of all items, also those that are on no line; only a unit with a path has stops
abbrev pub unit_stops : UnitView → List Place
unit_stops x = option_map_or (λ path. stops_by path (marks_of (flat_map (λ p. p.items) x.paragraphs))) x.path []

-- a place that was there before isn't put again
abbrev pub put_place : List Place → Place → List Place
put_place ps p = if list_any (same_place p) ps then ps else ps ++ p ∷ []

abbrev pub each_once : List Place → List Place
each_once ps = fold put_place [] ps

abbrev pub stops_of : List UnitView → List Place
stops_of xs = each_once (flat_map unit_stops xs)
