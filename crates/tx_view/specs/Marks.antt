-- Marks, as contracts see them, the first and the last of some, and their stops.
use Rattle.std.specs.Prelude.{ℕ, List, [], ◌∷◌, map, Option, Some, None, refl}
use Rattle.std.specs.List.{flat_map}
use Rattle.std.specs.Coded.{Coded, code_by, coded×, coded_ℕ, coded_list}
use Rattle.tx_tree.specs.declared.places.Place.{Place}
use Rattle.tx_origin.specs.RelativePlaces.{BasedPlace}
use Rattle.tx_view_form.specs.Positions.{Mark, whole_path}
use Rattle.tx_view_form.specs.Stops.{mark_place}

abbrev pub first_of : List Mark → Option Mark
first_of [] = None
first_of (m ∷ ms) = Some m

-- the last, or else another
abbrev pub last_or : Option Mark → List Mark → Option Mark
last_or before [] = before
last_or before (m ∷ ms) = last_or (Some m) ms

abbrev pub last_of : List Mark → Option Mark
last_of ms = last_or None ms

-- ---- the stops of marks

-- where the cluster of a mark begins and ends
abbrev pub both_ends : List ℕ → Mark → List Place
both_ends path m = mark_place path m m.start ∷ (mark_place path m m.stop ∷ [])

abbrev pub stops_at : List ℕ → Option Mark → List Place
stops_at path None = []
stops_at path (Some m) = both_ends path m

abbrev pub stops_on : List ℕ → List Mark → List Place
stops_on path ms = flat_map (both_ends path) ms

-- ---- places that are given from the path of their unit

abbrev pub spot_place : BasedPlace → Place
spot_place s = record { path = whole_path s; offset = s.offset }

abbrev pub spot_places : List BasedPlace → List Place
spot_places ss = map spot_place ss

-- ---- the code by which proofs distinguish marks

abbrev pub coded_Mark : Coded Mark
coded_Mark =
    code_by (List ℕ × (ℕ × ℕ)) (coded× (coded_list coded_ℕ) (coded× coded_ℕ coded_ℕ))
    (λ m. (m.origin, (m.start, m.stop)))
    (λ c. record { origin = c.0; start = c.1.0; stop = c.1.1 }) (λ _. refl)
