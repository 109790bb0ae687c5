-- A part of a list of stops that decides what is beside a place as the whole list does.
use Rattle.std.specs.Prelude.{◌≡◌, ℕ, ◌+◌, ◌-◌, ◌<◌, ◌≤◌, nat_eq, Bool, false, true, List, [], ◌++◌, length, take, drop}
use Rattle.std.specs.Prelude.{Option, None, Some}
use Rattle.std.specs.List.{list_any, starts_with}
use Rattle.std.specs.Option.{option_map}
use Rattle.tx_tree.specs.declared.places.Place.{Place}
use Rattle.tx_tree.specs.SamePlaces.{same_place, stop_number}
use Rattle.tx_view_form.specs.Stops.{stops_of}
use Rattle.tx_view.specs.Units.{unit_views}
use Rattle.tx_unit_layout.specs.declared.shown.Shown.{Shown}

-- Some of all stops, in order, in which the place has the stops beside it that it has among all. Where it is none of
-- them it is none of all, and the first of them is the first of all.
pub record AreNear (all near : List Place) (at : Place) : Type 0 where
  pub before : List Place
  pub behind : List Place
  pub parts : all ≡ before ++ near ++ behind
  pub found : stop_number all at ≡ option_map (λ k. length before + k) (stop_number near at)
  pub from_start : stop_number near at ≡ None → before ≡ []
  pub not_empty : stop_number near at ≡ None → near ≡ [] → behind ≡ []
  pub first : stop_number near at ≡ Some 0 → before ≡ []
  pub last : (k : ℕ) → stop_number near at ≡ Some k → k + 1 ≡ length near → behind ≡ []

-- ---- stops beside a place

-- place number k, and none before it, is this one
pub record HasFirst (ps : List Place) (at : Place) (k : ℕ) : Type 0 where
  pub within : k < length ps
  pub not_before : list_any (same_place at) (take k ps) ≡ false
  pub here : list_any (same_place at) ps ≡ true

-- the number of the first of some places that is this one, or none
abbrev pub IsFirst : List Place → Place → Option ℕ → Type 0
IsFirst ps at None = list_any (same_place at) ps ≡ false
IsFirst ps at (Some k) = HasFirst ps at k

-- The place is one of some stops. It is the first of them only where they begin as all do, and the last only where they
-- end so.
pub record HasNeighbours (stops : List Place) (at : Place) (from_start to_end : Bool) : Type 0 where
  pub number : ℕ
  pub there : stop_number stops at ≡ Some number
  pub first : number ≡ 0 → from_start ≡ true
  pub last : number + 1 ≡ length stops → to_end ≡ true

-- ---- units

-- a unit with this path is above the place, or at it
abbrev pub is_above : Option (List ℕ) → Place → Bool
is_above None at = false
is_above (Some path) at = starts_with nat_eq at.path path

-- the stops of these units
abbrev pub shown_stops : List Shown → List Place
shown_stops xs = stops_of (unit_views xs)

-- the unit of this number, and no other, has the place among its stops
pub record HasStop (xs : List Shown) (at : Place) (k : ℕ) : Type 0 where
  pub within : k < length xs
  pub not_before : list_any (same_place at) (shown_stops (take k xs)) ≡ false
  pub here : list_any (same_place at) (shown_stops (take 1 (drop k xs))) ≡ true
  pub not_behind : list_any (same_place at) (shown_stops (drop (k + 1) xs)) ≡ false

abbrev pub IsHolder : List Shown → Place → Option ℕ → Type 0
IsHolder xs at None = list_any (same_place at) (shown_stops xs) ≡ false
IsHolder xs at (Some k) = HasStop xs at k

-- the stops of the units from one number up to another are near the place
pub record IsRange (xs : List Shown) (at : Place) (r : ℕ × ℕ) : Type 0 where
  pub in_order : r.0 ≤ r.1
  pub within : r.1 ≤ length xs
  pub near : AreNear (shown_stops xs) (shown_stops (take (r.1 - r.0) (drop r.0 xs))) at
