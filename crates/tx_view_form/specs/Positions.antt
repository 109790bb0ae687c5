-- The places of the document at rows and columns.
use Rattle.std.specs.Prelude.{◌≡◌, ℕ, ◌+◌, ◌≤◌, nat_lt, List, [], ◌∷◌, ◌++◌, take, drop}
use Rattle.std.specs.Prelude.{Option, Some, None, option_and_then, slice_get, if◌then◌else◌}
use Rattle.std.specs.List.{flat_map, filter_map}
use Rattle.std.specs.Option.{option_map}
use Rattle.tx_tree.specs.declared.TheConstants.{MOST_TEXT}
use Rattle.tx_origin.specs.RelativePlaces.{BasedPlace, path_below}
use Rattle.tx_text.specs.declared.cutting.Cluster.{Cluster}
use Rattle.tx_items.specs.declared.drawing.Item.{Item}
use Rattle.tx_layout.specs.declared.layout.Line.{Line}
use Rattle.tx_view_form.specs.Views.{UnitView}
use Rattle.tx_view_form.specs.Cells.{drawn_in, item_at, item_number, row_in}

-- a cluster that has a place: the origin of its text, and where it begins and ends there
pub record Mark : Type 0 where
  pub origin : List ℕ
  pub start : ℕ
  pub stop : ℕ

abbrev pub mark_by : Cluster → Option (List ℕ) → Option Mark
mark_by cluster at =
    option_map (λ p. record { origin = p; start = cluster.start; stop = cluster.start + cluster.len }) at

abbrev pub mark_of : Item → Option Mark
mark_of item = option_and_then (λ d. mark_by d.cluster d.look.at) (drawn_in item)

abbrev pub marks_of : List Item → List Mark
marks_of items = filter_map mark_of items

-- a place ends within the longest text
abbrev pub IsShort : Item → Type 0
IsShort item = (m : Mark) → mark_of item ≡ Some m → m.stop ≤ MOST_TEXT

-- ---- places of a unit with this path

abbrev pub start_of : List ℕ → Mark → BasedPlace
start_of path m = record { base = path; origin = Some m.origin; offset = m.start }

abbrev pub stop_of : List ℕ → Mark → BasedPlace
stop_of path m = record { base = path; origin = Some m.origin; offset = m.stop }

abbrev pub unit_place : List ℕ → BasedPlace
unit_place path = record { base = path; origin = None; offset = 0 }

-- ---- positions

abbrev pub first_or : List Mark → List ℕ → BasedPlace
first_or [] path = unit_place path
first_or (m ∷ ms) path = start_of path m

-- after the last of the clusters before, or else at the first after, or else the unit
abbrev pub nearest : List ℕ → List Mark → List Mark → BasedPlace
nearest path [] after = first_or after path
nearest path (m ∷ []) after = stop_of path m
nearest path (m ∷ (n ∷ ns)) after = nearest path (n ∷ ns) after

abbrev pub items_on : List Line → List Item
items_on lines = flat_map (λ line. line.items) lines

-- the place of the cluster that covers a column, or the nearest one
abbrev pub place_by : Option Mark → List ℕ → List Mark → List Mark → BasedPlace
place_by (Some m) path before after = start_of path m
place_by None path before after = nearest path before after

-- the place at a column of a line with these lines of its unit before and after it
abbrev pub place_on : List ℕ → List Line → Line → List Line → ℕ → BasedPlace
place_on path above line below c =
    place_by (option_and_then mark_of (item_at line c)) path
    (marks_of (items_on above ++ take (item_number line c) line.items))
    (marks_of (drop (item_number line c) line.items ++ items_on below))

-- the place at a column of a row of a unit
abbrev pub place_in : UnitView → ℕ → ℕ → Option BasedPlace
place_in x i c = option_and_then
    (λ path. option_map (λ line. place_on path (take i x.lines) line (drop (i + 1) x.lines) c) (slice_get x.lines i))
    x.path

-- the place at a row and a column of a page of this width; None past the last row or column
abbrev pub position_in : List UnitView → ℕ → ℕ → ℕ → Option BasedPlace
position_in xs width r c = if nat_lt c width then option_and_then (λ p. place_in p.0 p.1 c) (row_in xs r) else None

-- the path of a place is that of its unit with the origin after it
abbrev pub whole_path : BasedPlace → List ℕ
whole_path p = path_below p.base p.origin
