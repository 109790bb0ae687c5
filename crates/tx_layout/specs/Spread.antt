-- Free cells that are put in after the spaces of a line.
use Rattle.std.specs.Prelude.{ℕ, zero, suc, ◌+◌, ◌-◌, ◌/◌, ◌%◌, min, List, [], ◌∷◌, ◌++◌, sum_by, if◌then◌else◌}
use Rattle.tx_items.specs.declared.drawing.Item.{Item}
use Rattle.tx_items.specs.declared.drawing.Item.TheVariants.{Gap}
use Rattle.tx_layout.specs.Words.{is_blank_item}

abbrev pub one_if_blank : Item → ℕ
one_if_blank item = if is_blank_item item then 1 else 0

-- how many spaces are among items
abbrev pub spaces_among : List Item → ℕ
spaces_among items = sum_by one_if_blank items

-- a gap of no cells isn't put in
abbrev pub gap_of : ℕ → List Item
gap_of zero = []
gap_of (suc n) = Gap (suc n) ∷ []

-- so many cells after each space, and one more after each of the first ones
abbrev pub spread_by : ℕ → ℕ → List Item → List Item
spread_by each more [] = []
spread_by each more (x ∷ xs) =
    if is_blank_item x then x ∷ (gap_of (each + min more 1) ++ spread_by each (more - 1) xs)
    else x ∷ spread_by each more xs

-- so many free cells, all of them put in after the spaces; items without a space are unchanged
abbrev pub spread : ℕ → List Item → List Item
spread zero items = items
spread (suc free) items = spread_by (suc free / spaces_among items) (suc free % spaces_among items) items
