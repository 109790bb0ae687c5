-- Where an end of a cluster is, and at which row and column it is drawn.
use Rattle.std.specs.Prelude.{◌≡◌, ℕ, ◌+◌, ◌<◌, ◌^◌, Bool, List, [], ◌∷◌, length, Option, None, Some, All}
use Rattle.std.specs.Option.{option_map, option_or}
use Rattle.tx_tree.specs.declared.places.Place.{Place}
use Rattle.tx_items.specs.declared.drawing.Item.{Item}
use Rattle.tx_items.specs.Cells.{cells_across}
use Rattle.tx_layout.specs.declared.layout.Line.{Line}
use Rattle.tx_view_form.specs.Positions.{Mark, IsShort}
use Rattle.tx_view_form.specs.Views.{lines_of}
use Rattle.tx_view_form.specs.Stops.{mark_place}
use Rattle.tx_moves.specs.Rows.{has_place, Extent, extent_on, extent_in, bare_in}
use Rattle.tx_part_layout.specs.LaidParts.{AreBelow}
use Rattle.tx_unit_layout.specs.Views.{unit_view, IsReadable}
use Rattle.tx_unit_layout.specs.declared.shown.Shown.{Shown}
use Rattle.tx_view.specs.Units.{unit_views, sums_from, row_counts, IsBelow, AreAllApart}
use Rattle.tx_view.specs.declared.ends.End.{End}
use Rattle.tx_view.specs.declared.ends.End.TheVariants.{Start, Stop}

-- of two numbers the one of this end
abbrev pub of_end : End → ℕ → ℕ → ℕ
of_end Start start stop = start
of_end Stop start stop = stop

-- where this end of a cluster is, in a unit with this path
abbrev pub end_place : End → List ℕ → Mark → Place
end_place end path m = mark_place path m (of_end end m.start m.stop)

-- this end of the item's cluster is the place, in a unit with this path
abbrev pub has_end : End → List ℕ → Place → Item → Bool
has_end end path at item = has_place (end_place end path) at item

-- the row and the column of this end
abbrev pub end_cell : End → Extent → ℕ × ℕ
end_cell end e = (e.row, of_end end e.from e.to)

-- the row and the column of the first cluster of a line of which this end is the place
abbrev pub end_on_line : End → List ℕ → Place → Line → Option (ℕ × ℕ)
end_on_line end path at line =
    option_map (end_cell end) (extent_on (has_end end path at) line.indent line.items)

-- those of the first such cluster on lines
abbrev pub end_on_lines : End → List ℕ → Place → List Line → Option (ℕ × ℕ)
end_on_lines end path at lines = option_map (end_cell end) (extent_in (has_end end path at) lines)

-- the row and the column at which a place is drawn on the lines of a unit with this path
abbrev pub row_on_lines : List ℕ → Place → List Line → Option (ℕ × ℕ)
row_on_lines path at lines =
    option_or (end_on_lines Start path at lines)
    (option_or (end_on_lines Stop path at lines) (option_map (λ e. (e.row, e.from)) (bare_in at path lines)))

-- the indent of the first of some lines, where these are their marks and there is none
abbrev pub bare_indent : List Mark → List Line → Option ℕ
bare_indent (m ∷ ms) lines = None
bare_indent [] [] = None
bare_indent [] (line ∷ lines) = Some line.indent

-- ---- numbers that fit

-- the columns of a line have numbers of 32 bits
abbrev pub IsNarrow : Line → Type 0
IsNarrow line = line.indent + cells_across line.items < 2 ^ 32

-- what is known of a unit in which rows and columns are found
pub record IsDrawable (x : Shown) : Type 0 where
  pub short : All (λ line. All IsShort line.items) (unit_view x).lines
  pub below : AreBelow 0 x.parts
  pub narrow : All IsNarrow (unit_view x).lines
  pub few : length (unit_view x).lines < 2 ^ 32

-- what is known of units in which rows and columns are found, where so many rows come before each
pub record AreDrawable (xs : List Shown) (firsts : List ℕ) : Type 0 where
  pub firsts_are : firsts ≡ sums_from 0 (row_counts (unit_views xs))
  pub readable : All IsReadable xs
  pub below : All IsBelow xs
  pub apart : AreAllApart (unit_views xs)
  pub narrow : All (λ x. All IsNarrow (unit_view x).lines) xs
  pub few : length (lines_of (unit_views xs)) < 2 ^ 32
