-- Lines by the places of their items in a paragraph.
use Rattle.std.specs.Prelude.{◌≡◌, ℕ, ◌+◌, ◌-◌, ◌<◌, ◌≤◌, min, Bool, true, false, List, [], ◌∷◌, map, length}
use Rattle.std.specs.Prelude.{slice_range, get_or}
use Rattle.tx_items.specs.declared.drawing.Item.{Item}
use Rattle.tx_lines.specs.declared.cut.Cut.{Cut}
use Rattle.tx_lines.specs.declared.first_fit.Piece.{Piece}
use Rattle.tx_lines.specs.FirstFit.{IsFirstFit}
use Rattle.tx_layout.specs.declared.measures.Frame.{Frame}
use Rattle.tx_layout.specs.declared.pieces.Span.{Span}
use Rattle.tx_layout.specs.declared.segments.Row.{Row}
use Rattle.tx_layout.specs.declared.layout.Line.{Line}
use Rattle.tx_layout.specs.Frames.{least_width}
use Rattle.tx_items.specs.Cells.{cells_across, item_cells}
use Rattle.tx_layout.specs.Words.{SpansFrom}
use Rattle.tx_layout.specs.Spread.{spread}
use Rattle.tx_layout.specs.Segments.{shift, put_in, piece_of, width_at, indent_at, no_span, are_none, HasWords}
use Rattle.tx_layout.specs.Shapes.{behind_cut_by, or_single, or_empty}

-- the line with the items at these places, and the cells that are put in
abbrev pub line_at : List Item → Row → Line
line_at items row =
    record { indent = row.indent; items = spread row.put (slice_range items row.from row.to); page_end = row.page_end }

abbrev pub empty_row : Row
empty_row = record { indent = 0; from = 0; to = 0; put = 0; page_end = false }

abbrev pub row_ending : Row → Row
row_ending row = record row { page_end = true }

abbrev pub rows_behind : Item → List Row → List Row
rows_behind cut rows = behind_cut_by row_ending empty_row cut rows

abbrev pub rows_or_empty : Bool → Bool → List Row → List Row
rows_or_empty is_first is_last rows = or_single empty_row is_first is_last rows

-- the places are within so many items, and no more cells are put in than a page has
abbrev pub IsWithin : ℕ → Row → Type 0
IsWithin len row = (row.from ≤ row.to) × (row.to ≤ len) × (row.put ≤ 500)

-- an item is no wider than this
abbrev pub Narrow : ℕ → Item → Type 0
Narrow least item = item_cells item ≤ least

-- the row of a cut of the pieces of a segment that begins at a place
abbrev pub row_at : Frame → Bool → Bool → ℕ → List Item → List Span → Cut → Row
row_at frame is_first is_last start segment spans cut =
    let from = (get_or spans cut.from no_span).from in
    let to = (get_or spans (cut.to - 1) no_span).to in
    let free = width_at frame is_first - cells_across (slice_range segment from to) in
    record {
      indent = indent_at frame is_first + shift frame.side free;
      from = start + from;
      to = start + to;
      put = put_in frame.side is_last free;
      page_end = false;
    }

abbrev pub rows_at : Frame → Bool → ℕ → List Item → List Span → List Cut → List Row
rows_at frame is_first start segment spans [] = []
rows_at frame is_first start segment spans (cut ∷ cuts) =
    row_at frame is_first (are_none cuts) start segment spans cut ∷ rows_at frame false start segment spans cuts

-- more cells than any line has room for count as 501
abbrev pub capped_piece : Piece → Piece
capped_piece p = record { before = min p.before 501; cells = min p.cells 501 }

-- a piece ends within the items, and no earlier than an earlier one begins
abbrev pub Rises : List Item → List Span → Type 0
Rises items spans =
    (i j : ℕ) (d e : Span) → i ≤ j → j < length spans →
    ((get_or spans i d).from ≤ (get_or spans j e).to) × ((get_or spans j e).to ≤ length items)

-- the rows of a segment's words
pub record AreRows (frame : Frame) (is_first : Bool) (start : ℕ) (segment : List Item) (rows : List Row) : Type 0 where
  pub spans : List Span
  pub cuts : List Cut
  pub spelled : SpansFrom (least_width frame) segment 0 spans
  pub filled : IsFirstFit (map (piece_of segment) spans) (width_at frame is_first) frame.later_width cuts
  pub made : rows ≡ rows_at frame is_first start segment spans cuts

-- the lines of a segment, also without a word
pub record OwnLines (frame : Frame) (is_first is_last : Bool) (segment : List Item) (lines : List Line) : Type 0 where
  pub words : List Line
  pub filled : HasWords frame is_first segment words
  pub made : lines ≡ or_empty is_first is_last words
