-- The lines of the words between two cuts.
use Rattle.std.specs.Prelude.{◌≡◌, ℕ, ◌+◌, ◌-◌, ◌/◌, Bool, true, false, List, [], ◌∷◌, map, slice_range, get_or}
use Rattle.std.specs.Prelude.{if◌then◌else◌}
use Rattle.tx_items.specs.declared.drawing.Item.{Item}
use Rattle.tx_lines.specs.declared.cut.Cut.{Cut}
use Rattle.tx_lines.specs.declared.first_fit.Piece.{Piece}
use Rattle.tx_lines.specs.FirstFit.{IsFirstFit}
use Rattle.tx_layout.specs.declared.measures.Side.{Side}
use Rattle.tx_layout.specs.declared.measures.Side.TheVariants.{Left, Center, Right, Justify}
use Rattle.tx_layout.specs.declared.measures.Frame.{Frame}
use Rattle.tx_layout.specs.declared.pieces.Span.{Span}
use Rattle.tx_layout.specs.declared.layout.Line.{Line}
use Rattle.tx_layout.specs.Frames.{least_width}
use Rattle.tx_items.specs.Cells.{cells_across}
use Rattle.tx_layout.specs.Words.{SpansFrom}
use Rattle.tx_layout.specs.Spread.{spread}

-- by how much a line with so many free cells is moved right
abbrev pub shift : Side → ℕ → ℕ
shift Left free = 0
shift Center free = free / 2
shift Right free = free
shift Justify free = 0

-- how many of a line's free cells are put in after its spaces: all, but none on the last line of a segment
abbrev pub put_in : Side → Bool → ℕ → ℕ
put_in Left is_last free = 0
put_in Center is_last free = 0
put_in Right is_last free = 0
put_in Justify true free = 0
put_in Justify false free = free

abbrev pub piece_of : List Item → Span → Piece
piece_of items s =
    record {
      before = cells_across (slice_range items s.spaces s.from);
      cells = cells_across (slice_range items s.from s.to);
    }

abbrev pub width_at : Frame → Bool → ℕ
width_at frame is_first = if is_first then frame.first_width else frame.later_width

abbrev pub indent_at : Frame → Bool → ℕ
indent_at frame is_first = if is_first then frame.first_indent else frame.later_indent

-- these items, spread over their width or moved right in it
abbrev pub line_with : Frame → Bool → Bool → List Item → Line
line_with frame is_first is_last items =
    let free = width_at frame is_first - cells_across items in
    record {
      indent = indent_at frame is_first + shift frame.side free;
      items = spread (put_in frame.side is_last free) items;
      page_end = false;
    }

abbrev pub no_span : Span
no_span = record { spaces = 0; from = 0; to = 0 }

-- a line holds what is from the beginning of its first piece to the end of its last
abbrev pub line_of : Frame → Bool → Bool → List Item → List Span → Cut → Line
line_of frame is_first is_last items spans cut =
    line_with frame is_first is_last
    (slice_range items (get_or spans cut.from no_span).from (get_or spans (cut.to - 1) no_span).to)

abbrev pub are_none : List Cut → Bool
are_none [] = true
are_none (cut ∷ cuts) = false

abbrev pub lines_of : Frame → Bool → List Item → List Span → List Cut → List Line
lines_of frame is_first items spans [] = []
lines_of frame is_first items spans (cut ∷ cuts) =
    line_of frame is_first (are_none cuts) items spans cut ∷ lines_of frame false items spans cuts

-- the lines of a segment's words: its pieces, first-fit
pub record HasWords (frame : Frame) (is_first : Bool) (items : List Item) (lines : List Line) : Type 0 where
  pub spans : List Span
  pub cuts : List Cut
  pub spelled : SpansFrom (least_width frame) items 0 spans
  pub filled : IsFirstFit (map (piece_of items) spans) (width_at frame is_first) frame.later_width cuts
  pub made : lines ≡ lines_of frame is_first items spans cuts
