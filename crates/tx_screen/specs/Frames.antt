-- What a terminal shows of a view and of its cursor.
use Rattle.std.specs.Prelude.{◌≡◌, ℕ, ◌+◌, ◌-◌, ◌&&◌, nat_lt, nat_le, min, List, [], ◌∷◌, ◌++◌, map, length, take}
use Rattle.std.specs.Prelude.{replicate, slice_get, slice_range, Option, Some, None, true, if◌then◌else◌}
use Rattle.tx_tree.specs.declared.places.Place.{Place}
use Rattle.tx_lines.specs.declared.cut.Cut.{Cut}
use Rattle.tx_layout.specs.declared.layout.Line.{Line}
use Rattle.tx_view_form.specs.Views.{WideView, IsView, lines_of}
use Rattle.tx_moves.specs.Rows.{row_of}
use Rattle.tx_moves.specs.PageNumbers.{page_of}
use Rattle.tx_session.specs.Worlds.{SeenSession}
use Rattle.tx_terminal.specs.Characters.{Shown}
use Rattle.tx_terminal.specs.Painter.{Repaints}
use Rattle.tx_page.specs.Lines.{line_characters}
use Rattle.tx_page.specs.Texts.{fitting}
use Rattle.tx_screen.specs.declared.modes.Size.{Size}
use Rattle.tx_screen.specs.Screens.{DeskSeen}

-- the row that shows a line, cut at the width of the terminal
abbrev pub line_shown : Size → Line → List Shown
line_shown size line = fitting size.columns (line_characters line)

-- the rows that show the lines from one on and before another
abbrev pub lines_shown : Size → List Line → ℕ → ℕ → List (List Shown)
lines_shown size lines from to = map (line_shown size) (slice_range lines from to)

-- the rows that show a page, as many as there is room for above the status line
abbrev pub page_shown : Size → List Line → Option Cut → List (List Shown)
page_shown size lines None = []
page_shown size lines (Some cut) = lines_shown size lines cut.from (min cut.to (cut.from + (size.rows - 1)))

-- at least n rows: these, and empty ones after them
abbrev pub padded : ℕ → List (List Shown) → List (List Shown)
padded n rows = rows ++ replicate (n - length rows) []

-- all rows of the terminal: those above the status line, and that line
abbrev pub framed : Size → List (List Shown) → List Shown → List (List Shown)
framed size above status = padded (size.rows - 1) (take (size.rows - 1) above) ++ status ∷ []

-- the cell of a row and a column of the view, where it is on the page and above the status line
abbrev pub cell_on : Size → Option Cut → ℕ × ℕ → Option (ℕ × ℕ)
cell_on size None cell = None
cell_on size (Some cut) cell =
    if nat_le cut.from cell.0 && nat_lt cell.0 cut.to && nat_lt (cell.0 - cut.from + 1) size.rows
    && nat_lt cell.1 size.columns
    then Some (cell.0 - cut.from, cell.1) else None

-- A terminal of this size shows a page of the view, and a status line. Where the document's cursor is drawn, it is its
-- page, and the terminal's cursor is at its cell, if that is among the cells of the terminal above the status line.
pub record IsScreenOf (size : Size) (v : WideView) (at : Place) (rows : List (List Shown)) (cursor : Option (ℕ × ℕ)) :
    Type 0 where
  pub page : ℕ
  pub status : List Shown
  pub all : rows ≡ framed size (page_shown size (lines_of v.units) (slice_get v.pages page)) status
  pub here : (p : ℕ × ℕ) (k : ℕ) → row_of v.units at ≡ Some p → page_of v.pages p.0 ≡ Some k → page ≡ k
  pub cell : (p : ℕ × ℕ) → row_of v.units at ≡ Some p → cursor ≡ cell_on size (slice_get v.pages page) p

-- A terminal shows a page of the session's view, which is that of the present documents where it is fresh.
pub record IsSessionScreen (size : Size) (s : SeenSession) (rows : List (List Shown)) (cursor : Option (ℕ × ℕ)) :
    Type 0 where
  pub view : WideView
  pub present : s.fresh ≡ true → IsView s.state.buffers s.width s.height view
  pub screen : IsScreenOf size view s.state.cursor rows cursor

-- Bytes are written after others. Each terminal that shows what was painted before shows what is painted now after
-- them. Where keys edit the document, that is a page of the session's view.
pub record IsDrawn (before : DeskSeen) (s : SeenSession) (old new : List ℕ) (after : DeskSeen) : Type 0 where
  pub bytes : List ℕ
  pub cursor : Option (ℕ × ℕ)
  pub written : new ≡ old ++ bytes
  pub repaints : Repaints bytes before.painted after.painted cursor
  pub screen : before.edits ≡ true → IsSessionScreen before.size s after.painted cursor
