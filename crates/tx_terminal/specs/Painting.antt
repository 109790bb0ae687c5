-- What it is to paint a row, and the bytes that do it.
use Rattle.std.specs.Prelude.{◌≡◌, ℕ, ◌+◌, ◌-◌, ◌*◌, ◌<◌, ◌≤◌, Bool, List, [], ◌∷◌, ◌++◌, length}
use Rattle.std.specs.Prelude.{set, take, drop, map, replicate, decimal, Option, Some, None, if◌then◌else◌}
use Rattle.std.specs.List.{AllByRecursion, flat_map}
use Rattle.tx_terminal.specs.declared.inks.Color.{Color}
use Rattle.tx_terminal.specs.declared.inks.Ink.{Ink}
use Rattle.tx_terminal.specs.Inks.{plain, color_number, is_same_ink}
use Rattle.tx_terminal.specs.Characters.{Shown}
use Rattle.tx_terminal.specs.Terminals.{Cell, Terminal, blank, character_cells, cursor_at, quiet, standing_at}
use Rattle.tx_terminal.specs.Terminals.{after_bytes}
use Rattle.tx_terminal.specs.Terminals.Mode.{settled}

-- the cells of a row's characters
abbrev pub shown_cells : Shown → List Cell
shown_cells s = character_cells s.glyphs s.cells s.ink

abbrev pub row_cells : List Shown → List Cell
row_cells row = flat_map shown_cells row

-- the terminal shows a character in as many cells as the row says
abbrev pub IsAsWide : Terminal → Shown → Type 0
IsAsWide t s = t.cells_of s.glyphs ≡ s.cells

-- cells, and blanks after them up to a width
abbrev pub filled : ℕ → List Cell → List Cell
filled width cells = cells ++ replicate (width - length cells) blank

-- A terminal with these cells in a row and blanks after them, and all other rows as before. The cursor is after the
-- cells, and text is plain.
abbrev pub with_row : Terminal → ℕ → List Cell → Terminal
with_row t r cells =
    record t {
      rows = set t.rows r (filled t.width cells);
      cursor = cursor_at t r (length cells);
      ink = plain;
      mode = settled;
    }

-- how often the ink changes along a row, from an ink on
abbrev pub ink_changes : Ink → List Shown → ℕ
ink_changes ink [] = 0
ink_changes ink (s ∷ ss) = (if is_same_ink ink s.ink then 0 else 1) + ink_changes s.ink ss

-- the most bytes that a row needs
abbrev pub most_row_bytes : List Shown → ℕ
most_row_bytes row = 20 + 4 * length row + 20 * ink_changes plain row

-- These bytes paint a row, whatever the terminal showed before, wherever its cursor was, and however text was written.
pub record Paints (bytes : List ℕ) (r : ℕ) (row : List Shown) : Type 0 where
  -- how many they are at most
  pub few : length bytes ≤ most_row_bytes row
  pub painted : (t : Terminal) → r < length t.rows → 0 < t.width → length (row_cells row) ≤ t.width
      → AllByRecursion (IsAsWide t) row → after_bytes (quiet t) bytes ≡ with_row t r (row_cells row)

-- a row has room on a terminal, which shows each of its characters in as many cells as the row says
abbrev pub Fits : Terminal → List Shown → Type 0
Fits t row = (length (row_cells row) ≤ t.width) × AllByRecursion (IsAsWide t) row

-- a terminal with these rows first, and all further rows as before
abbrev pub with_rows : Terminal → ℕ → List (List Shown) → List (List Cell)
with_rows t r rows =
    take r t.rows ++ (map (λ row. filled t.width (row_cells row)) rows ++ drop (r + length rows) t.rows)

-- nothing has changed but these rows from row r on, the cursor and the ink of text
abbrev pub HasRows : Terminal → ℕ → List (List Shown) → Terminal → Type 0
HasRows t r rows u =
    (cursor : Option (ℕ × ℕ)) × (ink : Ink) × (u ≡ record t {
      rows = with_rows t r rows;
      cursor = cursor;
      ink = ink;
      mode = settled;
    })

-- the most bytes that rows need
abbrev pub most_bytes : List (List Shown) → ℕ
most_bytes [] = 0
most_bytes (row ∷ rows) = most_row_bytes row + most_bytes rows

-- These bytes paint rows, from the first of the terminal on, whatever it showed before.
pub record PaintsRows (bytes : List ℕ) (rows : List (List Shown)) : Type 0 where
  -- how many they are at most
  pub few : length bytes ≤ most_bytes rows
  pub painted : (t : Terminal) → length rows ≤ length t.rows → 0 < t.width → AllByRecursion (Fits t) rows
      → HasRows t 0 rows (after_bytes (quiet t) bytes)

-- these bytes move the cursor to a cell
pub record Moves (bytes : List ℕ) (r c : ℕ) : Type 0 where
  pub few : length bytes ≤ 14
  pub moved : (t : Terminal) → r < length t.rows → c < t.width → after_bytes (quiet t) bytes ≡ standing_at t r c

-- these bytes show the cursor or hide it, and change nothing else
pub record ShowsCursor (bytes : List ℕ) (shown : Bool) : Type 0 where
  pub few : length bytes ≤ 6
  pub shows : (t : Terminal) → after_bytes (quiet t) bytes ≡ record t { cursor_shown = shown; mode = settled }

-- ---- the bytes

abbrev pub move_bytes : ℕ → ℕ → List ℕ
move_bytes r c = 27 ∷ (91 ∷ (decimal (r + 1) ++ (59 ∷ (decimal (c + 1) ++ 72 ∷ []))))

-- SGR with the number that these digits spell, or with none
abbrev pub sgr : List ℕ → List ℕ
sgr digits = 27 ∷ 91 ∷ (digits ++ 109 ∷ [])

abbrev pub part_bytes : Bool → ℕ → List ℕ
part_bytes is_set digit = if is_set then sgr (digit ∷ []) else []

abbrev pub color_bytes : Option Color → List ℕ
color_bytes None = []
color_bytes (Some color) = sgr (51 ∷ (48 + color_number color) ∷ [])

-- plain, and then each part of an ink
abbrev pub ink_bytes : Ink → List ℕ
ink_bytes ink =
    sgr [] ++ (part_bytes ink.bold 49
    ++ (part_bytes ink.italic 51 ++ (part_bytes ink.reverse 55 ++ color_bytes ink.color)))

-- from an ink to an ink
abbrev pub change_bytes : Ink → Ink → List ℕ
change_bytes from to = if is_same_ink from to then [] else ink_bytes to

-- characters in order, and plain after the last one
abbrev pub text_bytes : Ink → List Shown → List ℕ
text_bytes ink [] = change_bytes ink plain
text_bytes ink (s ∷ ss) = change_bytes ink s.ink ++ (s.glyphs ++ text_bytes s.ink ss)

-- plain, and the row erased
abbrev pub clearing : List ℕ
clearing = 27 ∷ 91 ∷ 109 ∷ 27 ∷ 91 ∷ 50 ∷ 75 ∷ []

abbrev pub row_bytes : ℕ → List Shown → List ℕ
row_bytes r row = move_bytes r 0 ++ (clearing ++ text_bytes plain row)

-- rows in order, from row r of the terminal on
abbrev pub rows_bytes : ℕ → List (List Shown) → List ℕ
rows_bytes r [] = []
rows_bytes r (row ∷ rows) = row_bytes r row ++ rows_bytes (r + 1) rows
