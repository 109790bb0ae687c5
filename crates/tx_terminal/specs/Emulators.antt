-- The terminal that an emulator is.
use Rattle.std.specs.Prelude.{◌≡◌, ℕ, ◌+◌, ◌-◌, ◌*◌, ◌<◌, ◌==◌, Bool, true, false, List, [], ◌∷◌, length, get_or}
use Rattle.std.specs.Prelude.{replicate, slice_get, Option, Some, None, IfSome, if◌then◌else◌}
use Rattle.std.specs.List.{flat_map}
use lib.Utf8.{scalar}
use Rattle.unicode_width.specs.Width.{char_width}
use Rattle.tx_terminal.specs.declared.inks.Ink.{Ink}
use Rattle.tx_terminal.specs.declared.begun.Begun.{Begun}
use Rattle.tx_terminal.specs.declared.begun.Begun.TheVariants.{Nothing, Escape, Control, Character, Lost}
use Rattle.tx_terminal.specs.Inks.{plain}
use Rattle.tx_terminal.specs.Terminals.{Cell, Mode, Terminal, blank}
use Rattle.tx_terminal.specs.Terminals.Mode.{settled, escaped, control, character, unknown}

-- what a terminal shows, and what the bytes so far have begun
pub record Screen : Type 0 where
  pub width : ℕ
  pub rows : List (List Cell)
  pub cursor : Option (ℕ × ℕ)
  pub ink : Ink
  pub cursor_shown : Bool
  pub mode : Mode

-- the number of a character by its bytes in UTF-8
abbrev pub code_of : List ℕ → ℕ
code_of [] = 0
code_of (a ∷ []) = a
code_of (a ∷ b ∷ []) = (a - 192) * 64 + (b - 128)
code_of (a ∷ b ∷ c ∷ []) = ((a - 224) * 64 + (b - 128)) * 64 + (c - 128)
code_of (a ∷ b ∷ c ∷ d ∷ more) = (((a - 240) * 64 + (b - 128)) * 64 + (c - 128)) * 64 + (d - 128)

abbrev pub known_width : Option ℕ → ℕ
known_width None = 0
known_width (Some n) = n

abbrev pub cells_of_code : ℕ → ℕ
cells_of_code code = if scalar code then known_width (char_width false code) else 0

-- In how many cells an emulator shows a character: its width by Unicode, outside East Asian contexts.
unfoldable pub cells_of : List ℕ → ℕ
cells_of glyphs = cells_of_code (code_of glyphs)

-- the terminal that shows it
abbrev pub terminal : Screen → Terminal
terminal s =
    record {
      width = s.width;
      rows = s.rows;
      cells_of = cells_of;
      cursor = s.cursor;
      ink = s.ink;
      cursor_shown = s.cursor_shown;
      mode = s.mode;
    }

-- all cells are blank, and the place of the cursor isn't known
abbrev pub empty : ℕ → ℕ → Screen
empty width height =
    record {
      width = width;
      rows = replicate height (replicate width blank);
      cursor = None;
      ink = plain;
      cursor_shown = true;
      mode = settled;
    }

-- ---- what can be asked

abbrev pub is_known : Mode → Bool
is_known settled = true
is_known escaped = true
is_known (control asked done last) = true
is_known (character left bytes) = true
is_known unknown = false

abbrev pub shown_cursor : Screen → Option (ℕ × ℕ)
shown_cursor s = if s.cursor_shown then s.cursor else None

-- a blank before the last character
abbrev pub onto : ℕ → List ℕ → List ℕ
onto b [] = if b == 32 then [] else b ∷ []
onto b (c ∷ cs) = b ∷ (c ∷ cs)

-- bytes without the blanks at their end
abbrev pub without_last_blanks : List ℕ → List ℕ
without_last_blanks [] = []
without_last_blanks (b ∷ bs) = onto b (without_last_blanks bs)

abbrev pub glyphs_of : List Cell → List ℕ
glyphs_of row = flat_map (λ c. c.glyphs) row

-- the characters of a row without the blanks at its end
abbrev pub text_of : Screen → ℕ → List ℕ
text_of s r = without_last_blanks (glyphs_of (get_or s.rows r []))

abbrev pub ink_of : Option Cell → Option Ink
ink_of None = None
ink_of (Some c) = Some c.ink

-- how a cell is shown; None where there is no such cell
abbrev pub ink_at : Screen → ℕ → ℕ → Option Ink
ink_at s r c = ink_of (slice_get (get_or s.rows r []) c)

-- ---- how it is held

abbrev pub mode_of : Begun → Mode
mode_of Nothing = settled
mode_of Escape = escaped
mode_of (Control s) = control s.asked s.done.items s.last
mode_of (Character p) = character p.0 p.1
mode_of Lost = unknown

-- all rows have the width, and the cursor is at a cell
pub record IsWhole (width : ℕ) (rows : List (List Cell)) (cursor : Option (ℕ × ℕ)) : Type 0 where
  pub few : length rows < 65536
  pub wide : (r : ℕ) → r < length rows → length (get_or rows r []) ≡ width
  pub within : IfSome cursor (λ place. (place.0 < length rows) × (place.1 < width))
