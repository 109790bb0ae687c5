-- A terminal as rows of cells with a cursor, and what the bytes that are written to it make of it. Known are the
-- control sequences of ECMA-48 that a screen is painted with, and the mode of xterm and DEC's terminals that shows the
-- cursor: CUP (`CSI row ; column H`), EL (`CSI 2 K`), SGR (`CSI m` and `CSI n m` where n is 0, 1, 3, 7 or from 30 to
-- 37) and DECTCEM (private mode 25, `h` and `l`). After all else, and where terminals differ, the terminal is
-- `unknown`, and nothing is said of what it shows.
use Rattle.std.specs.Prelude.{ℕ, ◌+◌, ◌-◌, ◌*◌, ◌==◌, ◌&&◌, ◌||◌, not, nat_lt, nat_le, Bool, true, false, List, [], ◌∷◌}
use Rattle.std.specs.Prelude.{◌++◌, length, take, drop, set, replicate, get_or, slice_get, Option, Some, None}
use Rattle.std.specs.Prelude.{if◌then◌else◌}
use Rattle.tx_terminal.specs.declared.inks.Ink.{Ink}
use Rattle.tx_terminal.specs.Inks.{plain, colors, is_same_ink}
use Rattle.tx_terminal.specs.Characters.{character_length, is_second, is_later}

-- What a cell shows: the bytes of a character in the first of its cells, and none in the others.
pub record Cell : Type 0 where
  pub glyphs : List ℕ
  pub ink : Ink

abbrev pub blank : Cell
blank = record { glyphs = 32 ∷ []; ink = plain }

-- the cells of a character that takes n of them
abbrev pub character_cells : List ℕ → ℕ → Ink → List Cell
character_cells glyphs n ink =
    record { glyphs = glyphs; ink = ink } ∷ replicate (n - 1) (record { glyphs = []; ink = ink })

-- what the bytes so far have begun
pub data Mode : Type 0 where
  -- nothing
  settled : Mode
  -- `ESC`
  escaped : Mode
  -- `CSI`: whether `?` follows, the numbers that are ended, and the one that goes on, 0 where it has no digit
  control : (private_use : Bool) → (done : List ℕ) → (last : ℕ) → Mode
  -- a character: how many of its bytes are to come, and those that came
  character : (left : ℕ) → (bytes : List ℕ) → Mode
  unknown : Mode

pub record Terminal : Type 0 where
  pub width : ℕ
  pub rows : List (List Cell)
  -- In how many cells this terminal shows a character, which is its own matter for some of them.
  pub cells_of : List ℕ → ℕ
  -- Row and column from 0. None after the last column, where some terminals wrap and others do not.
  pub cursor : Option (ℕ × ℕ)
  -- how text is written
  pub ink : Ink
  pub cursor_shown : Bool
  pub mode : Mode

abbrev pub row_at : Terminal → ℕ → List Cell
row_at t r = get_or t.rows r []

abbrev pub unknown_from : Terminal → Terminal
unknown_from t = record t { mode = unknown }

-- the cursor at a column of a row
abbrev pub cursor_at : Terminal → ℕ → ℕ → Option (ℕ × ℕ)
cursor_at t r c = if nat_lt c t.width then Some (r, c) else None

-- the same terminal, where the bytes so far have begun nothing
abbrev pub quiet : Terminal → Terminal
quiet t = record t { mode = settled }

-- the same, with the cursor at a cell
abbrev pub standing_at : Terminal → ℕ → ℕ → Terminal
standing_at t r c = record t { cursor = Some (r, c); mode = settled }

-- ---- text

-- a cell that isn't the first one of its character
abbrev pub is_rest_of : List ℕ → Bool
is_rest_of [] = true
is_rest_of (b ∷ bs) = false

abbrev pub is_rest : List Cell → ℕ → Bool
is_rest row c = is_rest_of (get_or row c blank).glyphs

-- A character of n cells at a column: within the row, and over no part of a character alone.
abbrev pub put : Terminal → ℕ → ℕ → List ℕ → ℕ → Terminal
put t r c glyphs n =
    if nat_le 1 n && (nat_le (c + n) t.width && not (is_rest (row_at t r) c || is_rest (row_at t r) (c + n)))
    then record t {
      rows = set t.rows r (take c (row_at t r) ++ (character_cells glyphs n t.ink ++ drop (c + n) (row_at t r)));
      cursor = cursor_at t r (c + n);
      mode = settled;
    }
    else unknown_from t

abbrev pub write : Terminal → Option (ℕ × ℕ) → List ℕ → Terminal
write t None glyphs = unknown_from t
write t (Some place) glyphs = put t place.0 place.1 glyphs (t.cells_of glyphs)

-- ---- control sequences

-- CUP: rows and columns are counted from 1
abbrev pub go_to : Terminal → ℕ → ℕ → Terminal
go_to t r c =
    if nat_le 1 r && (nat_le r (length t.rows) && (nat_le 1 c && nat_le c t.width)) then standing_at t (r - 1) (c - 1)
    else unknown_from t

-- EL 2: all of the cursor's row becomes blank. Terminals differ in what they do where text isn't plain.
abbrev pub erase_row : Terminal → Option (ℕ × ℕ) → Terminal
erase_row t None = unknown_from t
erase_row t (Some place) =
    if is_same_ink t.ink plain then record t { rows = set t.rows place.0 (replicate t.width blank); mode = settled }
    else unknown_from t

-- the same terminal, where text is written so
abbrev pub writing_in : Terminal → Ink → Terminal
writing_in t ink = record t { ink = ink; mode = settled }

-- SGR: 0 is plain, 1 bold, 3 italic, 7 reverse, and 30 to 37 are the colors
abbrev pub set_rendition : Terminal → ℕ → Terminal
set_rendition t n =
    if n == 0 then writing_in t plain
    else if n == 1 then writing_in t (record t.ink { bold = true })
    else if n == 3 then writing_in t (record t.ink { italic = true })
    else if n == 7 then writing_in t (record t.ink { reverse = true })
    else if nat_le 30 n && nat_le n 37 then writing_in t (record t.ink { color = slice_get colors (n - 30) })
    else unknown_from t

-- by the last byte and the number before it
abbrev pub end_single : Terminal → ℕ → ℕ → Terminal
end_single t n b =
    if b == 109 then set_rendition t n
    else if b == 75 && (n == 2) then erase_row t t.cursor
    else unknown_from t

-- DECTCEM
abbrev pub end_private : Terminal → ℕ → ℕ → Terminal
end_private t n b =
    if n == 25 && (b == 104) then record t { cursor_shown = true; mode = settled }
    else if n == 25 && (b == 108) then record t { cursor_shown = false; mode = settled }
    else unknown_from t

abbrev pub end_control : Terminal → Bool → List ℕ → ℕ → ℕ → Terminal
end_control t true [] last b = end_private t last b
end_control t true (n ∷ ns) last b = unknown_from t
end_control t false [] last b = end_single t last b
end_control t false (n ∷ []) last b = if b == 72 then go_to t n last else unknown_from t
end_control t false (n ∷ m ∷ ns) last b = unknown_from t

-- `?` stands before the numbers
abbrev pub ask : Terminal → Bool → List ℕ → ℕ → Terminal
ask t false [] last = if last == 0 then record t { mode = control true [] 0 } else unknown_from t
ask t false (n ∷ ns) last = unknown_from t
ask t true done last = unknown_from t

abbrev pub in_control : Terminal → Bool → List ℕ → ℕ → ℕ → Terminal
in_control t asked done last b =
    if nat_le 48 b && nat_le b 57 then record t { mode = control asked done (last * 10 + (b - 48)) }
    else if b == 59 then record t { mode = control asked (done ++ last ∷ []) 0 }
    else if b == 63 then ask t asked done last
    else end_control t asked done last b

-- ---- bytes

abbrev pub in_settled : Terminal → ℕ → Terminal
in_settled t b =
    if b == 27 then record t { mode = escaped }
    else if character_length b == 0 then unknown_from t
    else if character_length b == 1 then write t t.cursor (b ∷ [])
    else record t { mode = character (character_length b - 1) (b ∷ []) }

-- whether a byte goes on with a character of which these came
abbrev pub continues : List ℕ → ℕ → Bool
continues [] b = false
continues (a ∷ []) b = is_second a b
continues (a ∷ c ∷ cs) b = is_later b

abbrev pub in_character : Terminal → ℕ → List ℕ → ℕ → Terminal
in_character t left bytes b =
    if continues bytes b then (if left == 1 then write t t.cursor (bytes ++ b ∷ [])
    else record t { mode = character (left - 1) (bytes ++ b ∷ []) })
    else unknown_from t

abbrev pub take_in : Mode → Terminal → ℕ → Terminal
take_in settled t b = in_settled t b
take_in escaped t b = if b == 91 then record t { mode = control false [] 0 } else unknown_from t
take_in (control asked done last) t b = in_control t asked done last b
take_in (character left bytes) t b = in_character t left bytes b
take_in unknown t b = t

-- what a byte makes of a terminal
abbrev pub after_byte : Terminal → ℕ → Terminal
after_byte t b = take_in t.mode t b

-- what bytes make of it, in order
abbrev pub after_bytes : Terminal → List ℕ → Terminal
after_bytes t [] = t
after_bytes t (b ∷ bs) = after_bytes (after_byte t b) bs
