-- Which characters of a row show a cluster in its cells.
use Rattle.std.specs.Prelude.{ℕ, ◌-◌, ◌==◌, List, [], ◌∷◌, replicate, slice_get, chars, codes, encode_utf8, unwrap_or}
use Rattle.std.specs.Prelude.{Option, Some, None, false, if◌then◌else◌}
use Rattle.std.specs.Str.{is_utf8}
use Rattle.unicode_width.specs.Width.{char_width}
use Rattle.tx_terminal.specs.declared.inks.Ink.{Ink}
use Rattle.tx_terminal.specs.Characters.{Shown, is_character}

abbrev pub shown : List ℕ → ℕ → Ink → Shown
shown glyphs cells ink = record { glyphs = glyphs; cells = cells; ink = ink }

abbrev pub blanks : ℕ → Ink → List Shown
blanks n ink = replicate n (shown (codes " ") 1 ink)

-- the cells that a character takes alone; none for a control
abbrev pub cells_alone : ℕ → ℕ
cells_alone code = unwrap_or (char_width false code) 0

abbrev pub if_narrow : Option ℕ → Option ℕ
if_narrow None = None
if_narrow (Some code) = if cells_alone code == 1 then Some code else None

-- the first character of a text, where it takes one cell alone
abbrev pub narrow_first : List ℕ → Option ℕ
narrow_first bytes = if is_utf8 bytes then if_narrow (slice_get (chars bytes) 0) else None

-- the replacement character, U+FFFD, and blanks after it, in n cells
abbrev pub replaced : ℕ → Ink → List Shown
replaced n ink = shown (0xEF ∷ 0xBF ∷ 0xBD ∷ []) 1 ink ∷ blanks (n - 1) ink

-- several characters in n cells, by their first one where it takes one cell alone
abbrev pub several_characters : Option ℕ → ℕ → Ink → List Shown
several_characters None n ink = replaced n ink
several_characters (Some code) n ink = if n == 1 then shown (encode_utf8 code) 1 ink ∷ [] else replaced n ink

-- A cluster of one character is that character. Of several ones in one cell the first is shown, as a letter without its
-- accent. Terminals differ in others, as in a flag: these are replaced.
abbrev pub cluster_characters : List ℕ → ℕ → Ink → List Shown
cluster_characters glyphs n ink =
    if n == 0 then []
    else if is_character glyphs then shown glyphs n ink ∷ []
    else several_characters (narrow_first glyphs) n ink
