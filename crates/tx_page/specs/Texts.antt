-- Which characters of a row show a text of one line, as a name or a message.
use Rattle.std.specs.Prelude.{ℕ, ◌-◌, ◌==◌, ◌||◌, nat_le, List, [], ◌∷◌, map, chars, codes, encode_utf8, if◌then◌else◌}
use Rattle.tx_terminal.specs.declared.inks.Ink.{Ink}
use Rattle.tx_terminal.specs.Characters.{Shown}
use Rattle.tx_page.specs.Clusters.{shown, cells_alone}

-- a character that takes one or two cells alone is shown, and others are `?`
abbrev pub code_glyphs : ℕ → List ℕ
code_glyphs code = if (cells_alone code == 1) || (cells_alone code == 2) then encode_utf8 code else codes "?"

abbrev pub code_cells : ℕ → ℕ
code_cells code = if cells_alone code == 2 then 2 else 1

abbrev pub code_character : Ink → ℕ → Shown
code_character ink code = shown (code_glyphs code) (code_cells code) ink

-- the first characters of a row, as many as fit a width
abbrev pub fitting : ℕ → List Shown → List Shown
fitting width [] = []
fitting width (s ∷ row) = if nat_le s.cells width then s ∷ fitting (width - s.cells) row else []

abbrev pub all_characters : List ℕ → Ink → List Shown
all_characters text ink = map (code_character ink) (chars text)

abbrev pub text_characters : List ℕ → ℕ → Ink → List Shown
text_characters text width ink = fitting width (all_characters text ink)
