-- Characters in UTF-8 that a terminal shows, and the cells that they take.
use Rattle.std.specs.Prelude.{◌≡◌, ℕ, ◌+◌, ◌≤◌, ◌==◌, ◌&&◌, ◌||◌, nat_le, Bool, true, false, List, [], ◌∷◌, length}
use Rattle.std.specs.Prelude.{if◌then◌else◌}
use Rattle.std.specs.List.{list_all}
use Rattle.tx_terminal.specs.declared.inks.Ink.{Ink}

-- the bytes of the character that a byte begins; 0 for a control, and where none begins with it
abbrev pub character_length : ℕ → ℕ
character_length b =
    if nat_le 32 b && nat_le b 126 then 1
    else if nat_le 194 b && nat_le b 223 then 2
    else if nat_le 224 b && nat_le b 239 then 3
    else if nat_le 240 b && nat_le b 244 then 4
    else 0

-- The second byte after a first one: no control from U+0080 to U+009F, no form longer than needed, no surrogate, and
-- nothing past U+10FFFF.
abbrev pub least_second : ℕ → ℕ
least_second first = if first == 194 || first == 224 then 160 else if first == 240 then 144 else 128

abbrev pub most_second : ℕ → ℕ
most_second first = if first == 237 then 159 else if first == 244 then 143 else 191

abbrev pub is_second : ℕ → ℕ → Bool
is_second first b = nat_le (least_second first) b && nat_le b (most_second first)

abbrev pub is_later : ℕ → Bool
is_later b = nat_le 128 b && nat_le b 191

-- these bytes are one character, and no control
abbrev pub is_character : List ℕ → Bool
is_character [] = false
is_character (a ∷ []) = character_length a == 1
is_character (a ∷ b ∷ bs) = (character_length a == length bs + 2) && (is_second a b && list_all is_later bs)

-- A character of a row: its bytes, the cells that it takes, and how it is shown.
pub record Shown : Type 0 where
  pub glyphs : List ℕ
  pub cells : ℕ
  pub ink : Ink

pub record IsShown (s : Shown) : Type 0 where
  pub one : is_character s.glyphs ≡ true
  pub wide : 1 ≤ s.cells
