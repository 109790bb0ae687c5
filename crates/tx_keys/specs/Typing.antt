-- The item of a text for a typed character.
use Rattle.std.specs.Prelude.{◌≡◌, ℕ, ◌+◌, ◌/◌, ◌%◌, ◌<◌, Bool, true, ◌==◌, ◌||◌, nat_lt, List, [], ◌∷◌}
use Rattle.std.specs.Prelude.{length, drop, codes, Option, Some, None, if◌then◌else◌}
use Rattle.std.specs.Int.{is_in_range}
use Rattle.std.specs.List.{take_while}
use Rattle.tx_tree.specs.Texts.{Item, byte, symbol, IsItem, is_item_byte}
use Rattle.tx_text.specs.Tables.{byte_code}
use Rattle.tx_text.specs.Displays.{item_codes}
use Rattle.tx_keys.specs.declared.typing.TheConstants.{SHOWN_BYTES}

-- The item that is typed for a code point: it shows that alone, and is a byte where a byte does. A no-break space is
-- the symbol at which no line ends.
pub record IsTyped (code : ℕ) (item : Item) : Type 0 where
  pub is_item : IsItem item
  pub shows : item_codes item ≡ code ∷ []
  pub by_byte : (b : ℕ) → b < 256 → is_item_byte b ≡ true → byte_code b ≡ code → (d : ℕ) × (item ≡ byte d)
  pub no_break : code ≡ 0xA0 → item ≡ symbol (codes "nbsp")

-- ---- how it is found

abbrev pub byte_among : List (ℕ × ℕ) → ℕ → Option ℕ
byte_among [] code = None
byte_among (row ∷ rows) code = if row.0 == code then Some row.1 else byte_among rows code

-- the code points of bytes that show their own number
abbrev pub is_own : ℕ → Bool
is_own code =
    is_in_range 0x20 0x7E code || is_in_range 0xC0 0xD6 code || is_in_range 0xD8 0xDE code
    || is_in_range 0xE0 0xF6 code || is_in_range 0xF8 0xFE code

abbrev pub byte_of : ℕ → Option ℕ
byte_of code =
    if code == 60 || code == 62 then None else if is_own code then Some code else byte_among SHOWN_BYTES code

abbrev pub hex_digit : ℕ → ℕ
hex_digit n = if nat_lt n 10 then 48 + n else 55 + n

abbrev pub six_digits : ℕ → List ℕ
six_digits code =
    hex_digit (code / 0x100000 % 16) ∷ hex_digit (code / 0x10000 % 16) ∷ hex_digit (code / 0x1000 % 16) ∷
    hex_digit (code / 0x100 % 16) ∷ hex_digit (code / 0x10 % 16) ∷ hex_digit (code % 16) ∷ []

abbrev pub is_nought : ℕ → Bool
is_nought b = b == 48

abbrev pub without_noughts : List ℕ → List ℕ
without_noughts ds = drop (length (take_while is_nought ds)) ds

-- the name of the symbol that shows a code point by its number
abbrev pub hex_name : ℕ → List ℕ
hex_name code = 35 ∷ without_noughts (six_digits code)
