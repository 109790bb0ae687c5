-- What the items of a text show as.
use Rattle.std.specs.Prelude.{ℕ, ◌+◌, ◌*◌, Bool, ◌==◌, ◌&&◌, ◌||◌, nat_le, nat_lt, List, [], ◌∷◌, ◌++◌, length, Option}
use Rattle.std.specs.Prelude.{Some, None, if◌then◌else◌, encode_utf8_all}
use Rattle.std.specs.List.{flat_map}
use Rattle.std.specs.Char.{digit_value}
use Rattle.tx_tree.specs.Texts.{Item, byte, symbol}
use Rattle.tx_text.specs.Tables.{byte_code, named_code}

-- the number that hexadecimal digits spell after others that spell a value, or None where they aren't all digits
abbrev pub hex_behind : ℕ → List ℕ → Option ℕ
hex_behind value [] = Some value
hex_behind value (digit ∷ digits) =
    if nat_lt (digit_value digit) 16 then hex_behind (value * 16 + digit_value digit) digits else None

-- a code point that a symbol may show by its number: no control and no surrogate
abbrev pub is_shown_code : ℕ → Bool
is_shown_code code =
    (nat_le 0x20 code && nat_le code 0x7E) || (nat_le 0xA0 code && nat_le code 0xD7FF)
    || (nat_le 0xE000 code && nat_le code 0x10FFFF)

abbrev pub shown_code : Option ℕ → Option ℕ
shown_code None = None
shown_code (Some code) = if is_shown_code code then Some code else None

-- the code point of a symbol that is known by its number, of one to six digits
abbrev pub numbered_code : List ℕ → Option ℕ
numbered_code digits =
    if nat_le 1 (length digits) && nat_le (length digits) 6 then shown_code (hex_behind 0 digits) else None

-- the code point that a symbol shows as: that of its number after a #, or that of its name
abbrev pub symbol_code : List ℕ → Option ℕ
symbol_code [] = None
symbol_code (b ∷ bs) = if b == 35 then numbered_code bs else named_code (b ∷ bs)

-- a symbol without a code point shows as its own bytes, brackets included
abbrev pub symbol_codes : List ℕ → Option ℕ → List ℕ
symbol_codes name (Some code) = code ∷ []
symbol_codes name None = 60 ∷ (name ++ 62 ∷ [])

-- the code points that an item shows as
abbrev pub item_codes : Item → List ℕ
item_codes (byte b) = byte_code b ∷ []
item_codes (symbol name) = symbol_codes name (symbol_code name)

-- the display text of an item, in UTF-8
abbrev pub item_text : Item → List ℕ
item_text item = encode_utf8_all (item_codes item)

-- the display text of items
abbrev pub display_text : List Item → List ℕ
display_text items = flat_map item_text items
