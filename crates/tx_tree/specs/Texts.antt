-- Texts: lists of items, each a byte or a symbol, and the cuts between items.
use Rattle.std.specs.Prelude.{◌≡◌, ℕ, ◌≤◌, ◌<◌, Bool, true, ◌==◌, ◌||◌, ◌&&◌, not, nat_le, List, [], ◌∷◌, ◌++◌, length}
use Rattle.std.specs.Prelude.{take}
use Rattle.std.specs.List.{AllByRecursion, flat_map}
use Rattle.tx_base.specs.Fronts.{IsLongestFront}
use Rattle.tx_tree.specs.declared.TheConstants.{MOST_NAME, MOST_TEXT}
use Rattle.tx_tree.specs.declared.texts.TextFault.{TextFault}
use Rattle.tx_tree.specs.declared.texts.TextFault.TheVariants.{TooLong, BadByte, BadSymbol, Memory}

-- an item: a byte, or a symbol by its name
pub data Item : Type 0 where
  byte : (b : ℕ) → Item
  symbol : (name : List ℕ) → Item

-- a byte that is an item: none of tab, newline, return, < and >
abbrev pub is_item_byte : ℕ → Bool
is_item_byte b = not (b == 9 || b == 10 || b == 13 || b == 60 || b == 62)

-- a byte with which no item begins: a tab, a newline, a return or >
abbrev pub begins_no_item : ℕ → Bool
begins_no_item b = b == 9 || b == 10 || b == 13 || b == 62

-- a byte of a symbol's name: visible ASCII, but < and >
abbrev pub is_name_byte : ℕ → Bool
is_name_byte b = nat_le 33 b && nat_le b 126 && not (b == 60 || b == 62)

-- a symbol's name
pub record IsName (name : List ℕ) : Type 0 where
  pub each : AllByRecursion (λ b. is_name_byte b ≡ true) name
  pub some : 1 ≤ length name
  pub short : length name ≤ MOST_NAME

abbrev pub IsItem : Item → Type 0
IsItem (byte b) = is_item_byte b ≡ true
IsItem (symbol name) = IsName name

-- the bytes of an item in a text
abbrev pub item_bytes : Item → List ℕ
item_bytes (byte b) = b ∷ []
item_bytes (symbol name) = 60 ∷ (name ++ 62 ∷ [])

-- the bytes are those of a list of items
abbrev pub IsText : List ℕ → Type 0
IsText bytes = (items : List Item) × AllByRecursion IsItem items × (bytes ≡ flat_map item_bytes items)

-- Place n of the bytes lies between two items, or at an edge.
abbrev pub IsCut : List ℕ → ℕ → Type 0
IsCut bytes n =
    (before after : List Item) × AllByRecursion IsItem before × AllByRecursion IsItem after
    × (bytes ≡ flat_map item_bytes before ++ flat_map item_bytes after)
    × (n ≡ length (flat_map item_bytes before))

-- Why bytes are no text within the limit: there are too many, or so many of them and no more begin a text. After these
-- comes a byte that is no item, or a symbol is unfinished.
abbrev pub IsTextFault : List ℕ → TextFault → Type 0
IsTextFault bytes (TooLong n) = (MOST_TEXT < length bytes) × (n ≡ length bytes)
IsTextFault bytes (BadByte n) = (length bytes ≤ MOST_TEXT) × IsLongestFront IsText bytes n × (n < length bytes)
    × IsText (take n bytes)
IsTextFault bytes (BadSymbol n) = (length bytes ≤ MOST_TEXT) × IsLongestFront IsText bytes n
    × (IsText (take n bytes) → ⊥)
IsTextFault bytes Memory = ⊥
