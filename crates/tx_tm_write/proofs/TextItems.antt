-- The items of a text, as they are written, stand for its bytes.
use Rattle.std.proofs.Common.{◌≡◌, ℕ, ◌+◌, ◌-◌, ◌<◌, Bool, true, false, ◌==◌, ◌&&◌, ◌||◌, not, nat_le, is_some}
use Rattle.std.proofs.Common.{if◌then◌else◌, List, [], ◌∷◌, ◌++◌, map, Some, refl, sym, ap, subst, ◌∙◌, append_assoc}
use Rattle.std.proofs.Common.{arith}
use Rattle.std.specs.List.{AllByRecursion, flat_map}
use Rattle.std.proofs.lemmas.Bool.{eqb-true}
use Rattle.tx_tree.specs.Texts.{Item, byte, symbol, is_item_byte, is_name_byte, IsName, IsItem, item_bytes}
use Rattle.tx_tree.specs.Labels.{is_label_byte}
use Rattle.tx_tm_form.specs.declared.bytes.Escaped.TheVariants.{Byte}
use Rattle.tx_tm_form.specs.declared.bytes.White.TheVariants.{Spaces}
use Rattle.tx_tm_form.specs.Bytes.{kind_of, is_white, is_plain, escape_of, is_angle, can_escape}
use Rattle.tx_tm_form.specs.Tokens.{white, plain, escape, written}
use Rattle.tx_tm_form.specs.Parts.{ContentPart, gap, text}
use Rattle.tx_tm_form.specs.Forms.{blank, letter, escaped, symbol as symbol_piece, name_token, symbol_bytes}
use Rattle.tx_tm_write.specs.Canonical.{is_marked, is_control, byte_text, is_held, items_text}
use Rattle.tx_tm_write.proofs.Standing.{IsWord, AreWords, both_words, one_word, word_before, Stands, nothing_stands}
use Rattle.tx_tm_write.proofs.Standing.{both_stand, one_stands}

-- ---- one byte

-- the part that a byte of a text is, where raw says how a space is written
abbrev pub byte_part : Bool → ℕ → ContentPart
byte_part raw b = if b == 32 && raw then gap Spaces else text (b ∷ [])

white_space : is_white (kind_of 32) ≡ true
unfolding kind_of is_label_byte
white_space = refl

raw_space : Stands (32 ∷ []) (gap Spaces ∷ [])
raw_space = one_stands (blank 32) (32 ∷ []) (one_word (white 32) white_space)

escape_stands : (b v : ℕ) → escape_of b ≡ Some (Byte v) → Stands (92 ∷ b ∷ []) (text (v ∷ []) ∷ [])
escape_stands b v e =
    one_stands (escaped b (Byte v) e) (92 ∷ b ∷ []) (one_word (escape b) (ap (λ o. is_some o || is_angle b) e))

letter_stands : (b : ℕ) → is_plain (kind_of b) ≡ true → Stands (b ∷ []) (text (b ∷ []) ∷ [])
letter_stands b h = one_stands (letter b h) (b ∷ []) (one_word (plain b) h)

space_escape : escape_of 32 ≡ Some (Byte 32)
unfolding escape_of
space_escape = refl

marked_escape : (b : ℕ) → is_item_byte b ≡ true → is_marked b ≡ true → escape_of b ≡ Some (Byte b)
unfolding escape_of
marked_escape b h m = grind arith

-- the escape of a control byte that is an item: the byte 64 more
control_low : (b : ℕ) → is_control b ≡ true → b < 32
control_low b c = grind arith

no_mark : (b : ℕ) → (b + 64 == 59) ≡ false
no_mark b = grind arith

not_itself : (b : ℕ) → is_control b ≡ true → (b + 64 == 124 || b + 64 == 92 || b + 64 == 32) ≡ false
not_itself b c = grind arith

no_zero : (b : ℕ) → (b + 64 == 48) ≡ false
no_zero b = grind arith

not_refused : (b : ℕ) → is_item_byte b ≡ true → (b + 64 == 73 || b + 64 == 74 || b + 64 == 77) ≡ false
not_refused b h = grind arith

in_range : (b : ℕ) → b < 32 → (nat_le 64 (b + 64) && nat_le (b + 64) 95) ≡ true
in_range b h = grind arith

control_escape : (b : ℕ) → is_item_byte b ≡ true → is_control b ≡ true → escape_of (b + 64) ≡ Some (Byte b)
unfolding escape_of
control_escape b h c =
    let low = control_low b c in
    let back : b + 64 - 64 ≡ b = omega arith in
    rw (no_mark b, not_itself b c, no_zero b, not_refused b h, in_range b low) (ap (λ v. Some (Byte v)) back)

pub other_plain : (b : ℕ) → is_item_byte b ≡ true → (b == 32) ≡ false → is_marked b ≡ false
    → is_plain (kind_of b) ≡ true
unfolding kind_of
other_plain b h s m = grind arith

by_tests : (raw s m c : Bool) (b : ℕ) → is_item_byte b ≡ true → (b == 32) ≡ s → is_marked b ≡ m → is_control b ≡ c
    → Stands (if s then (if raw then 32 ∷ [] else 92 ∷ 32 ∷ []) else if m then 92 ∷ b ∷ [] else if c then 92 ∷ (b + 64)
    ∷ [] else b ∷ []) ((if s && raw then gap Spaces else text (b ∷ [])) ∷ [])
by_tests true true m c b h e k l = raw_space
by_tests false true m c b h e k l =
    subst (λ z. Stands (92 ∷ 32 ∷ []) (text (z ∷ []) ∷ [])) (sym (eqb-true b 32 e)) (escape_stands 32 32 space_escape)
by_tests raw false true c b h e k l = escape_stands b b (marked_escape b h k)
by_tests raw false false true b h e k l = escape_stands (b + 64) b (control_escape b h l)
by_tests raw false false false b h e k l = letter_stands b (other_plain b h e k)

byte_stands : (raw : Bool) (b : ℕ) → is_item_byte b ≡ true → Stands (byte_text raw b) (byte_part raw b ∷ [])
byte_stands raw b h = by_tests raw (b == 32) (is_marked b) (is_control b) b h refl refl refl

-- ---- symbols

name_item : (b : ℕ) → is_name_byte b ≡ true → is_item_byte b ≡ true
name_item b h = grind arith

no_space : (b : ℕ) → is_name_byte b ≡ true → (b == 32) ≡ false
no_space b h = grind arith

no_control : (b : ℕ) → is_name_byte b ≡ true → is_control b ≡ false
no_control b h = grind arith

name_marked : (b : ℕ) → is_name_byte b ≡ true → is_marked b ≡ (b == 124 || b == 92)
name_marked b h = grind arith

marks_escape : (b : ℕ) → (b == 124 || b == 92) ≡ true → can_escape b ≡ true
unfolding escape_of
marks_escape b h = grind arith

angles_escape : (can_escape 60 ≡ true) × (can_escape 62 ≡ true)
unfolding escape_of
angles_escape = (refl, refl)

name_text : (raw m : Bool) (b : ℕ)
    → (if false then (if raw then 32 ∷ [] else 92 ∷ 32 ∷ []) else if m then 92 ∷ b ∷ [] else if false then 92 ∷ (b + 64)
    ∷ [] else b ∷ []) ≡ written (if m then escape b else plain b)
name_text raw true b = refl
name_text raw false b = refl

name_byte_text : (raw : Bool) (b : ℕ) → is_name_byte b ≡ true → byte_text raw b ≡ written (name_token b)
name_byte_text raw b h = rw (no_space b h, no_control b h, name_marked b h) (name_text raw (b == 124 || b == 92) b)

name_word : (b : ℕ) → is_name_byte b ≡ true → IsWord (name_token b)
name_word b h =
    elim (b == 124 || b == 92) as (λ m. (b == 124 || b == 92) ≡ m → IsWord (if m then escape b else plain b)) [
      | true ↦ λ e. marks_escape b e
      | false ↦ λ e. other_plain b (name_item b h) (no_space b h) (name_marked b h ∙ e)
    ] refl

name_words : (name : List ℕ) → AllByRecursion (λ b. is_name_byte b ≡ true) name
    → AllByRecursion IsWord (map name_token name)
name_words [] h = tt
name_words (b ∷ name) h = (name_word b h.0, name_words name h.1)

-- the words of a name
abbrev name_bytes : List ℕ → List ℕ
name_bytes name = flat_map written (map name_token name)

symbol_words : (name : List ℕ) → IsName name
    → AreWords (92 ∷ 60 ∷ (name_bytes name ++ 92 ∷ 62 ∷ [])) (escape 60 ∷ (map name_token name ++ escape 62 ∷ []))
symbol_words name h =
    word_before (escape 60) (name_bytes name ++ 92 ∷ 62 ∷ []) (map name_token name ++ escape 62 ∷ []) angles_escape.0
    (both_words (name_bytes name) (92 ∷ 62 ∷ []) (map name_token name) (escape 62 ∷ [])
    (record { each = name_words name h.each; all = refl }) (one_word (escape 62) angles_escape.1))

symbol_stands : (name : List ℕ) → IsName name
    → Stands (92 ∷ 60 ∷ (name_bytes name ++ 92 ∷ 62 ∷ [])) (text (symbol_bytes name) ∷ [])
symbol_stands name h =
    one_stands (symbol_piece name h) (92 ∷ 60 ∷ (name_bytes name ++ 92 ∷ 62 ∷ [])) (symbol_words name h)

name_items : (name : List ℕ) (behind : Bool) (rest : List ℕ) → AllByRecursion (λ b. is_name_byte b ≡ true) name
    → items_text true behind (name ++ 62 ∷ rest) ≡ (name_bytes name ++ 92 ∷ 62 ∷ []) ++ items_text true behind rest
name_items [] behind rest h = refl
name_items (b ∷ name) behind rest h =
    ap (λ z. z ++ items_text (not (b == 32)) behind (name ++ 62 ∷ rest))
    (name_byte_text (true && is_held behind (name ++ 62 ∷ rest)) b h.0)
    ∙ ap (λ s. written (name_token b) ++ items_text (not s) behind (name ++ 62 ∷ rest)) (no_space b h.0)
    ∙ ap (λ z. written (name_token b) ++ z) (name_items name behind rest h.1)
    ∙ simp append_assoc refl

-- ---- texts

-- the parts of items
abbrev pub item_parts : Bool → Bool → List Item → List ContentPart
item_parts before behind [] = []
item_parts before behind (byte b ∷ items) =
    byte_part (before && is_held behind (flat_map item_bytes items)) b ∷ item_parts (not (b == 32)) behind items
item_parts before behind (symbol name ∷ items) = text (symbol_bytes name) ∷ item_parts true behind items

pub items_stand : (before behind : Bool) (items : List Item) → AllByRecursion IsItem items
    → Stands (items_text before behind (flat_map item_bytes items)) (item_parts before behind items)
items_stand before behind [] h = nothing_stands
items_stand before behind (byte b ∷ items) h =
    both_stand (byte_text (before && is_held behind (flat_map item_bytes items)) b)
    (items_text (not (b == 32)) behind (flat_map item_bytes items))
    (byte_part (before && is_held behind (flat_map item_bytes items)) b ∷ []) (item_parts (not (b == 32)) behind items)
    (byte_stands (before && is_held behind (flat_map item_bytes items)) b h.0)
    (items_stand (not (b == 32)) behind items h.1)
items_stand before behind (symbol name ∷ items) h =
    let rest = flat_map item_bytes items in
    let same : (92 ∷ 60 ∷ (name_bytes name ++ 92 ∷ 62 ∷ [])) ++ items_text true behind rest ≡ items_text before behind
    (flat_map item_bytes (symbol name ∷ items))
    = ap (λ z. 92 ∷ 60 ∷ z) (sym (name_items name behind rest h.0.each))
    ∙ ap (λ z. 92 ∷ 60 ∷ items_text true behind z) (sym (append_assoc name (62 ∷ []) rest)) in
    subst (λ z. Stands z (text (symbol_bytes name) ∷ item_parts true behind items)) same
    (both_stand (92 ∷ 60 ∷ (name_bytes name ++ 92 ∷ 62 ∷ [])) (items_text true behind rest)
    (text (symbol_bytes name) ∷ []) (item_parts true behind items) (symbol_stands name h.0)
    (items_stand true behind items h.1))
