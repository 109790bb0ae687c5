-- Bytes that end no line.
use Rattle.std.proofs.Common.{◌≡◌, ◌≢◌, ℕ, ◌≤◌, true, List, [], ◌∷◌, ◌++◌, inl, inr, sym, subst, arith}
use Rattle.std.specs.Prelude.{cond, ◌==◌, ◌||◌}
use Rattle.std.specs.List.{AllByRecursion, flat_map}
use Rattle.std.proofs.lemmas.Bool.{cases_Bool, false≢true}
use Rattle.std.proofs.lemmas.Bool.Decides.{nat_tests}
use Rattle.tx_tree.specs.Texts.{Item, byte, symbol, IsItem, IsText, item_bytes, is_item_byte, is_name_byte}
use Rattle.tx_tree.specs.PathSpelling.{is_digit, AreNumbers, IsNumber, SpellsPath}
use Rattle.tx_scm.specs.Spelling.{escaped, string_of}
use Rattle.tx_cmd.specs.Words.{is_file_name_byte, IsFileName}
use Rattle.tx_telling.specs.Lines.{HasNoLineEnd}

-- ---- one byte

abbrev EndsNone : ℕ → Type 0
EndsNone b = (b ≢ 10) × (b ≢ 13)

pub above : (b : ℕ) → 14 ≤ b → EndsNone b
above b h = ((λ e. omega arith), (λ e. omega arith))

above_digit : (b : ℕ) → is_digit b ≡ true → 14 ≤ b
above_digit b h = grind (arith, nat_tests)

above_file_name : (b : ℕ) → is_file_name_byte b ≡ true → 14 ≤ b
above_file_name b h = grind (arith, nat_tests)

above_name : (b : ℕ) → is_name_byte b ≡ true → 14 ≤ b
above_name b h = grind (arith, nat_tests)

item_byte : (b : ℕ) → is_item_byte b ≡ true → EndsNone b
item_byte b h = (
  (λ e. false≢true (subst (λ x. is_item_byte x ≡ true) e h)),
  (λ e. false≢true (subst (λ x. is_item_byte x ≡ true) e h)),
)

-- ---- bytes

pub both : (xs ys : List ℕ) → HasNoLineEnd xs → HasNoLineEnd ys → HasNoLineEnd (xs ++ ys)
both [] ys h k = k
both (x ∷ xs) ys h k = (h.0, both xs ys h.1 k)

each : (P : ℕ → Type 0) → ((b : ℕ) → P b → EndsNone b) → (bytes : List ℕ) → AllByRecursion P bytes → HasNoLineEnd bytes
each P f [] h = tt
each P f (b ∷ bytes) h = (f b h.0, each P f bytes h.1)

pub file_name_ends_none : (name : List ℕ) → IsFileName name → HasNoLineEnd name
file_name_ends_none name h =
    each (λ b. is_file_name_byte b ≡ true) (λ b k. above b (above_file_name b k)) name h.each

-- ---- paths

pub number_ends_none : (digits : List ℕ) (n : ℕ) → IsNumber digits n → HasNoLineEnd digits
number_ends_none digits n h = each (λ b. is_digit b ≡ true) (λ b k. above b (above_digit b k)) digits h.each

numbers_end_none : (path bytes : List ℕ) → AreNumbers bytes path → HasNoLineEnd bytes
numbers_end_none [] bytes h = subst HasNoLineEnd (sym h) tt
numbers_end_none (n ∷ path) bytes h =
    let digits = number_ends_none h.0 n h.2 in
    let all : HasNoLineEnd (47 ∷ (h.0 ++ h.1)) =
    (above 47 (omega arith), both h.0 h.1 digits (numbers_end_none path h.1 h.4)) in
    subst HasNoLineEnd (sym h.3) all

pub path_ends_none : (bytes path : List ℕ) → SpellsPath bytes path → HasNoLineEnd bytes
path_ends_none bytes [] h = subst HasNoLineEnd (sym h) (above 47 (omega arith), tt)
path_ends_none bytes (n ∷ path) h = numbers_end_none (n ∷ path) bytes h.0

-- ---- texts and their strings

item_ends_none : (item : Item) → IsItem item → HasNoLineEnd (item_bytes item)
item_ends_none (byte b) h = (item_byte b h, tt)
item_ends_none (symbol name) h = (
  above 60 (omega arith),
  both name (62 ∷ []) (each (λ b. is_name_byte b ≡ true) (λ b k. above b (above_name b k)) name h.each)
      (above 62 (omega arith), tt),
)

items_end_none : (items : List Item) → AllByRecursion IsItem items → HasNoLineEnd (flat_map item_bytes items)
items_end_none [] h = tt
items_end_none (item ∷ items) h =
    both (item_bytes item) (flat_map item_bytes items) (item_ends_none item h.0) (items_end_none items h.1)

escaped_ends_none : (b : ℕ) → EndsNone b → HasNoLineEnd (escaped b)
escaped_ends_none b h =
    elim (cases_Bool (b == 34 || b == 92)) [
      | inl is ↦
          subst (λ t. HasNoLineEnd (cond t (92 ∷ b ∷ []) (b ∷ []))) (sym is) (above 92 (omega arith), (h, tt))
      | inr other ↦ subst (λ t. HasNoLineEnd (cond t (92 ∷ b ∷ []) (b ∷ []))) (sym other) (h, tt)
    ]

all_escaped : (text : List ℕ) → HasNoLineEnd text → HasNoLineEnd (flat_map escaped text)
all_escaped [] h = tt
all_escaped (b ∷ text) h = both (escaped b) (flat_map escaped text) (escaped_ends_none b h.0) (all_escaped text h.1)

pub string_ends_none : (text : List ℕ) → IsText text → HasNoLineEnd (string_of text)
string_ends_none text h =
    let ends = subst HasNoLineEnd (sym h.2) (items_end_none h.0 h.1) in
    let quote : HasNoLineEnd (34 ∷ []) = (above 34 (omega arith), tt) in
    (above 34 (omega arith), both (flat_map escaped text) (34 ∷ []) (all_escaped text ends) quote)
