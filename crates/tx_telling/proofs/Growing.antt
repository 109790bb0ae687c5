-- The text that is typed, character by character.
use Rattle.std.proofs.Common.{◌≡◌, ℕ, suc, ◌+◌, ◌*◌, ◌<◌, ◌≤◌, Bool, true, false, List, [], ◌∷◌, ◌++◌, length, take}
use Rattle.std.proofs.Common.{get_or, refl, sym, ap, subst, ◌∙◌, arith, length-append}
use Rattle.std.specs.Prelude.{cond}
use Rattle.std.specs.List.{AllByRecursion, flat_map}
use Rattle.std.proofs.lemmas.List.{append-nil, take_more}
use Rattle.std.proofs.lemmas.List.Concat.{flat_map-append}
use Rattle.std.proofs.lemmas.List.Elements.{filter-append}
use Rattle.tx_tree.specs.Texts.{Item, byte, symbol, IsItem, IsText, item_bytes}
use Rattle.tx_text.specs.Displays.{is_shown_code}
use Rattle.tx_keys.specs.Typing.{IsTyped}
use Rattle.tx_telling.specs.Characters.{AreTyped, IsTypedText, shown_codes}
use Rattle.tx_telling.proofs.Lengths.{items_short}

-- ---- one character more

pub typed_none : IsTypedText [] []
typed_none = record { items = []; typed = tt; bytes = refl }

one_more : (codes : List ℕ) (items : List Item) (code : ℕ) (item : Item) → AreTyped codes items → IsTyped code item
    → AreTyped (codes ++ code ∷ []) (items ++ item ∷ [])
one_more [] [] code item h k = (k, tt)
one_more [] (i ∷ items) code item h k = absurd h
one_more (c ∷ codes) [] code item h k = absurd h
one_more (c ∷ codes) (i ∷ items) code item h k = (h.0, one_more codes items code item h.1 k)

shown_more : (codes : List ℕ) (code : ℕ) → is_shown_code code ≡ true
    → shown_codes (codes ++ code ∷ []) ≡ shown_codes codes ++ code ∷ []
shown_more codes code shown =
    filter-append is_shown_code codes (code ∷ [])
    ∙ ap (λ t. shown_codes codes ++ cond t (code ∷ []) []) shown

shown_same : (codes : List ℕ) (code : ℕ) → is_shown_code code ≡ false
    → shown_codes (codes ++ code ∷ []) ≡ shown_codes codes
shown_same codes code none =
    filter-append is_shown_code codes (code ∷ [])
    ∙ ap (λ t. shown_codes codes ++ cond t (code ∷ []) []) none ∙ append-nil (shown_codes codes)

pub typed_more : (codes text : List ℕ) (code : ℕ) (item : Item) → is_shown_code code ≡ true → IsTyped code item
    → IsTypedText codes text → IsTypedText (codes ++ code ∷ []) (text ++ item_bytes item)
typed_more codes text code item shown is h =
    record {
      items = h.items ++ item ∷ [];
      typed = subst (λ c. AreTyped c (h.items ++ item ∷ [])) (sym (shown_more codes code shown))
          (one_more (shown_codes codes) h.items code item h.typed is);
      bytes = ap (λ t. t ++ item_bytes item) h.bytes ∙ sym (flat_map-append item_bytes h.items (item ∷ [])
          ∙ ap (λ t. flat_map item_bytes h.items ++ t) (append-nil (item_bytes item)));
    }

pub typed_same : (codes text : List ℕ) (code : ℕ) → is_shown_code code ≡ false → IsTypedText codes text
    → IsTypedText (codes ++ code ∷ []) text
typed_same codes text code none h =
    record {
      items = h.items;
      typed = subst (λ c. AreTyped c h.items) (sym (shown_same codes code none)) h.typed;
      bytes = h.bytes;
    }

-- what is pushed for the next of many
pub typed_step : (codes text next : List ℕ) (i : ℕ) (shown : Bool) → i < length codes
    → shown ≡ is_shown_code (get_or codes i 0)
    → (shown ≡ true → (item : Item) × IsTyped (get_or codes i 0) item × (next ≡ text ++ item_bytes item))
    → (shown ≡ false → next ≡ text) → IsTypedText (take i codes) text → IsTypedText (take (i + 1) codes) next
typed_step codes text next i true lt is added same h =
    let item = added refl in
    rw (take_more codes i 0 lt) (subst (λ t. IsTypedText (take i codes ++ get_or codes i 0 ∷ []) t) (sym item.2)
    (typed_more (take i codes) text (get_or codes i 0) item.0 (sym is) item.1 h))
typed_step codes text next i false lt is added same h =
    rw (take_more codes i 0 lt) (subst (λ t. IsTypedText (take i codes ++ get_or codes i 0 ∷ []) t) (sym (same refl))
    (typed_same (take i codes) text (get_or codes i 0) (sym is) h))

-- ---- what is typed is a text, and nothing alone has no bytes

are_items : (codes : List ℕ) (items : List Item) → AreTyped codes items → AllByRecursion IsItem items
are_items [] [] h = tt
are_items [] (i ∷ items) h = absurd h
are_items (c ∷ codes) [] h = absurd h
are_items (c ∷ codes) (i ∷ items) h = (h.0.is_item, are_items codes items h.1)

pub typed_is_text : (codes text : List ℕ) → IsTypedText codes text → IsText text
typed_is_text codes text h = (h.items, are_items (shown_codes codes) h.items h.typed, h.bytes)

item_has_bytes : (item : Item) → 1 ≤ length (item_bytes item)
item_has_bytes (byte b) = omega arith
item_has_bytes (symbol name) = omega arith

shows_none : (codes : List ℕ) (items : List Item) → AreTyped codes items → length (flat_map item_bytes items) ≡ 0
    → codes ≡ []
shows_none [] items h e = refl
shows_none (c ∷ codes) [] h e = absurd h
shows_none (c ∷ codes) (i ∷ items) h e =
    absurd (omega (arith, length-append (item_bytes i) (flat_map item_bytes items), item_has_bytes i))

pub typed_nothing : (codes text : List ℕ) → IsTypedText codes text → length text ≡ 0 → shown_codes codes ≡ []
typed_nothing codes text h e =
    shows_none (shown_codes codes) h.items h.typed (sym (ap length h.bytes) ∙ e)

has_bytes : (codes : List ℕ) (items : List Item) → AreTyped codes items → codes ≡ [] → items ≡ []
has_bytes [] [] h e = refl
has_bytes [] (i ∷ items) h e = absurd h
has_bytes (c ∷ codes) items h e = absurd (omega (arith, ap length e))

pub typed_something : (codes text : List ℕ) → IsTypedText codes text → shown_codes codes ≡ [] → length text ≡ 0
typed_something codes text h e =
    ap length h.bytes ∙ ap (λ i. length (flat_map item_bytes i)) (has_bytes (shown_codes codes) h.items h.typed e)

-- ---- and is short

as_many : (codes : List ℕ) (items : List Item) → AreTyped codes items → length items ≡ length codes
as_many [] [] h = refl
as_many [] (i ∷ items) h = absurd h
as_many (c ∷ codes) [] h = absurd h
as_many (c ∷ codes) (i ∷ items) h = omega (arith, as_many codes items h.1)

shown_few : (codes : List ℕ) → length (shown_codes codes) ≤ length codes
shown_few [] = omega arith
shown_few (c ∷ codes) = few (is_shown_code c) (shown_few codes)
  where
    few : (t : Bool) → length (shown_codes codes) ≤ length codes
        → length (cond t (c ∷ shown_codes codes) (shown_codes codes)) ≤ suc (length codes)
    few true h = omega arith
    few false h = omega arith

pub typed_short : (codes text : List ℕ) → IsTypedText codes text → length text ≤ 257 * length codes
typed_short codes text h =
    omega (
      arith,
      ap length h.bytes,
      items_short h.items (are_items (shown_codes codes) h.items h.typed),
      as_many (shown_codes codes) h.items h.typed,
      shown_few codes,
    )
