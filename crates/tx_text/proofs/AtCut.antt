-- What is at a cut of a text: an item, and after it another cut.
use Rattle.std.proofs.Common.{◌≡◌, ℕ, ◌+◌, ◌-◌, ◌<◌, true, not, ◌==◌, cond, List, [], ◌∷◌, ◌++◌, length, take}
use Rattle.std.proofs.Common.{drop, get_or, refl, sym, ap, subst, ◌∙◌, arith, append_assoc, length-append, append-nil}
use Rattle.std.specs.Prelude.{encode_utf8}
use Rattle.std.specs.List.{AllByRecursion, flat_map, prefix_len, take_while}
use Rattle.std.proofs.lemmas.List.{drop_at, drop-drop, take_at, take_rest, get_or-drop}
use Rattle.std.proofs.lemmas.List.Concat.{flat_map-append}
use Rattle.std.proofs.lemmas.Bool.Decides.{nat_tests}
use Rattle.tx_tree.specs.Texts.{Item, byte, symbol, item_bytes, IsItem, IsName, IsCut, is_name_byte}
use Rattle.tx_tree.proofs.Cutting.{cut_within}
use Rattle.tx_tree.proofs.PlaceFaults.{items_append}
use Rattle.tx_text.specs.Tables.{byte_code}
use Rattle.tx_text.specs.Displays.{item_text, display_text}
use Rattle.tx_text.specs.Clusters.{items_of, item_beginning_at}
use Rattle.tx_text.proofs.Reading.{items_again}

-- an item is at a place, and after it is a cut
pub record Stands (bytes : List ℕ) (at : ℕ) (item : Item) : Type 0 where
  pub is_item : IsItem item
  pub alone : item_beginning_at bytes at ≡ item ∷ []
  pub goes_on : items_of (drop at bytes) ≡ item ∷ items_of (drop (at + length (item_bytes item)) bytes)
  pub next : IsCut bytes (at + length (item_bytes item))
  pub spelled : drop at bytes ≡ item_bytes item ++ drop (at + length (item_bytes item)) bytes

stands_before : (bytes : List ℕ) (at : ℕ) (before : List Item) (item : Item) (after : List Item)
    → AllByRecursion IsItem before → AllByRecursion IsItem (item ∷ after)
    → bytes ≡ flat_map item_bytes before ++ flat_map item_bytes (item ∷ after)
    → at ≡ length (flat_map item_bytes before)
    → Stands bytes at item
stands_before bytes at before item after ib ia whole place =
    let k : ℕ = length (item_bytes item) in
    let front : List ℕ = flat_map item_bytes before in
    let rest : List ℕ = flat_map item_bytes after in
    let here : drop at bytes ≡ item_bytes item ++ rest =
    ap (drop at) whole ∙ drop_at front (item_bytes item ++ rest) at (sym place) in
    let behind : drop (at + k) bytes ≡ rest =
    sym (drop-drop k at bytes) ∙ ap (drop k) here ∙ drop_at (item_bytes item) rest k refl in
    let items : items_of (drop at bytes) ≡ item ∷ after = ap items_of here ∙ items_again (item ∷ after) ia in
    let later : items_of (drop (at + k) bytes) ≡ after = ap items_of behind ∙ items_again after ia.1 in
    let joined : flat_map item_bytes (before ++ item ∷ []) ≡ front ++ item_bytes item =
    flat_map-append item_bytes before (item ∷ []) ∙ ap (λ z. front ++ z) (append-nil (item_bytes item)) in
    record {
      is_item = ia.0;
      alone = ap (take 1) items;
      goes_on = items ∙ ap (λ l. item ∷ l) (sym later);
      next = (
        before ++ item ∷ [],
        after,
        items_append before (item ∷ []) ib (ia.0, tt),
        ia.1,
        whole ∙ sym (append_assoc front (item_bytes item) rest) ∙ ap (λ z. z ++ rest) (sym joined),
        ap (λ n. n + k) place ∙ sym (length-append front (item_bytes item)) ∙ ap length (sym joined),
      );
      spelled = here ∙ ap (λ z. item_bytes item ++ z) (sym behind);
    }

pub stands : (bytes : List ℕ) (at : ℕ) → IsCut bytes at → at < length bytes → (item : Item) × Stands bytes at item
stands bytes at h lt = by h.1 h.3 h.4
  where
    by : (after : List Item) → AllByRecursion IsItem after
        → bytes ≡ flat_map item_bytes h.0 ++ flat_map item_bytes after → (item : Item) × Stands bytes at item
    by [] ia whole = absurd (omega (arith, h.5, ap length whole ∙ ap length (append-nil (flat_map item_bytes h.0))))
    by (item ∷ after) ia whole = (item, stands_before bytes at h.0 item after h.2 ia whole h.5)

first_byte : (bytes : List ℕ) (at b : ℕ) (rest : List ℕ) → drop at bytes ≡ b ∷ rest → get_or bytes at 0 ≡ b
first_byte bytes at b rest e =
    let place : at ≡ at + 0 = omega arith in
    ap (λ n. get_or bytes n 0) place ∙ sym (get_or-drop at bytes 0 0) ∙ ap (λ l. get_or l 0 0) e

-- a byte other than < is an item
pub byte_stands : (bytes : List ℕ) (at : ℕ) → IsCut bytes at → at < length bytes → (get_or bytes at 0 ≡ 60 → ⊥)
    → Stands bytes at (byte (get_or bytes at 0))
byte_stands bytes at h lt other = let found = stands bytes at h lt in by found.0 found.1
  where
    by : (item : Item) → Stands bytes at item → Stands bytes at (byte (get_or bytes at 0))
    by (byte b) s = let P : ℕ → Type 0 =
        λ x. Stands bytes at (byte x) in subst P (sym (first_byte bytes at b (drop (at + 1) bytes) s.spelled)) s
    by (symbol name) s = absurd (other (first_byte bytes at 60 _ s.spelled))

-- a name goes up to the next >
name_length : (name rest : List ℕ) → AllByRecursion (λ b. is_name_byte b ≡ true) name
    → prefix_len (λ b. not (b == 62)) (name ++ 62 ∷ rest) ≡ length name
name_length [] rest h = refl
name_length (b ∷ name) rest h =
    let part = h.0 in
    let other : not (b == 62) ≡ true = grind (arith, nat_tests) in
    ap (λ t. cond t (1 + prefix_len (λ x. not (x == 62)) (name ++ 62 ∷ rest)) 0) other
    ∙ ap (λ n. 1 + n) (name_length name rest h.1) ∙ omega arith

-- a < begins a symbol, whose name goes up to the next >
pub record SymbolStands (bytes : List ℕ) (at : ℕ) (name : List ℕ) : Type 0 where
  pub is_name : IsName name
  pub there : Stands bytes at (symbol name)
  pub long : length (item_bytes (symbol name)) ≡ length name + 2

pub symbol_stands : (bytes : List ℕ) (at : ℕ) (name : List ℕ) → IsCut bytes at → at < length bytes
    → get_or bytes at 0 ≡ 60
    → name ≡ take_while (λ b. not (b == 62)) (drop (at + 1) bytes) → SymbolStands bytes at name
symbol_stands bytes at name h lt opened e = let found = stands bytes at h lt in by found.0 found.1
  where
    by : (item : Item) → Stands bytes at item → SymbolStands bytes at name
    by (byte b) s =
        let is = s.is_item in
        let same : b ≡ 60 = sym (first_byte bytes at b (drop (at + 1) bytes) s.spelled) ∙ opened in
        absurd (grind (arith, nat_tests))
    by (symbol known) s =
        let rest : List ℕ = drop (at + length (item_bytes (symbol known))) bytes in
        let whole : length (item_bytes (symbol known)) ≡ length known + 2 =
        omega (arith, length-append known (62 ∷ [])) in
        let behind : drop (at + 1) bytes ≡ known ++ 62 ∷ rest =
        sym (drop-drop 1 at bytes) ∙ ap (drop 1) s.spelled ∙ append_assoc known (62 ∷ []) rest in
        let same : name ≡ known =
        e ∙ ap (take_while (λ b. not (b == 62))) behind
        ∙ ap (λ n. take n (known ++ 62 ∷ rest)) (name_length known rest s.is_item.each)
        ∙ take_at known (62 ∷ rest) (length known) refl in
        let P : List ℕ → Type 0 = λ x. SymbolStands bytes at x in
        subst P (sym same) (record { is_name = s.is_item; there = s; long = whole })

-- the display text of the item at a place
pub text_there : (text : List ℕ) (at : ℕ) (item : Item) → Stands text at item
    → display_text (item_beginning_at text at) ≡ item_text item
text_there text at item s = ap display_text s.alone ∙ append-nil (item_text item)

pub long_there : (text : List ℕ) (at : ℕ) (item : Item) → Stands text at item
    → length (flat_map item_bytes (item_beginning_at text at)) ≡ length (item_bytes item)
long_there text at item s = ap (λ l. length (flat_map item_bytes l)) s.alone ∙ ap length (append-nil (item_bytes item))

pub cut_behind : (text : List ℕ) (at n : ℕ) (item : Item) → Stands text at item → n ≡ at + length (item_bytes item)
    → IsCut text n
cut_behind text at n item s e = subst (IsCut text) (sym e) s.next

pub items_behind_it : (text : List ℕ) (at n : ℕ) (item : Item) → Stands text at item → n ≡ at + length (item_bytes item)
    → items_of (drop at text) ≡ item_beginning_at text at ++ items_of (drop n text)
items_behind_it text at n item s e =
    s.goes_on ∙ ap (λ l. l ++ items_of (drop (at + length (item_bytes item)) text)) (sym s.alone)
    ∙ ap (λ k. item_beginning_at text at ++ items_of (drop k text)) (sym e)

inside : (text bytes : List ℕ) (at : ℕ) → bytes ≡ text → IsCut text at → (at ≡ length bytes → ⊥) → at < length text
inside text bytes at same h other =
    let le = cut_within text at h in let long : length bytes ≡ length text = ap length same in grind arith

pub symbol_here : (text bytes : List ℕ) (at : ℕ) (name : List ℕ) → bytes ≡ text → IsCut text at
    → (at ≡ length bytes → ⊥) → get_or bytes at 0 ≡ 60
    → name ≡ take_while (λ b. not (b == 62)) (take (length bytes - (at + 1)) (drop (at + 1) bytes))
    → SymbolStands text at name
symbol_here text bytes at name same h other opened e =
    symbol_stands text at name h (inside text bytes at same h other) (ap (λ l. get_or l at 0) (sym same) ∙ opened)
    (e ∙ ap (take_while (λ b. not (b == 62))) (take_rest bytes (at + 1))
    ∙ ap (λ l. take_while (λ b. not (b == 62)) (drop (at + 1) l)) same)

pub byte_here : (text bytes : List ℕ) (at : ℕ) → bytes ≡ text → IsCut text at → (at ≡ length bytes → ⊥)
    → (get_or bytes at 0 ≡ 60 → ⊥)
    → Stands text at (byte (get_or bytes at 0))
byte_here text bytes at same h other unopened =
    let P : List ℕ → Type 0 = λ l. Stands text at (byte (get_or l at 0)) in
    subst P (sym same)
    (byte_stands text at h (inside text bytes at same h other) (λ k. unopened (ap (λ l. get_or l at 0) same ∙ k)))

pub byte_shows : (text : List ℕ) (at b code : ℕ) → Stands text at (byte b) → code ≡ byte_code b
    → encode_utf8 code ≡ display_text (item_beginning_at text at)
byte_shows text at b code s e =
    ap encode_utf8 e ∙ sym (append-nil (encode_utf8 (byte_code b))) ∙ sym (text_there text at (byte b) s)
