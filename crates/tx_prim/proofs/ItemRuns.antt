-- Items of a text, byte by byte.
use Rattle.std.proofs.Common.{◌≡◌, ℕ, zero, suc, ◌+◌, ◌-◌, ◌≤◌, ◌<◌, Bool, true, false, cond, ◌==◌, List, [], ◌∷◌, ◌++◌}
use Rattle.std.proofs.Common.{map, length, take, drop, refl, sym, ap, subst, ◌∙◌, append_assoc, arith, take-add, get_or}
use Rattle.std.proofs.Common.{not}
use Rattle.std.specs.List.{AllByRecursion, flat_map}
use Rattle.std.proofs.lemmas.List.{append-nil, length-append, at_drop_more, take-append-drop, take_at, drop_at}
use Rattle.std.proofs.lemmas.List.Concat.{flat_map-append}
use Rattle.tx_tree.specs.Texts.{Item, byte, symbol, is_name_byte, IsItem, item_bytes, IsText}
use Rattle.tx_tree.proofs.PlaceFaults.{items_append}
use Rattle.tx_prim.specs.Items.{text_items, symbol_items, joined_lists}

by_test : {A : Type 0} (P : A → Type 0) (b : Bool) (x y : A) → (b ≡ true → P x) → (b ≡ false → P y) → P (cond b x y)
by_test P true x y f g = f refl
by_test P false x y f g = g refl

-- bytes before the first item
abbrev onto : List ℕ → List (List ℕ) → List (List ℕ)
onto s [] = []
onto s (x ∷ xs) = (s ++ x) ∷ xs

onto_cond : (s : List ℕ) (c : Bool) (x y : List (List ℕ)) → onto s (cond c x y) ≡ cond c (onto s x) (onto s y)
onto_cond s true x y = refl
onto_cond s false x y = refl

two : (c : Bool) (x y z w : List (List ℕ)) → x ≡ z → y ≡ w → cond c x y ≡ cond c z w
two c x y z w e f = ap (λ v. cond c v y) e ∙ ap (λ v. cond c z v) f

symbol_onto : (s a rest : List ℕ) → symbol_items (s ++ a) rest ≡ onto s (symbol_items a rest)
symbol_onto s a [] = refl
symbol_onto s a (b ∷ rest) =
    two (b == 62) (((s ++ a) ++ b ∷ []) ∷ text_items rest) (symbol_items ((s ++ a) ++ b ∷ []) rest)
    (onto s ((a ++ b ∷ []) ∷ text_items rest)) (onto s (symbol_items (a ++ b ∷ []) rest))
    (ap (λ x. x ∷ text_items rest) (append_assoc s a (b ∷ [])))
    (ap (λ x. symbol_items x rest) (append_assoc s a (b ∷ [])) ∙ symbol_onto s (a ++ b ∷ []) rest)
    ∙ sym (onto_cond s (b == 62) ((a ++ b ∷ []) ∷ text_items rest) (symbol_items (a ++ b ∷ []) rest))

pub symbol_begun : (s rest : List ℕ) → symbol_items s rest ≡ onto s (symbol_items [] rest)
symbol_begun s rest = ap (λ x. symbol_items x rest) (sym (append-nil s)) ∙ symbol_onto s [] rest

length_onto : (s : List ℕ) (xs : List (List ℕ)) → length (onto s xs) ≡ length xs
length_onto s [] = refl
length_onto s (x ∷ xs) = refl

same_count : (s rest : List ℕ) → length (symbol_items s rest) ≡ length (symbol_items [] rest)
same_count s rest = ap length (symbol_begun s rest) ∙ length_onto s (symbol_items [] rest)

-- the symbol that is open is an item
some_symbol : (s rest : List ℕ) → 1 ≤ length (symbol_items s rest)
some_symbol s [] = omega arith
some_symbol s (b ∷ rest) =
    by_test (λ xs. 1 ≤ length xs) (b == 62) ((s ++ b ∷ []) ∷ text_items rest) (symbol_items (s ++ b ∷ []) rest)
    (λ e. omega arith) (λ e. some_symbol (s ++ b ∷ []) rest)

-- ---- the number of items

-- how many items are still to begin, outside a symbol and within one
abbrev pub begin_yet : Bool → List ℕ → ℕ
begin_yet false rest = length (text_items rest)
begin_yet true rest = length (symbol_items [] rest) - 1

count_within : (b : ℕ) (rest : List ℕ) (c : Bool) → (b == 62) ≡ c → begin_yet true (b ∷ rest) ≡ begin_yet (not c) rest
count_within b rest true e = rw e (omega arith)
count_within b rest false e = rw e (ap (λ n. n - 1) (same_count (b ∷ []) rest))

count_between : (b : ℕ) (rest : List ℕ) (c : Bool) → (b == 60) ≡ c → begin_yet false (b ∷ rest) ≡ 1 + begin_yet c rest
count_between b rest true e = rw e (omega (arith, same_count (b ∷ []) rest, some_symbol [] rest))
count_between b rest false e = rw e (omega arith)

pub counted_within : (bytes : List ℕ) (i count count' total : ℕ) (s s' : Bool) → i < length bytes
    → total ≡ count + begin_yet s (drop i bytes) → s ≡ true → count' ≡ count → s' ≡ not (get_or bytes i 0 == 62)
    → total ≡ count' + begin_yet s' (drop (i + 1) bytes)
counted_within bytes i count count' total s s' lt e is n t =
    let b = get_or bytes i 0 in
    let step : begin_yet true (drop i bytes) ≡ begin_yet (not (b == 62)) (drop (i + 1) bytes) =
    at_drop_more (begin_yet true) bytes i 0 lt ∙ count_within b (drop (i + 1) bytes) (b == 62) refl in
    rw (n, t) (e ∙ ap (λ v. count + begin_yet v (drop i bytes)) is ∙ ap (λ v. count + v) step)

pub counted_between : (bytes : List ℕ) (i count count' total : ℕ) (s s' : Bool) → i < length bytes
    → total ≡ count + begin_yet s (drop i bytes) → s ≡ false → count' ≡ count + 1 → s' ≡ (get_or bytes i 0 == 60)
    → total ≡ count' + begin_yet s' (drop (i + 1) bytes)
counted_between bytes i count count' total s s' lt e is n t =
    let b = get_or bytes i 0 in
    let step : begin_yet false (drop i bytes) ≡ 1 + begin_yet (b == 60) (drop (i + 1) bytes) =
    at_drop_more (begin_yet false) bytes i 0 lt ∙ count_between b (drop (i + 1) bytes) (b == 60) refl in
    let whole : total ≡ count + (1 + begin_yet (b == 60) (drop (i + 1) bytes)) = e
    ∙ ap (λ v. count + begin_yet v (drop i bytes)) is ∙ ap (λ v. count + v) step in
    rw (n, t) (omega (arith, whole))

-- ---- the bytes of the first items

-- how many bytes are before the end of n more items, outside a symbol and within one
abbrev pub bytes_yet : Bool → ℕ → List ℕ → ℕ
bytes_yet false n rest = length (joined_lists (take n (text_items rest)))
bytes_yet true n rest = length (joined_lists (take (suc n) (symbol_items [] rest)))

joined_onto : (s : List ℕ) (n : ℕ) (xs : List (List ℕ)) → 1 ≤ length xs
    → length (joined_lists (take (suc n) (onto s xs))) ≡ length s + length (joined_lists (take (suc n) xs))
joined_onto s n [] some = absurd (omega arith)
joined_onto s n (x ∷ xs) some =
    ap length (append_assoc s x (joined_lists (take n xs))) ∙ length-append s (x ++ joined_lists (take n xs))

begun_bytes : (b n : ℕ) (rest : List ℕ) → length (joined_lists (take (suc n) (symbol_items (b ∷ []) rest))) ≡ 1
    + bytes_yet true n rest
begun_bytes b n rest =
    ap (λ xs. length (joined_lists (take (suc n) xs))) (symbol_begun (b ∷ []) rest)
    ∙ joined_onto (b ∷ []) n (symbol_items [] rest) (some_symbol [] rest)

bytes_within : (b n : ℕ) (rest : List ℕ) (c : Bool) → (b == 62) ≡ c
    → bytes_yet true n (b ∷ rest) ≡ 1 + bytes_yet (not c) n rest
bytes_within b n rest true e = rw e (omega arith)
bytes_within b n rest false e = rw e (begun_bytes b n rest)

bytes_between : (b n : ℕ) (rest : List ℕ) (c : Bool) → (b == 60) ≡ c
    → bytes_yet false (suc n) (b ∷ rest) ≡ 1 + bytes_yet c n rest
bytes_between b n rest true e = rw e (begun_bytes b n rest)
bytes_between b n rest false e = rw e (omega arith)

pub part_within : (bytes : List ℕ) (i n n' total : ℕ) (s s' : Bool) → i < length bytes
    → total ≡ i + bytes_yet s n (drop i bytes) → s ≡ true → n' ≡ n → s' ≡ not (get_or bytes i 0 == 62)
    → total ≡ (i + 1) + bytes_yet s' n' (drop (i + 1) bytes)
part_within bytes i n n' total s s' lt e is m t =
    let b = get_or bytes i 0 in
    let step : bytes_yet true n (drop i bytes) ≡ 1 + bytes_yet (not (b == 62)) n (drop (i + 1) bytes) =
    at_drop_more (bytes_yet true n) bytes i 0 lt ∙ bytes_within b n (drop (i + 1) bytes) (b == 62) refl in
    let whole : total ≡ i + (1 + bytes_yet (not (b == 62)) n (drop (i + 1) bytes)) = e
    ∙ ap (λ v. i + bytes_yet v n (drop i bytes)) is ∙ ap (λ v. i + v) step in
    rw (m, t) (omega (arith, whole))

pub part_between : (bytes : List ℕ) (i n n' total : ℕ) (s s' : Bool) → i < length bytes
    → total ≡ i + bytes_yet s n (drop i bytes) → s ≡ false → (n ≡ 0 → ⊥) → n' ≡ n - 1 → s' ≡ (get_or bytes i 0 == 60)
    → total ≡ (i + 1) + bytes_yet s' n' (drop (i + 1) bytes)
part_between bytes i zero n' total s s' lt e is some m t = absurd (some refl)
part_between bytes i (suc n) n' total s s' lt e is some m t =
    let b = get_or bytes i 0 in
    let step : bytes_yet false (suc n) (drop i bytes) ≡ 1 + bytes_yet (b == 60) n (drop (i + 1) bytes) =
    at_drop_more (bytes_yet false (suc n)) bytes i 0 lt ∙ bytes_between b n (drop (i + 1) bytes) (b == 60) refl in
    let whole : total ≡ i + (1 + bytes_yet (b == 60) n (drop (i + 1) bytes)) = e
    ∙ ap (λ v. i + bytes_yet v (suc n) (drop i bytes)) is ∙ ap (λ v. i + v) step in
    let less : n' ≡ n = omega (arith, m) in
    rw (less, t) (omega (arith, whole))

-- ---- all items are the bytes

mutual
  pub joined_items : (bytes : List ℕ) → joined_lists (text_items bytes) ≡ bytes
  joined_items [] = refl
  joined_items (b ∷ bytes) =
      by_test (λ xs. joined_lists xs ≡ b ∷ bytes) (b == 60) (symbol_items (b ∷ []) bytes) ((b ∷ []) ∷ text_items bytes)
      (λ e. joined_symbol (b ∷ []) bytes)
      (λ e. ap (λ z. b ∷ z) (joined_items bytes))

  joined_symbol : (s bytes : List ℕ) → joined_lists (symbol_items s bytes) ≡ s ++ bytes
  joined_symbol s [] = refl
  joined_symbol s (b ∷ bytes) =
      by_test (λ xs. joined_lists xs ≡ s ++ b ∷ bytes) (b == 62) ((s ++ b ∷ []) ∷ text_items bytes)
      (symbol_items (s ++ b ∷ []) bytes)
      (λ e. ap (λ z. (s ++ b ∷ []) ++ z) (joined_items bytes) ∙ append_assoc s (b ∷ []) bytes)
      (λ e. joined_symbol (s ++ b ∷ []) bytes ∙ append_assoc s (b ∷ []) bytes)

-- a part of the bytes between the ends of two numbers of items
pub joined_part : (xs : List (List ℕ)) (i k : ℕ) (bytes : List ℕ) → joined_lists xs ≡ bytes
    → take (length (joined_lists (take (i + k) xs)) - length (joined_lists (take i xs)))
    (drop (length (joined_lists (take i xs))) bytes) ≡ joined_lists (take k (drop i xs))
joined_part xs i k bytes e =
    let front = joined_lists (take i xs) in
    let middle = joined_lists (take k (drop i xs)) in
    let back = joined_lists (drop k (drop i xs)) in
    let whole : bytes ≡ front ++ (middle ++ back) =
    sym e ∙ ap joined_lists (sym (take-append-drop i xs)) ∙ flat_map-append (λ l. l) (take i xs) (drop i xs)
    ∙ ap (λ z. front ++ z) (ap joined_lists (sym (take-append-drop k (drop i xs)))
    ∙ flat_map-append (λ l. l) (take k (drop i xs)) (drop k (drop i xs))) in
    let sum : length (joined_lists (take (i + k) xs)) ≡ length front + length middle =
    ap (λ z. length (joined_lists z)) (take-add i k xs)
    ∙ ap length (flat_map-append (λ l. l) (take i xs) (take k (drop i xs))) ∙ length-append front middle in
    let count : length (joined_lists (take (i + k) xs)) - length front ≡ length middle = omega (arith, sum) in
    ap (λ n. take n (drop (length front) bytes)) count
    ∙ ap (λ z. take (length middle) (drop (length front) z)) whole
    ∙ ap (take (length middle)) (drop_at front (middle ++ back) (length front) refl)
    ∙ take_at middle back (length middle) refl

pub ends_rise : (xs : List (List ℕ)) (i j : ℕ) → i ≤ j
    → length (joined_lists (take i xs)) ≤ length (joined_lists (take j xs))
ends_rise [] zero j le = omega arith
ends_rise [] (suc i) zero le = absurd (omega arith)
ends_rise [] (suc i) (suc j) le = omega arith
ends_rise (x ∷ xs) zero j le = omega arith
ends_rise (x ∷ xs) (suc i) zero le = absurd (omega arith)
ends_rise (x ∷ xs) (suc i) (suc j) le =
    omega (
      arith,
      ends_rise xs i j (omega (arith, le)),
      length-append x (joined_lists (take i xs)),
      length-append x (joined_lists (take j xs)),
    )

pub part_is : (bytes : List ℕ) (i j start end : ℕ) → i ≤ j → start ≡ length (joined_lists (take i (text_items bytes)))
    → end ≡ length (joined_lists (take j (text_items bytes)))
    → take (end - start) (drop start bytes) ≡ joined_lists (take (j - i) (drop i (text_items bytes)))
part_is bytes i j start end le e f =
    let xs = text_items bytes in
    let sum : i + (j - i) ≡ j = omega arith in
    rw (e, f, ← sum) (joined_part xs i (j - i) bytes (joined_items bytes)
    ∙ ap (λ k. joined_lists (take k (drop i xs))) (let back : j - i ≡ (i + (j - i)) - i = omega arith in back))

-- ---- the items of a text

named_symbol : (s name rest : List ℕ) → AllByRecursion (λ b. is_name_byte b ≡ true) name
    → symbol_items s ((name ++ 62 ∷ []) ++ rest) ≡ (s ++ (name ++ 62 ∷ [])) ∷ text_items rest
named_symbol s [] rest h = refl
named_symbol s (b ∷ name) rest h =
    let other : (b == 62) ≡ false = grind (arith, h.0) in
    let later : symbol_items (s ++ b ∷ []) ((name ++ 62 ∷ []) ++ rest)
    ≡ ((s ++ b ∷ []) ++ (name ++ 62 ∷ [])) ∷ text_items
    rest = named_symbol (s ++ b ∷ []) name rest h.1 in
    rw other (later ∙ ap (λ z. z ∷ text_items rest) (append_assoc s (b ∷ []) (name ++ 62 ∷ [])))

item_front : (item : Item) (rest : List ℕ) → IsItem item
    → text_items (item_bytes item ++ rest) ≡ item_bytes item ∷ text_items rest
item_front (byte b) rest h = let other : (b == 60) ≡ false = grind (arith, h) in rw other refl
item_front (symbol name) rest h = named_symbol (60 ∷ []) name rest h.each

pub items_are : (items : List Item) → AllByRecursion IsItem items
    → text_items (flat_map item_bytes items) ≡ map item_bytes items
items_are [] h = refl
items_are (item ∷ items) h =
    item_front item (flat_map item_bytes items) h.0 ∙ ap (λ z. item_bytes item ∷ z) (items_are items h.1)

-- two texts are one
pub one_text : (a b : List ℕ) → IsText a → IsText b → IsText (a ++ b)
one_text a b h k = (
  h.0 ++ k.0,
  items_append h.0 k.0 h.1 k.1,
  ap (λ x. x ++ b) h.2 ∙ ap (λ y. flat_map item_bytes h.0 ++ y) k.2
      ∙ sym (flat_map-append item_bytes h.0 k.0),
)

pub no_text : IsText []
no_text = ([], tt, refl)

item_text : (item : Item) → IsItem item → IsText (item_bytes item)
item_text item h = (item ∷ [], (h, tt), sym (append-nil (item_bytes item)))

texts : (items : List Item) → AllByRecursion IsItem items → AllByRecursion IsText (map item_bytes items)
texts [] h = tt
texts (item ∷ items) h = (item_text item h.0, texts items h.1)

taken : (n : ℕ) (xs : List (List ℕ)) → AllByRecursion IsText xs → AllByRecursion IsText (take n xs)
taken zero xs h = tt
taken (suc n) [] h = tt
taken (suc n) (x ∷ xs) h = (h.0, taken n xs h.1)

dropped : (n : ℕ) (xs : List (List ℕ)) → AllByRecursion IsText xs → AllByRecursion IsText (drop n xs)
dropped zero xs h = h
dropped (suc n) [] h = tt
dropped (suc n) (x ∷ xs) h = dropped n xs h.1

joined_text : (xs : List (List ℕ)) → AllByRecursion IsText xs → IsText (joined_lists xs)
joined_text [] h = no_text
joined_text (x ∷ xs) h = one_text x (joined_lists xs) h.0 (joined_text xs h.1)

pub part_text : (bytes : List ℕ) (i k : ℕ) → IsText bytes → IsText (joined_lists (take k (drop i (text_items bytes))))
part_text bytes i k h =
    let each : AllByRecursion IsText (text_items bytes) =
    subst (AllByRecursion IsText) (sym (ap text_items h.2 ∙ items_are h.0 h.1)) (texts h.0 h.1) in
    joined_text (take k (drop i (text_items bytes)))
    (taken k (drop i (text_items bytes)) (dropped i (text_items bytes) each))

pub ruleset between = (ends_rise, part_is, part_text)
