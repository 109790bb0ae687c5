-- Parts of lists that grow by one element.
use Rattle.std.proofs.Common.{◌≡◌, ℕ, ◌+◌, ◌-◌, ◌<◌, ◌≤◌, zero, suc, min, List, [], ◌∷◌, ◌++◌, length, take, drop}
use Rattle.std.proofs.Common.{get_or, refl, sym, ap, ◌∙◌, arith, length-drop}
use Rattle.std.specs.Prelude.{Option, Some, None, slice_get, slice_range}
use Rattle.std.specs.List.{flat_map}
use Rattle.std.proofs.lemmas.List.{append-nil, flat_map_more, take_more, take_all, get_or-drop}
use Rattle.tx_print.specs.Printers.{element_text}
use Rattle.std.proofs.lemmas.Option.{slice_get_within, get_or_from_slice_get}

-- one element more at the end of a front
pub take_get : {X : Type 0} (xs : List X) (k : ℕ) (x : X) → slice_get xs k ≡ Some x
    → take (k + 1) xs ≡ take k xs ++ x ∷ []
take_get xs k x e =
    take_more xs k x (slice_get_within xs k x e) ∙ ap (λ y. take k xs ++ y ∷ []) (get_or_from_slice_get xs k x x e)

past : {X : Type 0} (xs : List X) (k : ℕ) → slice_get xs k ≡ None → length xs ≤ k
past [] k e = omega arith
past (x ∷ xs) zero e = let h : Some x ≡ None = e in absurd (apart x h)
  where
    apart : {Y : Type 0} (y : Y) → Some y ≡ None → ⊥
    apart y h = cc
past (x ∷ xs) (suc k) e = let h : length xs ≤ k = past xs k e in omega arith

-- there is none
pub take_none : {X : Type 0} (xs : List X) (k : ℕ) → slice_get xs k ≡ None → take (k + 1) xs ≡ take k xs
take_none xs k e =
    let h : length xs ≤ k = past xs k e in
    take_all (k + 1) xs (omega arith) ∙ sym (take_all k xs h)

-- no element yet
pub range_none : {X : Type 0} (xs : List X) (i j : ℕ) → slice_range xs i (min i j) ≡ []
range_none xs i j = let e : min i j - i ≡ 0 = omega arith in ap (λ n. take n (drop i xs)) e

-- one element more at the end of a part
pub range_more : {X : Type 0} (xs : List X) (i j n : ℕ) (x : X) → i ≤ j → j < n → slice_get xs j ≡ Some x
    → slice_range xs i (min (j + 1) n) ≡ slice_range xs i (min j n) ++ x ∷ []
range_more xs i j n x le lt e =
    let within : j < length xs = slice_get_within xs j x e in
    let long : j - i < length (drop i xs) = rw length-drop (omega arith) in
    let more : min (j + 1) n - i ≡ j - i + 1 = omega arith in
    let here : min j n - i ≡ j - i = omega arith in
    let place : i + (j - i) ≡ j = omega arith in
    let is : get_or (drop i xs) (j - i) x ≡ x =
    get_or-drop i xs (j - i) x ∙ ap (λ k. get_or xs k x) place ∙ get_or_from_slice_get xs j x x e in
    ap (λ k. take k (drop i xs)) more ∙ take_more (drop i xs) (j - i) x long
    ∙ ap (λ y. take (j - i) (drop i xs) ++ y ∷ []) is ∙ ap (λ k. take k (drop i xs) ++ x ∷ []) (sym here)

-- there is none
pub range_past : {X : Type 0} (xs : List X) (i j n : ℕ) → i ≤ j → j < n → slice_get xs j ≡ None
    → slice_range xs i (min (j + 1) n) ≡ slice_range xs i (min j n)
range_past xs i j n le lt e =
    let h : length xs ≤ j = past xs j e in
    let long : length (drop i xs) ≤ j - i = rw length-drop (omega arith) in
    let more : min (j + 1) n - i ≡ j - i + 1 = omega arith in
    let here : min j n - i ≡ j - i = omega arith in
    ap (λ k. take k (drop i xs)) more ∙ take_all (j - i + 1) (drop i xs) (omega arith)
    ∙ sym (ap (λ k. take k (drop i xs)) here ∙ take_all (j - i) (drop i xs) long)

-- ---- their texts

pub take_text : {X : Type 0} (f : X → List ℕ) (xs : List X) (k : ℕ)
    → flat_map f (take k xs) ++ element_text f (slice_get xs k) ≡ flat_map f (take (k + 1) xs)
take_text {X} f xs k = by_case (slice_get xs k) refl
  where
    by_case : (o : Option X) → slice_get xs k ≡ o
        → flat_map f (take k xs) ++ element_text f o ≡ flat_map f (take (k + 1) xs)
    by_case None e = append-nil (flat_map f (take k xs)) ∙ ap (flat_map f) (sym (take_none xs k e))
    by_case (Some x) e = flat_map_more f [] (take k xs) x ∙ ap (flat_map f) (sym (take_get xs k x e))

pub range_text : {X : Type 0} (f : X → List ℕ) (xs : List X) (i j n : ℕ) → i ≤ j → j < n
    → flat_map f (slice_range xs i (min j n)) ++ element_text f (slice_get xs j)
    ≡ flat_map f (slice_range xs i (min (j + 1) n))
range_text {X} f xs i j n le lt = by_case (slice_get xs j) refl le lt
  where
    by_case : (o : Option X) → slice_get xs j ≡ o → i ≤ j → j < n
        → flat_map f (slice_range xs i (min j n)) ++ element_text f o ≡ flat_map f (slice_range xs i (min (j + 1) n))
    by_case None e le lt =
        append-nil (flat_map f (slice_range xs i (min j n))) ∙ ap (flat_map f) (sym (range_past xs i j n le lt e))
    by_case (Some x) e le lt =
        flat_map_more f [] (slice_range xs i (min j n)) x ∙ ap (flat_map f) (sym (range_more xs i j n x le lt e))
