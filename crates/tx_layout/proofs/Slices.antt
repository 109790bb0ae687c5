-- Slices that grow by one element.
use Rattle.std.proofs.Common.{◌≡◌, ℕ, ◌+◌, ◌-◌, ◌<◌, ◌≤◌, List, [], ◌∷◌, ◌++◌, length, take, drop, get_or}
use Rattle.std.proofs.Common.{sym, ap, ◌∙◌, subst, arith}
use Rattle.std.specs.Prelude.{slice_range, All}
use Rattle.std.proofs.lemmas.List.{take_more, get_or-drop, get_or-take, length-drop, length-take-le}
use Rattle.std.proofs.lemmas.List.{drop-take, drop-drop, take-take}
use Rattle.std.proofs.lemmas.List.Elements.{All-nil, All-cons, All-append}
use Rattle.std.proofs.lemmas.List.Sums.{sum_by_push, sum_by-take-le}
use Rattle.tx_items.specs.declared.drawing.Item.{Item}
use Rattle.tx_items.specs.Cells.{item_cells, cells_across}

pub slice_push : {X : Type 0} → (xs : List X) (from at : ℕ) (x : X) → from ≤ at → at < length xs → x ≡ get_or xs at x
    → slice_range xs from (at + 1) ≡ slice_range xs from at ++ x ∷ []
slice_push xs from at x le lt is =
    let longer : at + 1 - from ≡ (at - from) + 1 = omega arith in
    let within : at - from < length (drop from xs) = omega (arith, length-drop from xs) in
    let place : from + (at - from) ≡ at = omega arith in
    let last : get_or (drop from xs) (at - from) x ≡ x =
    get_or-drop from xs (at - from) x ∙ ap (λ i. get_or xs i x) place ∙ sym is in
    ap (λ n. take n (drop from xs)) longer ∙ take_more (drop from xs) (at - from) x within
    ∙ ap (λ y. slice_range xs from at ++ y ∷ []) last

pub slice_none : {X : Type 0} → (xs : List X) (at : ℕ) → slice_range xs at at ≡ []
slice_none xs at = let e : at - at ≡ 0 = omega arith in ap (λ n. take n (drop at xs)) e

pub slice_one : {X : Type 0} → (xs : List X) (at : ℕ) (x : X) → at < length xs → x ≡ get_or xs at x
    → slice_range xs at (at + 1) ≡ x ∷ []
slice_one xs at x lt is = slice_push xs at at x (omega arith) lt is ∙ ap (λ ys. ys ++ x ∷ []) (slice_none xs at)

one_all : {X : Type 0} (P : X → Type 0) (x : X) → P x → All P (x ∷ [])
one_all P x h = All-cons P x [] h (All-nil P)

pub all_none : {X : Type 0} (P : X → Type 0) (xs : List X) (at : ℕ) → All P (slice_range xs at at)
all_none P xs at = subst (All P) (sym (slice_none xs at)) (All-nil P)

pub all_one : {X : Type 0} (P : X → Type 0) (xs : List X) (at : ℕ) (x : X) → at < length xs → x ≡ get_or xs at x
    → P x → All P (slice_range xs at (at + 1))
all_one P xs at x lt is h = subst (All P) (sym (slice_one xs at x lt is)) (one_all P x h)

pub all_push : {X : Type 0} (P : X → Type 0) (xs : List X) (from at : ℕ) (x : X) → from ≤ at → at < length xs
    → x ≡ get_or xs at x → All P (slice_range xs from at) → P x → All P (slice_range xs from (at + 1))
all_push P xs from at x le lt is h p =
    subst (All P) (sym (slice_push xs from at x le lt is))
    (All-append P (slice_range xs from at) (x ∷ []) h (one_all P x p))

-- a part of a part
pub slice_slice : {X : Type 0} (xs : List X) (start end from to : ℕ) → from ≤ to → start + to ≤ end
    → slice_range (slice_range xs start end) from to ≡ slice_range xs (start + from) (start + to)
slice_slice xs start end from to le within =
    let parts : end - start ≡ from + (end - start - from) = omega arith in
    let shorter : to - from ≤ end - start - from = omega arith in
    let long : to - from ≡ start + to - (start + from) = omega arith in
    ap (λ n. take (to - from) (drop from (take n (drop start xs)))) parts
    ∙ ap (take (to - from)) (drop-take from (end - start - from) (drop start xs))
    ∙ take-take (to - from) (end - start - from) (drop from (drop start xs)) shorter
    ∙ ap (take (to - from)) (drop-drop from start xs)
    ∙ ap (λ n. take n (drop (start + from) xs)) long

-- what holds all over a slice holds at each of its places
pub at_slice : {X : Type 0} (P : X → Type 0) (xs : List X) (from to k : ℕ) (d : X) → All P (slice_range xs from to)
    → from ≤ k → k < to → to ≤ length xs → P (get_or xs k d)
at_slice P xs from to k d h le lt within =
    let inside : k - from < to - from = omega arith in
    let long : length (slice_range xs from to) ≡ to - from =
    length-take-le (to - from) (drop from xs) (omega (arith, length-drop from xs)) in
    let place : from + (k - from) ≡ k = omega arith in
    let same : get_or (slice_range xs from to) (k - from) d ≡ get_or xs k d =
    get_or-take (to - from) (drop from xs) (k - from) d inside ∙ get_or-drop from xs (k - from) d
    ∙ ap (λ i. get_or xs i d) place in
    subst P same (h (k - from) d (omega arith))

pub at_drop : {X : Type 0} (P : X → Type 0) (xs : List X) (from k : ℕ) (d : X) → All P (drop from xs) → from ≤ k
    → k < length xs → P (get_or xs k d)
at_drop P xs from k d h le lt =
    let place : from + (k - from) ≡ k = omega arith in
    let same : get_or (drop from xs) (k - from) d ≡ get_or xs k d =
    get_or-drop from xs (k - from) d ∙ ap (λ i. get_or xs i d) place in
    subst P same (h (k - from) d (omega (arith, length-drop from xs)))

-- ---- cells

pub cells_push : (xs : List Item) (from at : ℕ) (x : Item) → from ≤ at → at < length xs → x ≡ get_or xs at x
    → cells_across (slice_range xs from (at + 1)) ≡ cells_across (slice_range xs from at) + item_cells x
cells_push xs from at x le lt is =
    ap cells_across (slice_push xs from at x le lt is) ∙ sum_by_push item_cells (slice_range xs from at) x

pub cells_one : (xs : List Item) (at : ℕ) (x : Item) → at < length xs → x ≡ get_or xs at x
    → cells_across (slice_range xs at (at + 1)) ≡ item_cells x
cells_one xs at x lt is = ap cells_across (slice_one xs at x lt is) ∙ omega arith

pub cells_le : (xs : List Item) (from m n : ℕ) → m ≤ n
    → cells_across (slice_range xs from m) ≤ cells_across (slice_range xs from n)
cells_le xs from m n le =
    let shorter : take (m - from) (take (n - from) (drop from xs)) ≡ take (m - from) (drop from xs) =
    take-take (m - from) (n - from) (drop from xs) (omega arith) in
    let same : cells_across (take (m - from) (take (n - from) (drop from xs))) ≡ cells_across (slice_range xs from m) =
    ap cells_across shorter in
    let less : cells_across (take (m - from) (take (n - from) (drop from xs))) ≤ cells_across (slice_range xs from n) =
    sum_by-take-le item_cells (take (n - from) (drop from xs)) (m - from) in
    omega arith
