-- Slices that grow by one element.
use Rattle.std.proofs.Common.{◌≡◌, ℕ, ◌+◌, ◌-◌, ◌<◌, ◌≤◌, List, [], ◌∷◌, ◌++◌, length, take, drop, get_or}
use Rattle.std.proofs.Common.{sym, ap, ◌∙◌, subst, arith}
use Rattle.std.specs.Prelude.{slice_range, All}
use Rattle.std.proofs.lemmas.List.{take_more, get_or-drop, length-drop}
use Rattle.std.proofs.lemmas.List.Elements.{All-nil, All-push}

slice_none : {X : Type 0} → (xs : List X) (at : ℕ) → slice_range xs at at ≡ []
slice_none xs at = let e : at - at ≡ 0 = omega arith in ap (λ n. take n (drop at xs)) e

slice_more : {X : Type 0} → (xs : List X) (from at : ℕ) (d : X) → from ≤ at → at < length xs
    → slice_range xs from (at + 1) ≡ slice_range xs from at ++ get_or xs at d ∷ []
slice_more xs from at d le lt =
    let longer : at + 1 - from ≡ (at - from) + 1 = omega arith in
    let within : at - from < length (drop from xs) = omega (arith, length-drop from xs) in
    let place : from + (at - from) ≡ at = omega arith in
    let last : get_or (drop from xs) (at - from) d ≡ get_or xs at d =
    get_or-drop from xs (at - from) d ∙ ap (λ i. get_or xs i d) place in
    ap (λ n. take n (drop from xs)) longer ∙ take_more (drop from xs) (at - from) d within
    ∙ ap (λ y. slice_range xs from at ++ y ∷ []) last

pub slice_one : {X : Type 0} → (xs : List X) (at : ℕ) (d : X) → at < length xs
    → slice_range xs at (at + 1) ≡ get_or xs at d ∷ []
slice_one xs at d lt = slice_more xs at at d (omega arith) lt ∙ ap (λ ys. ys ++ get_or xs at d ∷ []) (slice_none xs at)

pub all_none : {X : Type 0} (P : X → Type 0) (xs : List X) (at : ℕ) → All P (slice_range xs at at)
all_none P xs at = subst (All P) (sym (slice_none xs at)) (All-nil P)

pub all_more : {X : Type 0} (P : X → Type 0) (xs : List X) (from at : ℕ) (d : X) → from ≤ at → at < length xs
    → All P (slice_range xs from at) → P (get_or xs at d) → All P (slice_range xs from (at + 1))
all_more P xs from at d le lt h p =
    subst (All P) (sym (slice_more xs from at d le lt)) (All-push P (slice_range xs from at) (get_or xs at d) h p)

pub all_one : {X : Type 0} (P : X → Type 0) (xs : List X) (at : ℕ) (d : X) → at < length xs → P (get_or xs at d)
    → All P (slice_range xs at (at + 1))
all_one P xs at d lt p = all_more P xs at at d (omega arith) lt (all_none P xs at) p
