-- The k-th newest entry, counted from the end of the list.
use Rattle.std.proofs.Common.{◌≡◌, ℕ, zero, suc, ◌-◌, ◌+◌, ◌<◌, ◌≤◌, Bool, true, false, List, [], ◌∷◌, length, get_or}
use Rattle.std.proofs.Common.{refl, sym, ap, ◌∙◌, arith}
use Rattle.std.specs.Prelude.{slice_get, reverse, nat_lt, if◌then◌else◌, Option, Some, None}
use Rattle.std.proofs.lemmas.Bool.{cases_lt, ltb-true, ltb-false}
use Rattle.std.proofs.lemmas.List.{length-reverse, get_or-reverse}
use Rattle.std.proofs.lemmas.Option.{slice_get_past, slice_get-get_or}
use Rattle.tx_history.specs.Lists.{kth_newest}

abbrev from_back : {E : Type 0} → List E → ℕ → Option E
from_back xs k = if nat_lt k (length xs) then slice_get xs (length xs - k - 1) else None

within : {E : Type 0} (xs : List E) (d : E) (k : ℕ) → k < length xs
    → slice_get (reverse xs) k ≡ slice_get xs (length xs - k - 1)
within xs d k h =
    let long = length-reverse xs in
    let place : length xs - 1 - k ≡ length xs - k - 1 = omega arith in
    slice_get-get_or (reverse xs) k d (omega (arith, long, h)) ∙ ap Some (get_or-reverse xs k d h)
    ∙ ap (λ n. Some (get_or xs n d)) place ∙ sym (slice_get-get_or xs (length xs - k - 1) d (omega (arith, h)))

by_test : {E : Type 0} (xs : List E) (k : ℕ) (b : Bool) → nat_lt k (length xs) ≡ b
    → slice_get (reverse xs) k ≡ (if b then slice_get xs (length xs - k - 1) else None)
by_test [] k true e = let no : k < 0 = ltb-true k 0 e in absurd (omega arith)
by_test (x ∷ xs) k true e = within (x ∷ xs) x k (ltb-true k (length (x ∷ xs)) e)
by_test xs k false e =
    let long = length-reverse xs in
    let past : length xs ≤ k = ltb-false k (length xs) e in
    slice_get_past (reverse xs) k (omega (arith, long, past))

pub kth_is : {E : Type 0} (xs : List E) (k : ℕ) → 1 ≤ k
    → (if nat_lt (k - 1) (length xs) then slice_get xs (length xs - (k - 1) - 1) else None) ≡ kth_newest k xs
kth_is xs zero h = absurd (omega arith)
kth_is xs (suc k) h =
    let one : suc k - 1 ≡ k = omega arith in
    ap (from_back xs) one ∙ sym (by_test xs k (nat_lt k (length xs)) refl)

pub none_newest : {E : Type 0} (xs : List E) → None ≡ kth_newest 0 xs
none_newest xs = refl
