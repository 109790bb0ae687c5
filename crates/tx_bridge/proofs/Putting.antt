-- Some elements of a list are replaced or dropped.
use Rattle.std.proofs.Common.{◌≡◌, ℕ, ◌+◌, ◌<◌, ◌≤◌, List, [], ◌∷◌, ◌++◌, length, drop, take, get_or, refl}
use Rattle.std.proofs.Common.{Option, sym, ap, ◌∙◌, arith, slice_set}
use Rattle.std.proofs.lemmas.Bool.Decides.{Decides-eqb}
use Rattle.std.proofs.lemmas.List.{append_assoc, append-nil, drop_more, drop_all, take_more_set, drop-set-lt}
use Rattle.std.specs.Prelude.{Bool, true, false, ◌==◌, if◌then◌else◌}
use Rattle.tx_bridge.specs.Others.{and_some, put_from}

pub differs : (n i : ℕ) → (n ≡ i → ⊥) → n == i ≡ false
differs n i off = by (n == i) refl
  where
    by : (b : Bool) → n == i ≡ b → b ≡ false
    by true e = absurd (off ((Decides-eqb n i).0 e))
    by false e = refl

-- the first of them, if there is one, isn't of number i
abbrev pub IsAhead : {A : Type 0} → ℕ → List (ℕ × Option A) → Type 0
IsAhead i [] = Unit {0}
IsAhead i (o ∷ os) = o.0 == i ≡ false

module _ {A : Type 0} where
  -- an element of another number is unchanged
  pub put_past : (i : ℕ) (os : List (ℕ × Option A)) (x : A) (xs : List A) → IsAhead i os
      → put_from i os (x ∷ xs) ≡ x ∷ put_from (i + 1) os xs
  put_past i [] x xs h = refl
  put_past i (o ∷ os) x xs h =
      ap (λ b. if b then and_some o.1 (put_from (i + 1) os xs) else x ∷ put_from (i + 1) (o ∷ os) xs) h

  -- for an element of this number another one is put
  pub put_here : (i : ℕ) (o : ℕ × Option A) (os : List (ℕ × Option A)) (x : A) (xs : List A) → o.0 == i ≡ true
      → put_from i (o ∷ os) (x ∷ xs) ≡ and_some o.1 (put_from (i + 1) os xs)
  put_here i o os x xs h =
      ap (λ b. if b then and_some o.1 (put_from (i + 1) os xs) else x ∷ put_from (i + 1) (o ∷ os) xs) h

  pub put_none : (i : ℕ) (os : List (ℕ × Option A)) → put_from i os [] ≡ []
  put_none i [] = refl
  put_none i (o ∷ os) = refl

  -- ---- going over the list

  next_of : (xs : List A) (i : ℕ) → i < length xs → (x : A) × (drop i xs ≡ x ∷ drop (i + 1) xs)
  next_of [] i inside = absurd (omega (arith, inside))
  next_of (x ∷ xs) i inside = (get_or (x ∷ xs) i x, drop_more (x ∷ xs) i x inside)

  module _ (old : List A) (at i : ℕ) (os later : List (ℕ × Option A)) (inside : i < length old) where
    -- the element moves down
    pub down_same : (new : List A)
        → ((d : A) → take (at + 1) new ≡ take at old ++ get_or old i d ∷ []) → drop (i + 1) new ≡ drop (i + 1) old
        → ((x : A) (xs : List A) → put_from i os (x ∷ xs) ≡ x ∷ put_from (i + 1) os xs)
        → take (at + 1) new ++ put_from (i + 1) os (drop (i + 1) new) ≡ take at old ++ put_from i os (drop i old)
    down_same new front back stays =
        let d : A = (next_of old i inside).0 in
        let rest : List A = put_from (i + 1) os (drop (i + 1) old) in
        ap (λ ys. take (at + 1) new ++ put_from (i + 1) os ys) back
        ∙ ap (λ ys. ys ++ rest) (front d)
        ∙ append_assoc (take at old) (get_or old i d ∷ []) rest
        ∙ ap (λ ys. take at old ++ ys)
        (sym (stays (get_or old i d) (drop (i + 1) old)) ∙ ap (put_from i os) (sym (drop_more old i d inside)))

    -- it is dropped
    pub gone_same : ((x : A) (xs : List A) → put_from i os (x ∷ xs) ≡ put_from (i + 1) later xs)
        → take at old ++ put_from (i + 1) later (drop (i + 1) old) ≡ take at old ++ put_from i os (drop i old)
    gone_same goes =
        let next = next_of old i inside in
        ap (λ ys. take at old ++ ys)
        (sym (goes next.0 (drop (i + 1) old)) ∙ ap (put_from i os) (sym next.1))

    -- another one is put
    pub put_same : (new : List A) (y : A) → at ≤ i → new ≡ slice_set old at y
        → ((x : A) (xs : List A) → put_from i os (x ∷ xs) ≡ y ∷ put_from (i + 1) later xs)
        → take (at + 1) new ++ put_from (i + 1) later (drop (i + 1) new) ≡ take at old ++ put_from i os (drop i old)
    put_same new y order is puts =
        let next = next_of old i inside in
        let rest : List A = put_from (i + 1) later (drop (i + 1) old) in
        ap (λ ys. take (at + 1) ys ++ put_from (i + 1) later (drop (i + 1) ys)) is
        ∙ ap (λ ys. ys ++ put_from (i + 1) later (drop (i + 1) (slice_set old at y)))
        (take_more_set old at y (omega (arith, order, inside)))
        ∙ ap (λ ys. take at old ++ y ∷ [] ++ put_from (i + 1) later ys)
        (drop-set-lt (i + 1) old at y (omega (arith, order)))
        ∙ append_assoc (take at old) (y ∷ []) rest
        ∙ ap (λ ys. take at old ++ ys)
        (sym (puts next.0 (drop (i + 1) old)) ∙ ap (put_from i os) (sym next.1))

  -- After i elements of xs, of which `at` are unchanged or replaced, and k others of os.
  pub record PutSoFar (xs now : List A) (os left : List (ℕ × Option A)) (i at k : ℕ) : Type 0 where
    pub same : take at now ++ put_from i (drop k left) (drop i now) ≡ put_from 0 os xs
    pub order : at ≤ i
    pub long : length now ≡ length xs

  pub put_goes_on : (xs now new : List A) (os left later : List (ℕ × Option A)) (i at k next_at next_k : ℕ)
      → PutSoFar xs now os left i at k
      → take next_at new ++ put_from (i + 1) (drop next_k later) (drop (i + 1) new)
      ≡ take at now ++ put_from i (drop k left) (drop i now)
      → next_at ≤ i + 1 → length new ≡ length now → PutSoFar xs new os later (i + 1) next_at next_k
  put_goes_on xs now new os left later i at k next_at next_k h same order long = record {
    same = same ∙ h.same;
    order = order;
    long = long ∙ h.long;
  }

  pub all_are_put : (xs now : List A) (os left : List (ℕ × Option A)) (i at k : ℕ)
      → PutSoFar xs now os left i at k → length now ≤ i → take at now ≡ put_from 0 os xs
  all_are_put xs now os left i at k h past =
      sym (append-nil (take at now))
      ∙ ap (λ ys. take at now ++ ys)
      (sym (ap (put_from i (drop k left)) (drop_all i now past) ∙ put_none i (drop k left)))
      ∙ h.same
