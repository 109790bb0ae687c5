-- What is cached at a path, by the number of the part.
use Rattle.std.proofs.Common.{◌≡◌, ℕ, zero, suc, ◌+◌, ◌-◌, ◌<◌, ◌≤◌, ◌⊎◌, inl, inr, List, [], ◌∷◌, length, drop, refl}
use Rattle.std.proofs.Common.{ap, sym, subst, ◌∙◌, get_or, arith}
use Rattle.std.proofs.lemmas.Bool.{cases_lt}
use Rattle.std.proofs.lemmas.List.{get_or_default}
use Rattle.std.proofs.lemmas.List.Sorted.{searchable_from_sorted}
use Rattle.std.proofs.lemmas.Slice.Eq.{bytes_eq-Decides}
use Rattle.std.specs.Prelude.{Bool, true, false, Option, Some, None, Result, Ok, Err, slice_get, if◌then◌else◌}
use Rattle.std.specs.List.{IsDistinct, AllByRecursion}
use Rattle.std.specs.List.Sorted.{IsSortedWithin, IsSearchInRange, IsBinarySearchResult, IsPartitionPoint}
use Rattle.std.specs.declared.cmp.Ordering.{Ordering}
use Rattle.std.specs.declared.cmp.Ordering.TheVariants.{Less, Equal, Greater}
use Rattle.std.specs.Ordering.{is_lt, is_eq}
use Rattle.std.specs.Cmp.Lexicographic.{nat_list_cmp_total, texts_ties}
use Rattle.std.specs.Str.{bytes_eq}
use Rattle.tx_tree.proofs.Walks.{drop_item}
use Rattle.tx_exec_form.specs.Evaluated.{WideTrace}
use Rattle.tx_exec.specs.Outcomes.{wide_trace}
use Rattle.tx_walk.specs.declared.part.Part.{Part as DonePart}
use Rattle.tx_walk.specs.Walked.{kept_in, paths_of}
use Rattle.tx_walk.specs.Finding.{AreSortedByPath, IsKeptAt, side}

not_at : (x : List ℕ) (ps : List DonePart) (i : ℕ) (p : DonePart) →
    AllByRecursion (λ y. bytes_eq x y ≡ false) (paths_of ps) → slice_get ps i ≡ Some p → bytes_eq x p.path ≡ false
not_at x [] i p d h = cc
not_at x (q ∷ ps) zero p d h = let same : q ≡ p = cc in subst (λ (r : DonePart). bytes_eq x r.path ≡ false) same d.0
not_at x (q ∷ ps) (suc i) p d h = not_at x ps i p d.1 h

pub if_true : (b : Bool) (o r : Option WideTrace) → b ≡ true → (if b then o else r) ≡ o
if_true true o r h = refl
if_true false o r h = cc

pub if_false : (b : Bool) (o r : Option WideTrace) → b ≡ false → (if b then o else r) ≡ r
if_false false o r h = refl
if_false true o r h = cc

-- where parts have different paths, the one at the path has the cached trace there
pub at_path : (ps : List DonePart) (path : List ℕ) (i : ℕ) (p : DonePart) → IsDistinct bytes_eq (paths_of ps) →
    slice_get ps i ≡ Some p → bytes_eq p.path path ≡ true → kept_in ps path ≡ Some (wide_trace p.trace)
unfolding IsDistinct
at_path [] path i p d h e = cc
at_path (q ∷ ps) path zero p d h e =
    let same : q ≡ p = cc in
    if_true (bytes_eq q.path path) (Some (wide_trace q.trace)) (kept_in ps path)
    (ap (λ (r : DonePart). bytes_eq r.path path) same ∙ e)
    ∙ ap (λ (r : DonePart). Some (wide_trace r.trace)) same
at_path (q ∷ ps) path (suc i) p d h e =
    let other : bytes_eq q.path p.path ≡ false = not_at q.path ps i p d.0 h in
    let there : p.path ≡ path = (bytes_eq-Decides p.path path).0 e in
    if_false (bytes_eq q.path path) (Some (wide_trace q.trace)) (kept_in ps path)
    (ap (bytes_eq q.path) (sym there) ∙ other)
    ∙ at_path ps path i p d.1 h e

-- past one at another path
pub past_other : (ps : List DonePart) (path : List ℕ) (i : ℕ) (p : DonePart) (o : Option WideTrace) →
    slice_get ps i ≡ Some p → bytes_eq p.path path ≡ false → o ≡ kept_in (drop i ps) path →
    o ≡ kept_in (drop (i + 1) ps) path
past_other ps path i p o h e g =
    g ∙ ap (λ qs. kept_in qs path) (drop_item ps i p h)
    ∙ if_false (bytes_eq p.path path) (Some (wide_trace p.trace)) (kept_in (drop (i + 1) ps) path) e

pub found_there : (ps : List DonePart) (path : List ℕ) (i : ℕ) (p : DonePart) →
    slice_get ps i ≡ Some p → bytes_eq p.path path ≡ true → kept_in ps path ≡ kept_in (drop i ps) path →
    IsKeptAt ps path i
found_there ps path i p h e g =
    record {
      part = p;
      there = h;
      stands = (bytes_eq-Decides p.path path).0 e;
      is = g ∙ ap (λ qs. kept_in qs path) (drop_item ps i p h)
          ∙ if_true (bytes_eq p.path path) (Some (wide_trace p.trace)) (kept_in (drop (i + 1) ps) path) e;
    }

pub found_near : (ps : List DonePart) (path : List ℕ) (i : ℕ) (p : DonePart) → IsDistinct bytes_eq (paths_of ps) →
    slice_get ps i ≡ Some p → bytes_eq p.path path ≡ true → IsKeptAt ps path i
found_near ps path i p d h e =
    record { part = p; there = h; stands = (bytes_eq-Decides p.path path).0 e; is = at_path ps path i p d h e }

-- by an equal list
pub found_in : (ps qs : List DonePart) (path : List ℕ) (i : ℕ) (p : DonePart) → qs ≡ ps →
    IsDistinct bytes_eq (paths_of ps) → slice_get qs i ≡ Some p → bytes_eq p.path path ≡ true → IsKeptAt ps path i
found_in ps qs path i p same d h e = found_near ps path i p d (ap (λ rs. slice_get rs i) (sym same) ∙ h) e

drop_all : (ps : List DonePart) (i : ℕ) → length ps ≤ i → drop i ps ≡ []
drop_all [] zero h = refl
drop_all [] (suc i) h = refl
drop_all (p ∷ ps) zero h = absurd (omega (arith, h))
drop_all (p ∷ ps) (suc i) h = drop_all ps i (omega (arith, h))

pub past_all : (ps : List DonePart) (path : List ℕ) (i : ℕ) → kept_in ps path ≡ kept_in (drop i ps) path →
    length ps ≤ i → kept_in ps path ≡ None
past_all ps path i h past = h ∙ ap (λ qs. kept_in qs path) (drop_all ps i past)

-- ---- by a binary search

equal_if : (o : Ordering) → is_eq o ≡ true → o ≡ Equal
equal_if Less h = cc
equal_if Equal h = refl
equal_if Greater h = cc

-- equal paths compare as equal
level_if : (path : List ℕ) (p : DonePart) → bytes_eq p.path path ≡ true → side path p ≡ Equal
level_if path p e = equal_if (side path p) (sym (texts_ties p.path path) ∙ e)

same_if : (path : List ℕ) (p : DonePart) → side path p ≡ Equal → bytes_eq p.path path ≡ true
same_if path p e = texts_ties p.path path ∙ ap is_eq e

-- the part of this number
record There (ps : List DonePart) (i : ℕ) : Type 0 where
  pub part : DonePart
  pub there : slice_get ps i ≡ Some part
  pub read : (d : DonePart) → get_or ps i d ≡ part

there_at : (ps : List DonePart) (i : ℕ) → i < length ps → There ps i
there_at [] i h = absurd (omega (arith, h))
there_at (q ∷ qs) zero h = record { part = q; there = refl; read = λ d. refl }
there_at (q ∷ qs) (suc i) h =
    let r : There qs i = there_at qs i (omega (arith, h)) in
    record { part = r.part; there = r.there; read = r.read }

-- where no part's path compares as equal with the path, nothing is cached there
none_level : (path : List ℕ) (ps : List DonePart) →
    ((i : ℕ) (d : DonePart) → i < length ps → side path (get_or ps i d) ≡ Equal → ⊥) → kept_in ps path ≡ None
none_level path [] h = refl
none_level path (q ∷ qs) h =
    if_false (bytes_eq q.path path) (Some (wide_trace q.trace)) (kept_in qs path) (apart (bytes_eq q.path path) refl)
    ∙ none_level path qs (λ i d lt. h (suc i) d (omega (arith, lt)))
  where
    apart : (b : Bool) → bytes_eq q.path path ≡ b → b ≡ false
    apart false e = refl
    apart true e = absurd (h 0 q (omega arith) (level_if path q e))

pub found_level : (ps : List DonePart) (path : List ℕ) (i : ℕ) (r : Result ℕ ℕ) → IsDistinct bytes_eq (paths_of ps) →
    IsSearchInRange r (length ps) → IsBinarySearchResult (side path) ps r → r ≡ Ok i → IsKeptAt ps path i
found_level ps path i (Err j) distinct within found is = cc
found_level ps path i (Ok j) distinct within found is =
    let same : j ≡ i = cc in
    let r : There ps j = there_at ps j within in
    subst (IsKeptAt ps path) same
    (found_near ps path j r.part distinct r.there
    (same_if path r.part (ap (side path) (sym (r.read r.part)) ∙ found r.part)))

less_apart : (o : Ordering) → o ≡ Less → o ≡ Equal → ⊥
less_apart o h e = let off : Less ≡ Equal = sym h ∙ e in cc

greater_apart : (o : Ordering) → o ≡ Greater → o ≡ Equal → ⊥
greater_apart o h e = let off : Greater ≡ Equal = sym h ∙ e in cc

pub none_found_level : (ps : List DonePart) (path : List ℕ) (i : ℕ) (r : Result ℕ ℕ) → AreSortedByPath ps →
    IsBinarySearchResult (side path) ps r → r ≡ Err i → kept_in ps path ≡ None
none_found_level ps path i (Ok j) sorted found is = cc
none_found_level ps path i (Err j) sorted found is =
    let parted = found (searchable_from_sorted nat_list_cmp_total (λ (p : DonePart). p.path) ps path sorted) in
    none_level path ps (λ k d lt e. by k d lt e parted (cases_lt k j))
  where
    by : (k : ℕ) (d : DonePart) → k < length ps → side path (get_or ps k d) ≡ Equal →
        IsPartitionPoint (λ y. side path y ≡ Less) (λ y. side path y ≡ Greater) ps j → (k < j) ⊎ (j ≤ k) → ⊥
    by k d lt e parted (inl low) = less_apart (side path (get_or ps k d)) (parted.0 k d (omega arith) low) e
    by k d lt e parted (inr high) = greater_apart (side path (get_or ps k d)) (parted.1 k d high lt) e

-- ---- the test of order

pub sorted_more : (ps : List DonePart) (i : ℕ) (p q : DonePart) → 1 ≤ i → i < length ps → q ≡ get_or ps i q →
    p ≡ get_or ps (i - 1) p → is_lt (side p.path q) ≡ false →
    IsSortedWithin (λ a b. is_lt (side b.path a)) ps 0 i →
    IsSortedWithin (λ a b. is_lt (side b.path a)) ps 0 (i + 1)
sorted_more ps i p q some lt is_q is_p h sorted k d low lt1 = by (cases_lt (k + 1) i)
  where
    by : ((k + 1 < i) ⊎ (i ≤ k + 1)) → is_lt (side (get_or ps k d).path (get_or ps (k + 1) d)) ≡ false
    by (inl less) = sorted k d low less
    by (inr not_less) =
        let at : k + 1 ≡ i = omega (arith, not_less, lt1) in
        let before : k ≡ i - 1 = omega (arith, not_less, lt1) in
        let first : get_or ps k d ≡ p =
        ap (λ n. get_or ps n d) before ∙ get_or_default ps (i - 1) d p (omega (arith, lt)) ∙ sym is_p in
        let second : get_or ps (k + 1) d ≡ q =
        ap (λ n. get_or ps n d) at ∙ get_or_default ps i d q lt ∙ sym is_q in
        ap (λ (x : DonePart). is_lt (side x.path (get_or ps (k + 1) d))) first
        ∙ ap (λ (y : DonePart). is_lt (side p.path y)) second ∙ h
