-- What is cached at a path, by the number of the entry.
use Rattle.std.proofs.Common.{◌≡◌, ℕ, zero, suc, List, [], ◌∷◌, refl, ap, sym, subst, ◌∙◌}
use Rattle.std.proofs.lemmas.Slice.Eq.{bytes_eq-Decides}
use Rattle.std.specs.Prelude.{Bool, true, false, Option, Some, None, slice_get, if◌then◌else◌}
use Rattle.std.specs.Str.{bytes_eq}
use Rattle.tx_mod.specs.Orders.{IsBefore}
use Rattle.tx_kept.specs.declared.path_map.Entry.{Entry}
use Rattle.tx_kept.specs.Entries.{AllAfter, IsInOrder, IsAt, NoneAt}
use Rattle.tx_kept.proofs.Found.{not_before_itself}
use Rattle.tx_exec_form.specs.Evaluated.{WideTrace}
use Rattle.tx_replay.specs.Cached.{trace_at}
use Rattle.tx_replay.specs.declared.cached.CachedPart.{CachedPart}

if_true : (b : Bool) (o r : Option WideTrace) → b ≡ true → (if b then o else r) ≡ o
if_true true o r h = refl
if_true false o r h = cc

if_false : (b : Bool) (o r : Option WideTrace) → b ≡ false → (if b then o else r) ≡ r
if_false false o r h = refl
if_false true o r h = cc

apart : (p q : List ℕ) → (p ≡ q → ⊥) → bytes_eq p q ≡ false
apart p q off = by (bytes_eq p q) refl
  where
    by : (b : Bool) → bytes_eq p q ≡ b → b ≡ false
    by false e = refl
    by true e = absurd (off ((bytes_eq-Decides p q).0 e))

after_at : (p : List ℕ) (xs : List (Entry CachedPart)) (i : ℕ) (x : Entry CachedPart) → AllAfter p xs →
    slice_get xs i ≡ Some x → IsBefore p x.path
after_at p [] i x h there = cc
after_at p (y ∷ xs) zero x h there = let same : y ≡ x = cc in subst (λ (z : Entry CachedPart). IsBefore p z.path) same h.0
after_at p (y ∷ xs) (suc i) x h there = after_at p xs i x h.1 there

-- the one entry at the path
pub at_path : (xs : List (Entry CachedPart)) (path : List ℕ) (i : ℕ) (x : Entry CachedPart) → IsInOrder xs →
    slice_get xs i ≡ Some x → x.path ≡ path → trace_at xs path ≡ Some x.value.trace
at_path [] path i x order there is = cc
at_path (y ∷ xs) path zero x order there is =
    let same : y ≡ x = cc in
    if_true (bytes_eq y.path path) (Some y.value.trace) (trace_at xs path)
    ((bytes_eq-Decides y.path path).1 (ap (λ (z : Entry CachedPart). z.path) same ∙ is))
    ∙ ap (λ (z : Entry CachedPart). Some z.value.trace) same
at_path (y ∷ xs) path (suc i) x order there is =
    if_false (bytes_eq y.path path) (Some y.value.trace) (trace_at xs path)
    (apart y.path path (λ e. not_before_itself y.path
    (subst (IsBefore y.path) (is ∙ sym e) (after_at y.path xs i x order.0 there))))
    ∙ at_path xs path i x order.1 there is

pub none_at : (xs : List (Entry CachedPart)) (path : List ℕ) → NoneAt path xs → trace_at xs path ≡ None
none_at [] path none = refl
none_at (y ∷ xs) path none =
    if_false (bytes_eq y.path path) (Some y.value.trace) (trace_at xs path)
    (apart y.path path (λ e. none zero y refl e))
    ∙ none_at xs path (λ i x there is. none (suc i) x there is)

-- by an equal list, of which the entry of this number is read
pub found_at : (xs ys : List (Entry CachedPart)) (path : List ℕ) (i : ℕ) (x : Entry CachedPart) → IsInOrder xs →
    ys ≡ xs → IsAt path xs i → slice_get ys i ≡ Some x → trace_at xs path ≡ Some x.value.trace
found_at xs ys path i x order same found there =
    let one : Some found.entry ≡ Some x = sym found.there ∙ ap (λ zs. slice_get zs i) (sym same) ∙ there in
    let is : found.entry ≡ x = cc in
    at_path xs path i found.entry order found.there found.stands
    ∙ ap (λ (z : Entry CachedPart). Some z.value.trace) is
