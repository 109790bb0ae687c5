-- The former layout at a path, by its number.
use Rattle.std.proofs.Common.{◌≡◌, ℕ, zero, suc, ◌+◌, List, [], ◌∷◌, drop, get_or}
use Rattle.std.proofs.Common.{refl, ap, sym, subst, ◌∙◌}
use Rattle.std.proofs.lemmas.Slice.Eq.{bytes_eq-Decides}
use Rattle.std.proofs.lemmas.Option.{slice_get_within, slice_get-get_or}
use Rattle.std.specs.Prelude.{Bool, true, false, not, ◌&&◌, Option, Some, slice_get, if◌then◌else◌}
use Rattle.std.specs.List.{IsDistinct, All, AllByRecursion}
use Rattle.std.specs.Str.{bytes_eq}
use Rattle.tx_tree.proofs.Walks.{drop_item}
use Rattle.tx_items.specs.declared.attributes.Attrs.{Attrs}
use Rattle.tx_walk.specs.declared.part.Part.{Part as DonePart}
use Rattle.tx_part_layout.specs.declared.laid.PlacedPart.{PlacedPart}
use Rattle.tx_part_layout.specs.LaidParts.{laid_paths, before_at, is_before, is_reused}
use Rattle.tx_part_layout.specs.Finding.{IsAt, IsReused}
use Rattle.tx_part_layout.proofs.Alike.{attrs_are}

pub some_same : {X : Type 0} (x y : X) → Some x ≡ Some y → x ≡ y
some_same x y e = cc

-- what holds of all, holds of the one with this number
pub all_there : {X : Type 0} (P : X → Type 0) (xs : List X) (i : ℕ) (x : X) → All P xs → slice_get xs i ≡ Some x → P x
all_there {X} P xs i x h e =
    let few = slice_get_within xs i x e in
    let same : get_or xs i x ≡ x = some_same {X = X} _ x (sym (slice_get-get_or xs i x few) ∙ e) in
    subst P same (h i x few)

not_at : (x : List ℕ) (ps : List PlacedPart) (i : ℕ) (p : PlacedPart) →
    AllByRecursion (λ y. bytes_eq x y ≡ false) (laid_paths ps) → slice_get ps i ≡ Some p → bytes_eq x p.path ≡ false
not_at x [] i p d h = cc
not_at x (q ∷ ps) zero p d h =
    let same : q ≡ p = cc in subst (λ (r : PlacedPart). bytes_eq x r.path ≡ false) same d.0
not_at x (q ∷ ps) (suc i) p d h = not_at x ps i p d.1 h

if_true : (b : Bool) (o r : Option Attrs) → b ≡ true → (if b then o else r) ≡ o
if_true true o r h = refl
if_true false o r h = cc

if_false : (b : Bool) (o r : Option Attrs) → b ≡ false → (if b then o else r) ≡ r
if_false false o r h = refl
if_false true o r h = cc

-- where parts have different paths, the one at the path counts
pub at_path : (ps : List PlacedPart) (path : List ℕ) (i : ℕ) (p : PlacedPart) → IsDistinct bytes_eq (laid_paths ps) →
    slice_get ps i ≡ Some p → bytes_eq p.path path ≡ true → before_at ps path ≡ Some p.laid.value.before
unfolding IsDistinct
at_path [] path i p d h e = cc
at_path (q ∷ ps) path zero p d h e =
    let same : q ≡ p = cc in
    if_true (bytes_eq q.path path) (Some q.laid.value.before) (before_at ps path)
    (ap (λ (r : PlacedPart). bytes_eq r.path path) same ∙ e)
    ∙ ap (λ (r : PlacedPart). Some r.laid.value.before) same
at_path (q ∷ ps) path (suc i) p d h e =
    let other : bytes_eq q.path p.path ≡ false = not_at q.path ps i p d.0 h in
    let there : p.path ≡ path = (bytes_eq-Decides p.path path).0 e in
    if_false (bytes_eq q.path path) (Some q.laid.value.before) (before_at ps path)
    (ap (bytes_eq q.path) (sym there) ∙ other)
    ∙ at_path ps path i p d.1 h e

-- past one at another path
pub past_other : (ps : List PlacedPart) (path : List ℕ) (i : ℕ) (p : PlacedPart) (o : Option Attrs) →
    slice_get ps i ≡ Some p → bytes_eq p.path path ≡ false → o ≡ before_at (drop i ps) path →
    o ≡ before_at (drop (i + 1) ps) path
past_other ps path i p o h e g =
    g ∙ ap (λ qs. before_at qs path) (drop_item ps i p h)
    ∙ if_false (bytes_eq p.path path) (Some p.laid.value.before) (before_at (drop (i + 1) ps) path) e

pub found_there : (ps : List PlacedPart) (path : List ℕ) (i : ℕ) (p : PlacedPart) →
    slice_get ps i ≡ Some p → bytes_eq p.path path ≡ true → before_at ps path ≡ before_at (drop i ps) path →
    IsAt ps path i
found_there ps path i p h e g =
    record {
      part = p;
      there = h;
      stands = (bytes_eq-Decides p.path path).0 e;
      is = g ∙ ap (λ qs. before_at qs path) (drop_item ps i p h)
          ∙ if_true (bytes_eq p.path path) (Some p.laid.value.before) (before_at (drop (i + 1) ps) path) e;
    }

pub found_near : (ps : List PlacedPart) (path : List ℕ) (i : ℕ) (p : PlacedPart) →
    IsDistinct bytes_eq (laid_paths ps) → slice_get ps i ≡ Some p → bytes_eq p.path path ≡ true → IsAt ps path i
found_near ps path i p d h e =
    record { part = p; there = h; stands = (bytes_eq-Decides p.path path).0 e; is = at_path ps path i p d h e }

-- what was found is reused where the attributes before it are these
kept_is : (r : Bool) (o : Option Attrs) (b a : Attrs) → r ≡ false → o ≡ Some b →
    not r && is_before o a ≡ is_before (Some b) a
kept_is r o b a e f = ap (λ x. not x && is_before o a) e ∙ ap (λ x. is_before x a) f

pub reused_is : (old : List PlacedPart) (d : DonePart) (a : Attrs) (i : ℕ) (p : PlacedPart) → IsAt old d.path i →
    slice_get old i ≡ Some p → d.renewed ≡ false → is_before (Some p.laid.value.before) a ≡ true → IsReused old d a i
reused_is old d a i p at h r e =
    let same : at.part ≡ p = some_same at.part p (sym at.there ∙ h) in
    record {
      part = p;
      there = h;
      stands = ap (λ (q : PlacedPart). q.path) (sym same) ∙ at.stands;
      kept = r;
      before = attrs_are p.laid.value.before a e;
      is =
          kept_is d.renewed (before_at old d.path) p.laid.value.before a r
          (at.is ∙ ap (λ (q : PlacedPart). Some q.laid.value.before) same) ∙ e;
    }

pub not_reused : (old : List PlacedPart) (d : DonePart) (a : Attrs) (i : ℕ) (p : PlacedPart) → IsAt old d.path i →
    slice_get old i ≡ Some p → d.renewed ≡ false → is_before (Some p.laid.value.before) a ≡ false →
    is_reused old d a ≡ false
not_reused old d a i p at h r e =
    let same : at.part ≡ p = some_same at.part p (sym at.there ∙ h) in
    kept_is d.renewed (before_at old d.path) p.laid.value.before a r
    (at.is ∙ ap (λ (q : PlacedPart). Some q.laid.value.before) same) ∙ e
