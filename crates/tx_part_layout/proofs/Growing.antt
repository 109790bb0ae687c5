-- What is laid out so far, by no part and by several trees more.
use Rattle.std.proofs.Common.{◌≡◌, ℕ, zero, suc, ◌+◌, ◌≤◌, ◌<◌, List, [], ◌∷◌, ◌++◌, length, drop, map, get_or}
use Rattle.std.proofs.Common.{refl, ap, sym, subst, ◌∙◌, arith, length-append, append_assoc}
use Rattle.std.specs.List.{flat_map}
use Rattle.std.proofs.lemmas.List.{append-nil, map-append}
use Rattle.std.proofs.lemmas.List.Concat.{flat_map-append}
use Rattle.std.proofs.Math.ListN.{drop_of_length-le}
use Rattle.std.proofs.lemmas.Option.{slice_get_read}
use Rattle.tx_tree.specs.WideTree.{WideTree, children_of}
use Rattle.tx_tree.proofs.Walks.{drop_item}
use Rattle.tx_parts.specs.Openness.{Openness, Document, openness}
use Rattle.tx_walk.specs.declared.part.Part.{Part as DonePart}
use Rattle.tx_items.specs.declared.attributes.Attrs.{Attrs}
use Rattle.tx_part_items.specs.ShownParts.{PartValue, ShownPart, PartsShown, own_paragraphs, part_errors}
use Rattle.tx_part_items.specs.ShownParts.{children_shown, shown_as, parts_shown}
use Rattle.tx_part_layout.specs.declared.laid.PlacedPart.{PlacedPart}
use Rattle.tx_part_layout.specs.declared.laying.Laying.{Laying}
use Rattle.tx_part_layout.specs.LaidParts.{shown_from, items_anew}
use Rattle.tx_part_layout.specs.Laying.{HasLaid, left_values}

-- ---- nothing

pub none_anew : (old : List PlacedPart) (ds : List DonePart) → items_anew old ds [] ≡ 0
none_anew old [] = refl
none_anew old (d ∷ ds) = refl

pub nothing_laid : (old : List PlacedPart) (parts : List DonePart) (x : Laying) →
    HasLaid old parts (record { each = []; after = x.attrs; left = left_values parts x.next }) x x
nothing_laid old parts x =
    record {
      next = omega arith;
      left = refl;
      attrs = refl;
      frames = refl;
      laid = sym (append-nil _);
      paragraphs = sym (append-nil _);
      errors = sym (append-nil _);
      rest = refl;
      rest_lines = refl;
      items = omega (arith, none_anew old (drop x.next parts));
    }

-- ---- several trees

drop_further : {X : Type 0} (n m k : ℕ) (xs : List X) → k ≡ n + m → drop k xs ≡ drop m (drop n xs)
drop_further {X} zero m k xs e = ap (λ i. drop {A = X} i xs) (omega (arith, e))
drop_further {X} (suc n) m zero xs e = absurd (omega (arith, e))
drop_further {X} (suc n) zero (suc k) [] e = refl
drop_further {X} (suc n) (suc m) (suc k) [] e = refl
drop_further {X} (suc n) m (suc k) (x ∷ xs) e = drop_further {X = X} n m k xs (omega (arith, e))

both_anew : (old : List PlacedPart) (ds : List DonePart) (ps qs : List ShownPart) →
    items_anew old ds (ps ++ qs) ≡ items_anew old ds ps + items_anew old (drop (length ps) ds) qs
both_anew old [] [] qs = refl
both_anew old [] (p ∷ ps) qs = refl
both_anew old (d ∷ ds) [] qs = omega arith
both_anew old (d ∷ ds) (p ∷ ps) qs = omega (arith, both_anew old ds ps qs)

-- two lists of what parts show, in order
both_mapped : {X Y : Type 0} (f : X → Y) (ps qs : List X) (xs ys zs : List Y) → ys ≡ xs ++ map f ps →
    zs ≡ ys ++ map f qs → zs ≡ xs ++ map f (ps ++ qs)
both_mapped f ps qs xs ys zs e g =
    g ∙ ap (λ us. us ++ map f qs) e ∙ append_assoc xs (map f ps) (map f qs)
    ∙ ap (λ us. xs ++ us) (sym (map-append f ps qs))

both_laid : (old : List PlacedPart) (parts : List DonePart) (s r : PartsShown) (x y z : Laying) →
    HasLaid old parts s x y → HasLaid old parts r y z →
    HasLaid old parts (record { each = s.each ++ r.each; after = r.after; left = r.left }) x z
both_laid old parts s r x y z h g =
    record {
      next = let m = h.next in let n = g.next in omega (arith, m, n, length-append s.each r.each);
      left = g.left;
      attrs = g.attrs;
      frames = g.frames ∙ h.frames;
      laid = both_mapped shown_from s.each r.each _ _ _ h.laid g.laid;
      paragraphs = both_mapped own_paragraphs s.each r.each _ _ _ h.paragraphs g.paragraphs;
      errors =
          g.errors ∙ ap (λ es. es ++ flat_map part_errors r.each) h.errors
          ∙ append_assoc x.unit.errors.items (flat_map part_errors s.each) (flat_map part_errors r.each)
          ∙ ap (λ es. x.unit.errors.items ++ es) (sym (flat_map-append part_errors s.each r.each));
      rest = g.rest ∙ h.rest;
      rest_lines = g.rest_lines ∙ h.rest_lines;
      items =
          let m = h.items in
          let n = g.items in
          let there : drop y.next parts ≡ drop (length s.each) (drop x.next parts) =
          drop_further x.next (length s.each) y.next parts h.next in
          omega (
            arith,
            m,
            n,
            both_anew old (drop x.next parts) s.each r.each,
            ap (λ ds. items_anew old ds r.each) there,
          );
    }

-- the first child, and then the others
child_laid : (old : List PlacedPart) (parts : List DonePart) (k : ℕ) (t : WideTree) (ts : List WideTree)
    (x y z : Laying) → HasLaid old parts (parts_shown k (λ b. b) x.attrs (left_values parts x.next) t) x y →
    HasLaid old parts (children_shown (parts_shown k) y.attrs (left_values parts y.next) ts) y z →
    HasLaid old parts (children_shown (parts_shown k) x.attrs (left_values parts x.next) (t ∷ ts)) x z
child_laid old parts k t ts x y z h g =
    let s = parts_shown k (λ b. b) x.attrs (left_values parts x.next) t in
    both_laid old parts s (children_shown (parts_shown k) s.after s.left ts) x y z h
    (subst (λ (vs : List PartValue). HasLaid old parts (children_shown (parts_shown k) s.after vs ts) y z) h.left
    (subst (λ (a : Attrs). HasLaid old parts (children_shown (parts_shown k) a (left_values parts y.next) ts) y z)
    h.attrs g))

-- ---- children one by one

pub next_child : (old : List PlacedPart) (parts : List DonePart) (k : ℕ) (ts : List WideTree) (i : ℕ) (t : WideTree)
    (x y : Laying) (G : Laying → Type 0) → i < length ts → t ≡ get_or ts i t →
    ((z : Laying) → HasLaid old parts
    (children_shown (parts_shown k) x.attrs (left_values parts x.next) (drop i ts)) x z → G z) →
    HasLaid old parts (parts_shown k (λ b. b) x.attrs (left_values parts x.next) t) x y →
    (z : Laying) → HasLaid old parts
    (children_shown (parts_shown k) y.attrs (left_values parts y.next) (drop (i + 1) ts)) y z → G z
next_child old parts k ts i t x y G lt is going h z g =
    let split : drop i ts ≡ t ∷ drop (i + 1) ts = drop_item ts i t (slice_get_read ts (length ts) i t refl lt is) in
    going z
    (subst (λ (us : List WideTree).
    HasLaid old parts (children_shown (parts_shown k) x.attrs (left_values parts x.next) us) x z) (sym split)
    (child_laid old parts k t (drop (i + 1) ts) x y z h g))

pub last_child : (old : List PlacedPart) (parts : List DonePart) (k : ℕ) (ts : List WideTree) (i : ℕ) (t : WideTree)
    (x y : Laying) (back : Attrs → Attrs) → length ts ≤ i → ts ≡ children_of t →
    openness t ≡ Document (children_of t) →
    ((z : Laying) → HasLaid old parts
    (children_shown (parts_shown k) y.attrs (left_values parts y.next) (drop i ts)) y z →
    HasLaid old parts (children_shown (parts_shown k) x.attrs (left_values parts x.next) ts) x z) →
    HasLaid old parts (shown_as (openness t) (parts_shown k) back x.attrs (left_values parts x.next) t) x y
last_child old parts k ts i t x y back past are opens going =
    let none : drop i ts ≡ [] = drop_of_length-le ts past in
    subst (λ (w : Openness).
    HasLaid old parts (shown_as w (parts_shown k) back x.attrs (left_values parts x.next) t) x y) (sym opens)
    (subst (λ (us : List WideTree).
    HasLaid old parts (children_shown (parts_shown k) x.attrs (left_values parts x.next) us) x y) are
    (going y
    (subst (λ (us : List WideTree).
    HasLaid old parts (children_shown (parts_shown k) y.attrs (left_values parts y.next) us) y y) (sym none)
    (nothing_laid old parts y))))
