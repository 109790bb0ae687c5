-- Items after items, and what errors show.
use Rattle.std.proofs.Common.{◌≡◌, ℕ, suc, ◌==◌, true, false, List, [], ◌∷◌, ◌++◌, length, None}
use Rattle.std.proofs.Common.{refl, sym, ap, ◌∙◌, subst, append-nil, eqb-true, arith}
use Rattle.std.specs.Prelude.{codes}
use Rattle.tx_items.specs.declared.attributes.Attrs.{Attrs}
use Rattle.tx_items.specs.declared.drawing.Item.{Item}
use Rattle.tx_items.specs.declared.drawing.ErrorAt.{ErrorAt}
use Rattle.tx_items.specs.Drawing.{drawn}
use Rattle.tx_items.specs.Shows.{begun, run_of, beside, inline, in_line, error_items}
use Rattle.tx_items.specs.Running.{State, HasShown, attrs_of_first}
use Rattle.tx_items.proofs.Runs.{beside_assoc}

run_append : (a : Attrs) (xs ys : List Item) → run_of a (xs ++ ys) ≡ beside (run_of a xs) (run_of a ys)
run_append a [] ys = refl
run_append a (x ∷ xs) [] = ap (λ zs. begun a (x ∷ zs)) (append-nil xs)
run_append a (x ∷ xs) (y ∷ ys) = refl

-- a run with its first attributes, after which items come
pub run_grows : (first a : Attrs) (xs ys : List Item)
    → run_of (attrs_of_first xs first a) (xs ++ ys) ≡ beside (run_of first xs) (run_of a ys)
run_grows first a [] ys = refl
run_grows first a (x ∷ xs) [] = ap (λ zs. begun first (x ∷ zs)) (append-nil xs)
run_grows first a (x ∷ xs) (y ∷ ys) = refl

pub ruleset grows = (run_grows)

-- items after items
pub line_both : (xs : List Item) (ys : Attrs → List Item) (s m u : State) → HasShown (in_line s.attrs xs) s m
    → HasShown (in_line m.attrs (ys m.attrs)) m u → HasShown (in_line s.attrs (xs ++ ys s.attrs)) s u
line_both xs ys s m u h k =
    let P : Attrs → Type 0 = λ a. HasShown (in_line a (ys a)) m u in
    let next : HasShown (in_line s.attrs (ys s.attrs)) m u = subst P h.after k in
    record {
      after = next.after;
      errors = next.errors ∙ ap (λ es. es ++ []) h.errors ∙ append-nil (s.errors ++ []);
      adds = (
        next.adds.0 ∙ ap (λ r. beside r (run_of s.attrs (ys s.attrs))) h.adds.0
            ∙ beside_assoc s.run (run_of s.attrs xs) (run_of s.attrs (ys s.attrs))
            ∙ ap (beside s.run) (sym (run_append s.attrs xs (ys s.attrs))),
        next.adds.1 ∙ h.adds.1,
      );
    }

pub error_short : (kind detail : List ℕ) (s m u w : State) → true ≡ (length detail == 0)
    → HasShown (in_line s.attrs (drawn s.attrs None (codes "<less>!"))) s m
    → HasShown (in_line m.attrs (drawn m.attrs None kind)) m u
    → HasShown (in_line u.attrs (drawn u.attrs None (codes "<gtr>"))) u w
    → HasShown (in_line s.attrs (error_items s.attrs kind detail)) s w
error_short kind [] s m u w h x y z =
    line_both (drawn s.attrs None (codes "<less>!") ++ drawn s.attrs None kind) (λ a. drawn a None (codes "<gtr>")) s u
    w
    (line_both (drawn s.attrs None (codes "<less>!")) (λ a. drawn a None kind) s m u x y) z
error_short kind (d ∷ ds) s m u w h x y z =
    let no : 0 ≡ suc (length ds) = sym (eqb-true (suc (length ds)) 0 (sym h)) in absurd (omega arith)

pub error_long : (kind detail : List ℕ) (s m n u v w : State) → false ≡ (length detail == 0)
    → HasShown (in_line s.attrs (drawn s.attrs None (codes "<less>!"))) s m
    → HasShown (in_line m.attrs (drawn m.attrs None kind)) m n
    → HasShown (in_line n.attrs (drawn n.attrs None (codes " "))) n u
    → HasShown (in_line u.attrs (drawn u.attrs None detail)) u v
    → HasShown (in_line v.attrs (drawn v.attrs None (codes "<gtr>"))) v w
    → HasShown (in_line s.attrs (error_items s.attrs kind detail)) s w
error_long kind [] s m n u v w h a b c d e = absurd cc
error_long kind (t ∷ ts) s m n u v w h x y z p q =
    let a : Attrs = s.attrs in
    let one : List Item = drawn a None (codes "<less>!") in
    let two : List Item = one ++ drawn a None kind in
    let three : List Item = two ++ drawn a None (codes " ") in
    let four : List Item = three ++ drawn a None (t ∷ ts) in
    line_both four (λ k. drawn k None (codes "<gtr>")) s v w
    (line_both three (λ k. drawn k None (t ∷ ts)) s u v
    (line_both two (λ k. drawn k None (codes " ")) s n u
    (line_both one (λ k. drawn k None kind) s m n x y) z) p) q

-- items after one error more
pub with_error : (xs : List Item) (e : ErrorAt) (s m u : State) → m.attrs ≡ s.attrs → m.run ≡ s.run
    → m.paragraphs ≡ s.paragraphs → m.errors ≡ s.errors ++ e ∷ [] → HasShown (in_line m.attrs xs) m u
    → HasShown (record { form = inline (run_of s.attrs xs); after = s.attrs; errors = e ∷ [] }) s u
with_error xs e s m u a r p f h = record {
  after = h.after ∙ a;
  errors = h.errors ∙ append-nil m.errors ∙ f;
  adds = (
    h.adds.0 ∙ ap (λ q. beside q (run_of m.attrs xs)) r ∙ ap (λ b. beside s.run (run_of b xs)) a,
    h.adds.1 ∙ p,
  );
}
