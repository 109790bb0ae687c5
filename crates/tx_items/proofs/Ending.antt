-- The end of a unit.
use Rattle.std.specs.Prelude.{◌&&◌}
use Rattle.std.proofs.lemmas.List.{append-nil}
use Rattle.std.proofs.Common.{◌≡◌, Bool, true, false, not, [], ◌∷◌, ◌++◌, refl, sym, ap, ap₂, ◌∙◌}
use Rattle.tx_tree.specs.WideTree.{WideTree, is_leaf}
use Rattle.tx_origin.specs.Values.{WideValue}
use Rattle.tx_items.specs.declared.attributes.Attrs.{Attrs}
use Rattle.tx_items.specs.Shows.{empty, beside, whole_run, Form, inline, listed, is_inline, show}
use Rattle.tx_items.specs.Shows.{begun, or_one, unit_paragraphs, shown_paragraphs, is_blank, part_paragraphs}
use Rattle.tx_items.specs.Plans.{plan_of}
use Rattle.tx_items.specs.Running.{State, Adds, HasShown, finished, Finishes, is_nothing, part_finished, FinishesPart}
use Rattle.tx_items.proofs.Planning.{shows_list}

laid_as : (x : Form) (b : Bool) (end : Attrs) (s u w : State) → is_inline x ≡ not b → s.run ≡ empty
    → s.paragraphs ≡ [] → u.attrs ≡ end → Adds x s u → w.paragraphs ≡ finished b u
    → w.paragraphs ≡ unit_paragraphs x end
laid_as (inline r) true end s u w h none bare after adds f = absurd cc
laid_as (inline r) false end s u w h none bare after adds f =
    f
    ∙ ap₂ (λ ps q. ps ++ whole_run q u.attrs ∷ []) (adds.1 ∙ bare) (adds.0 ∙ ap (λ q. beside q r) none)
    ∙ ap (λ a. whole_run r a ∷ []) after
laid_as (listed ps) false end s u w h none bare after adds f = absurd cc
laid_as (listed ps) true end s u w h none bare after adds f =
    f ∙ ap (or_one u.attrs) (adds none ∙ ap (λ qs. qs ++ ps) bare) ∙ ap (λ a. or_one a ps) after

not_not : (b : Bool) → not (not b) ≡ b
not_not true = refl
not_not false = refl

pub laid : (v : WideValue) (b : Bool) (s u w : State) → b ≡ not (is_leaf (plan_of v)) → s.run ≡ empty
    → s.paragraphs ≡ [] → HasShown (show s.attrs v) s u → Finishes b u w
    → w.paragraphs ≡ shown_paragraphs s.attrs v
laid v b s u w e none bare h f =
    laid_as (show s.attrs v).form b (show s.attrs v).after s u w
    (shows_list s.attrs v ∙ sym (not_not (is_leaf (plan_of v))) ∙ ap not (sym e)) none bare h.after h.adds f.paragraphs

-- a value shown from the start of a unit
pub laid_from : (p : WideTree) (s u w : State) (b : Bool) (a : Attrs) (v : WideValue) → p ≡ plan_of v
    → b ≡ not (is_leaf p) → s ≡ record { attrs = a; run = empty; paragraphs = []; errors = [] }
    → HasShown (show s.attrs v) s u → Finishes b u w → w.paragraphs ≡ shown_paragraphs a v
laid_from p s u w b a v is e start h f =
    laid v b s u w (e ∙ ap (λ q. not (is_leaf q)) is) (ap (λ x. x.run) start) (ap (λ x. x.paragraphs) start) h f
    ∙ ap (λ x. shown_paragraphs x.attrs v) start

pub errors_from : (s u w : State) (b : Bool) (a : Attrs) (v : WideValue)
    → s ≡ record { attrs = a; run = empty; paragraphs = []; errors = [] } → HasShown (show s.attrs v) s u
    → Finishes b u w → w.errors ≡ (show a v).errors
errors_from s u w b a v start h f =
    f.errors ∙ h.errors ∙ ap (λ x. x.errors ++ (show x.attrs v).errors) start

pub behind_from : (s u : State) (a : Attrs) (v : WideValue)
    → s ≡ record { attrs = a; run = empty; paragraphs = []; errors = [] } → HasShown (show s.attrs v) s u
    → u.attrs ≡ (show a v).after
behind_from s u a v start h = h.after ∙ ap (λ x. (show x.attrs v).after) start

-- ---- the end of a part

part_as : (x : Form) (b : Bool) (s u w : State) → is_inline x ≡ not b → s.run ≡ empty → s.paragraphs ≡ []
    → Adds x s u → w.paragraphs ≡ part_finished b u → w.paragraphs ≡ part_paragraphs x u.attrs
part_as (inline r) true s u w h none bare adds f = absurd cc
part_as (inline r) false s u w h none bare adds f =
    f ∙ ap₂ (λ ps q. ps ++ whole_run q u.attrs ∷ []) (adds.1 ∙ bare) (adds.0 ∙ ap (λ q. beside q r) none)
part_as (listed ps) false s u w h none bare adds f = absurd cc
part_as (listed ps) true s u w h none bare adds f =
    f ∙ adds none ∙ ap (λ qs. qs ++ ps) bare ∙ sym (append-nil ps)

blank_as : (x : Form) (b : Bool) (s u : State) → is_inline x ≡ not b → s.run ≡ empty → Adds x s u
    → not b && is_nothing u.run ≡ is_blank x
blank_as (inline empty) false s u h none adds = ap is_nothing (adds.0 ∙ ap (λ q. beside q empty) none)
blank_as (inline (begun a items)) false s u h none adds =
    ap is_nothing (adds.0 ∙ ap (λ q. beside q (begun a items)) none)
blank_as (inline r) true s u h none adds = absurd cc
blank_as (listed ps) true s u h none adds = refl
blank_as (listed ps) false s u h none adds = absurd cc

in_form : (p : WideTree) (b : Bool) (a c : Attrs) (v : WideValue) → p ≡ plan_of v → b ≡ not (is_leaf p) → c ≡ a
    → is_inline (show c v).form ≡ not b
in_form p b a c v is e same =
    shows_list c v ∙ ap is_leaf (sym is) ∙ sym (not_not (is_leaf p)) ∙ ap not (sym e)

-- the paragraphs of a value shown from the start of a part
pub part_from : (p : WideTree) (s u w : State) (b : Bool) (a : Attrs) (v : WideValue) → p ≡ plan_of v
    → b ≡ not (is_leaf p) → s ≡ record { attrs = a; run = empty; paragraphs = []; errors = [] }
    → HasShown (show s.attrs v) s u → FinishesPart b u w
    → w.paragraphs ≡ part_paragraphs (show a v).form (show a v).after
part_from p s u w b a v is e start h f =
    part_as (show s.attrs v).form b s u w (in_form p b a s.attrs v is e (ap (λ x. x.attrs) start))
    (ap (λ x. x.run) start) (ap (λ x. x.paragraphs) start) h.adds f.paragraphs
    ∙ ap (part_paragraphs (show s.attrs v).form) h.after
    ∙ ap (λ x. part_paragraphs (show x.attrs v).form (show x.attrs v).after) start

pub part_errors_from : (s u w : State) (b : Bool) (a : Attrs) (v : WideValue)
    → s ≡ record { attrs = a; run = empty; paragraphs = []; errors = [] } → HasShown (show s.attrs v) s u
    → FinishesPart b u w → w.errors ≡ (show a v).errors
part_errors_from s u w b a v start h f =
    f.errors ∙ h.errors ∙ ap (λ x. x.errors ++ (show x.attrs v).errors) start

pub part_behind_from : (s u w : State) (b : Bool) (a : Attrs) (v : WideValue)
    → s ≡ record { attrs = a; run = empty; paragraphs = []; errors = [] } → HasShown (show s.attrs v) s u
    → FinishesPart b u w → w.attrs ≡ (show a v).after
part_behind_from s u w b a v start h f = f.attrs ∙ behind_from s u a v start h

pub blank_from : (p : WideTree) (s u : State) (b : Bool) (a : Attrs) (v : WideValue) → p ≡ plan_of v
    → b ≡ not (is_leaf p) → s ≡ record { attrs = a; run = empty; paragraphs = []; errors = [] }
    → HasShown (show s.attrs v) s u → not b && is_nothing u.run ≡ is_blank (show a v).form
blank_from p s u b a v is e start h =
    blank_as (show s.attrs v).form b s u (in_form p b a s.attrs v is e (ap (λ x. x.attrs) start))
    (ap (λ x. x.run) start) h.adds ∙ ap (λ x. is_blank (show x.attrs v).form) start
