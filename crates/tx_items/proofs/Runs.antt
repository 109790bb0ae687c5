-- How what is shown side by side comes together.
use Rattle.std.proofs.Common.{◌≡◌, ℕ, ◌+◌, ◌<◌, ◌≤◌, Bool, true, false, cond, List, [], ◌∷◌, ◌++◌, length, drop}
use Rattle.std.proofs.Common.{get_or, None, refl, sym, ap, ap₂, ◌∙◌, subst, append_assoc, append-nil}
use Rattle.std.specs.Prelude.{codes}
use Rattle.std.proofs.lemmas.List.{drop_more, drop_all}
use Rattle.tx_origin.specs.Values.{WideValue, WideValues, none, also, vals}
use Rattle.tx_items.specs.declared.attributes.Attrs.{Attrs}
use Rattle.tx_items.specs.declared.drawing.Paragraph.{Paragraph}
use Rattle.tx_items.specs.Drawing.{drawn}
use Rattle.tx_items.specs.Shows.{ItemRun, empty, begun, run_of, beside, run_ended, Form, inline, listed, Shown}
use Rattle.tx_items.specs.Shows.{AllShown}
use Rattle.tx_items.specs.Shows.{all_inline, is_inline, side_by_side, paragraphs_of, concat_shown, in_line}
use Rattle.tx_items.specs.Shows.{made_error, tag_shown, show, show_all}
use Rattle.tx_items.specs.Shows.{one_of, both_shown}
use Rattle.tx_items.specs.Running.{State, Adds, HasShown, ShowsForms, HasRun, EndsRun, bar_of}
use Rattle.tx_items.specs.Running.{tag_front}

pub beside_empty : (r : ItemRun) → beside r empty ≡ r
beside_empty empty = refl
beside_empty (begun a xs) = refl

pub beside_assoc : (q r s : ItemRun) → beside (beside q r) s ≡ beside q (beside r s)
beside_assoc empty r s = refl
beside_assoc (begun a xs) empty s = refl
beside_assoc (begun a xs) (begun b ys) empty = refl
beside_assoc (begun a xs) (begun b ys) (begun c zs) = ap (begun a) (append_assoc xs ys zs)

-- ---- in order

side_append : (xs ys : List (Form × Attrs))
    → side_by_side (xs ++ ys) ≡ beside (side_by_side xs) (side_by_side ys)
side_append [] ys = refl
side_append ((inline r, a) ∷ xs) ys =
    ap (beside r) (side_append xs ys) ∙ sym (beside_assoc r (side_by_side xs) (side_by_side ys))
side_append ((listed ps, a) ∷ xs) ys = side_append xs ys

both_inline : (xs ys : List (Form × Attrs)) → all_inline (xs ++ ys) ≡ true
    → (all_inline xs ≡ true) × (all_inline ys ≡ true)
both_inline [] ys h = (refl, h)
both_inline ((inline r, a) ∷ xs) ys h = both_inline xs ys h
both_inline ((listed ps, a) ∷ xs) ys h = absurd cc

goes_both : (xs ys : List (Form × Attrs)) (s u w : State) → ShowsForms xs s u → ShowsForms ys u w
    → ShowsForms (xs ++ ys) s w
goes_both xs ys s u w h k = record {
  pars = λ rest.
      k.pars rest ∙ h.pars (ys ++ rest)
      ∙ ap (λ zs. s.paragraphs ++ paragraphs_of s.run zs) (sym (append_assoc xs ys rest));
  side = λ all.
      let parts = both_inline xs ys all in
      let x = h.side parts.0 in
      let y = k.side parts.1 in (
        y.0 ∙ ap (λ r. beside r (side_by_side ys)) x.0
            ∙ beside_assoc s.run (side_by_side xs) (side_by_side ys) ∙ ap (beside s.run) (sym (side_append xs ys)),
        y.1 ∙ x.1,
      );
}

pub run_both : (x y : AllShown) (s u w : State) → HasRun x s u → HasRun y u w → HasRun (both_shown x y) s w
run_both x y s u w h k = record {
  after = k.after;
  errors = k.errors ∙ ap (λ es. es ++ y.errors) h.errors ∙ append_assoc s.errors x.errors y.errors;
  goes = goes_both x.each y.each s u w h.goes k.goes;
}

goes_nothing : (s : State) → ShowsForms [] s s
goes_nothing s = record { pars = λ rest. refl; side = λ _. (sym (beside_empty s.run), refl) }

run_none : (barred : Bool) (s : State) → HasRun (show_all barred s.attrs none) s s
unfolding show_all
run_none barred s = record { after = refl; errors = sym (append-nil s.errors); goes = goes_nothing s }

-- no items
pub run_nothing : (s : State) → HasShown (in_line s.attrs []) s s
run_nothing s = record {
  after = refl;
  errors = sym (append-nil s.errors);
  adds = (sym (beside_empty s.run), refl);
}

-- items alone
goes_inline : (r : ItemRun) (a : Attrs) (s u : State) → (u.run ≡ beside s.run r) × (u.paragraphs ≡ s.paragraphs)
    → ShowsForms ((inline r, a) ∷ []) s u
goes_inline r a s u h = record {
  pars = λ rest. ap₂ (λ ps q. ps ++ paragraphs_of q rest) h.1 h.0;
  side = λ _. (h.0 ∙ ap (beside s.run) (sym (beside_empty r)), h.1);
}

-- a list, with the runs before and after it ended
goes_listed : (ps : List Paragraph) (a : Attrs) (s s' u' u : State) → EndsRun s s' → Adds (listed ps) s' u'
    → EndsRun u' u → ShowsForms ((listed ps, a) ∷ []) s u
goes_listed ps a s s' u' u before h behind =
    let all : u.paragraphs ≡ (s.paragraphs ++ run_ended s.run) ++ ps =
    behind.paragraphs ∙ h before.run ∙ ap (λ qs. qs ++ ps) before.paragraphs in
    record {
      pars = λ rest.
          ap₂ (λ qs q. qs ++ paragraphs_of q rest) all behind.run
          ∙ ap (λ qs. qs ++ paragraphs_of empty rest) (append_assoc s.paragraphs (run_ended s.run) ps)
          ∙ append_assoc s.paragraphs (run_ended s.run ++ ps) (paragraphs_of empty rest);
      side = λ no. absurd cc;
    }

-- ---- bars

pub bar_run : (a : Attrs) (s u : State) → s.attrs ≡ a → HasShown (in_line a (drawn a None (codes "|"))) s u
    → HasRun (bar_of true a) s u
bar_run a s u e h = record {
  after = h.after;
  errors = h.errors;
  goes = goes_inline (run_of a (drawn a None (codes "|"))) a s u h.adds;
}

pub no_bar : (a : Attrs) (s : State) → s.attrs ≡ a → HasRun (bar_of false a) s s
no_bar a s e = record { after = e; errors = sym (append-nil s.errors); goes = goes_nothing s }

-- ---- one value

pub inline_case : (x : Form) → is_inline x ≡ true → (r : ItemRun) × (x ≡ inline r)
inline_case (inline r) h = (r, refl)
inline_case (listed ps) h = absurd cc

pub list_case : (x : Form) → is_inline x ≡ false → (ps : List Paragraph) × (x ≡ listed ps)
list_case (inline r) h = absurd cc
list_case (listed ps) h = (ps, refl)

pub part_inline : (t : Shown) (s u : State) → is_inline t.form ≡ true → HasShown t s u → HasRun (one_of t) s u
part_inline t s u is h =
    let found = inline_case t.form is in
    let P : Form → Type 0 = λ x. Adds x s u → ShowsForms ((x, t.after) ∷ []) s u in
    record {
      after = h.after;
      errors = h.errors;
      goes = subst P (sym found.1) (goes_inline found.0 t.after s u) h.adds;
    }

pub part_listed : (t : Shown) (s s' u' u : State) → is_inline t.form ≡ false → EndsRun s s' → HasShown t s' u'
    → EndsRun u' u → HasRun (one_of t) s u
part_listed t s s' u' u is before h behind =
    let found = list_case t.form is in
    let P : Form → Type 0 = λ x. Adds x s' u' → ShowsForms ((x, t.after) ∷ []) s u in
    record {
      after = behind.attrs ∙ h.after;
      errors = behind.errors ∙ h.errors ∙ ap (λ es. es ++ t.errors) before.errors;
      goes = subst P (sym found.1) (λ adds. goes_listed found.0 t.after s s' u' u before adds behind) h.adds;
    }

-- ---- several values

pub show_all_also : (barred : Bool) (a : Attrs) (v : WideValue) (vs : WideValues)
    → show_all barred a (also v vs) ≡ both_shown (both_shown (bar_of barred a) (one_of (show a v)))
    (show_all barred (show a v).after vs)
unfolding show_all show
show_all_also true a v vs = refl
show_all_also false a v vs = refl

run_more : (barred : Bool) (v : WideValue) (vs : WideValues) (s m u w : State) → HasRun (bar_of barred s.attrs) s m
    → HasRun (one_of (show m.attrs v)) m u → HasRun (show_all barred u.attrs vs) u w
    → HasRun (show_all barred s.attrs (also v vs)) s w
run_more barred v vs s m u w bar one rest =
    let P : Attrs → Type 0 = λ a. HasRun (one_of (show a v)) m u in
    let first : HasRun (one_of (show s.attrs v)) m u = subst P bar.after one in
    let Q : Attrs → Type 0 = λ a. HasRun (show_all barred a vs) u w in
    let others : HasRun (show_all barred (show s.attrs v).after vs) u w = subst Q first.after rest in
    let R : AllShown → Type 0 = λ all. HasRun all s w in
    subst R (sym (show_all_also barred s.attrs v vs))
    (run_both (both_shown (bar_of barred s.attrs) (one_of (show s.attrs v)))
    (show_all barred (show s.attrs v).after vs) s u w
    (run_both (bar_of barred s.attrs) (one_of (show s.attrs v)) s m u bar first) others)

-- several are one value
pub run_joined : (all : AllShown) (s u : State) → HasRun all s u → HasShown (concat_shown all) s u
run_joined all s u h = record { after = h.after; errors = h.errors; adds = pick (all_inline all.each) refl }
  where
    P : Form → Type 0
    P x = Adds x s u

    pick : (b : Bool) → all_inline all.each ≡ b
        → Adds (cond b (inline (side_by_side all.each)) (listed (paragraphs_of empty all.each))) s u
    pick true e = h.goes.side e
    pick false e = λ clean.
        h.goes.pars [] ∙ ap₂ (λ q fs. s.paragraphs ++ paragraphs_of q fs) clean (append-nil all.each)

-- a tag that nothing says how to show
pub run_tag : (label : List ℕ) (all : AllShown) (s m u w : State)
    → HasShown (record {
      form = inline (run_of s.attrs (tag_front s.attrs label));
      after = s.attrs;
      errors = made_error (codes "undefined-tag") label ∷ [];
    }) s m
    → HasRun all m u → HasShown (in_line u.attrs (drawn u.attrs None (codes "<gtr>"))) u w
    → HasShown (tag_shown s.attrs label all) s w
run_tag label all s m u w front each close =
    let e = made_error (codes "undefined-tag") label in
    let opened : ItemRun = run_of s.attrs (tag_front s.attrs label) in
    let opening : AllShown = record { each = (inline opened, s.attrs) ∷ []; after = s.attrs; errors = e ∷ [] } in
    let closed : Attrs → ItemRun = λ a. run_of a (drawn a None (codes "<gtr>")) in
    let closing : Attrs → AllShown = λ a. record { each = (inline (closed a), a) ∷ []; after = a; errors = [] } in
    let first : HasRun opening s m =
    record { after = front.after; errors = front.errors; goes = goes_inline opened s.attrs s m front.adds } in
    let last : HasRun (closing u.attrs) u w =
    record { after = close.after; errors = close.errors; goes = goes_inline (closed u.attrs) u.attrs u w close.adds } in
    let P : Attrs → Type 0 = λ a. HasRun (closing a) u w in
    let rest : AllShown = both_shown all (closing all.after) in
    let whole : HasRun (both_shown opening rest) s w =
    run_both opening rest s m w first (run_both all (closing all.after) m u w each (subst P each.after last)) in
    let shown_so : HasShown (concat_shown (both_shown opening rest)) s w =
    run_joined (both_shown opening rest) s w whole in
    record {
      after = shown_so.after;
      errors = shown_so.errors ∙ ap (λ es. s.errors ++ (e ∷ es)) (append-nil all.errors);
      adds = shown_so.adds;
    }

-- ---- one turn of a loop

pub item_first : (xs : List WideValue) (i : ℕ) (v : WideValue) → i < length xs → v ≡ get_or xs i v
    → drop i xs ≡ v ∷ drop (i + 1) xs
item_first xs i v there is = drop_more xs i v there ∙ ap (λ x. x ∷ drop (i + 1) xs) (sym is)

pub each_more : (barred : Bool) (xs : List WideValue) (i : ℕ) (v : WideValue) (s m u w : State) → i < length xs
    → v ≡ get_or xs i v → HasRun (bar_of barred s.attrs) s m → HasRun (one_of (show m.attrs v)) m u
    → HasRun (show_all barred u.attrs (vals (drop (i + 1) xs))) u w
    → HasRun (show_all barred s.attrs (vals (drop i xs))) s w
each_more barred xs i v s m u w there is bar one rest =
    let P : List WideValue → Type 0 = λ ys. HasRun (show_all barred s.attrs (vals ys)) s w in
    subst P (sym (item_first xs i v there is)) (run_more barred v (vals (drop (i + 1) xs)) s m u w bar one rest)

pub each_done : (barred : Bool) (xs : List WideValue) (i : ℕ) (s : State) → length xs ≤ i
    → HasRun (show_all barred s.attrs (vals (drop i xs))) s s
each_done barred xs i s past =
    let P : List WideValue → Type 0 = λ ys. HasRun (show_all barred s.attrs (vals ys)) s s in
    subst P (sym (drop_all i xs past)) (run_none barred s)
