-- How the paragraphs of a document come together.
use Rattle.std.proofs.Common.{◌≡◌, ℕ, ◌+◌, ◌<◌, ◌≤◌, true, false, List, [], ◌∷◌, ◌++◌, length, drop, get_or}
use Rattle.std.proofs.Common.{refl, sym, ap, ap₂, ◌∙◌, subst, append_assoc, append-nil}
use Rattle.std.proofs.lemmas.List.{drop_all}
use Rattle.tx_origin.specs.Values.{WideValue, WideValues, none, also, vals}
use Rattle.tx_items.specs.declared.attributes.Attrs.{Attrs}
use Rattle.tx_items.specs.Shows.{empty, beside, run_ended, whole_run, Form, inline, listed, Shown, AllShown, is_inline}
use Rattle.tx_items.specs.Shows.{one_by_one, document_shown, show, show_all}
use Rattle.tx_items.specs.Shows.{one_of, both_shown}
use Rattle.tx_items.specs.Running.{State, Adds, HasShown, HasPars, EndsRun, EndsParagraph}
use Rattle.tx_items.proofs.Runs.{inline_case, list_case, show_all_also, item_first}

one_append : (xs ys : List (Form × Attrs)) → one_by_one (xs ++ ys) ≡ one_by_one xs ++ one_by_one ys
one_append [] ys = refl
one_append ((inline r, a) ∷ xs) ys = ap (λ ps. whole_run r a ∷ ps) (one_append xs ys)
one_append ((listed ps, a) ∷ xs) ys =
    ap (λ qs. ps ++ qs) (one_append xs ys) ∙ sym (append_assoc ps (one_by_one xs) (one_by_one ys))

pars_both : (x y : AllShown) (s u w : State) → HasPars x s u → HasPars y u w → HasPars (both_shown x y) s w
pars_both x y s u w h k = record {
  after = k.after;
  errors = k.errors ∙ ap (λ es. es ++ y.errors) h.errors ∙ append_assoc s.errors x.errors y.errors;
  pars = λ clean.
      let first = h.pars clean in
      let second = k.pars first.0 in (
        second.0,
        second.1 ∙ ap (λ ps. ps ++ one_by_one y.each) first.1
            ∙ append_assoc s.paragraphs (one_by_one x.each) (one_by_one y.each)
            ∙ ap (λ ps. s.paragraphs ++ ps) (sym (one_append x.each y.each)),
      );
}

pars_none : (s : State) → HasPars (show_all false s.attrs none) s s
unfolding show_all
pars_none s = record {
  after = refl;
  errors = sym (append-nil s.errors);
  pars = λ clean. (clean, sym (append-nil s.paragraphs));
}

pars_more : (v : WideValue) (vs : WideValues) (s u w : State) → HasPars (one_of (show s.attrs v)) s u
    → HasPars (show_all false u.attrs vs) u w → HasPars (show_all false s.attrs (also v vs)) s w
pars_more v vs s u w first rest =
    let Q : Attrs → Type 0 = λ a. HasPars (show_all false a vs) u w in
    let others : HasPars (show_all false (show s.attrs v).after vs) u w = subst Q first.after rest in
    let R : AllShown → Type 0 = λ all. HasPars all s w in
    subst R (sym (show_all_also false s.attrs v vs))
    (pars_both (one_of (show s.attrs v)) (show_all false (show s.attrs v).after vs) s u w first others)

pub par_inline : (t : Shown) (s m u : State) → is_inline t.form ≡ true → HasShown t s m → EndsParagraph m u
    → HasPars (one_of t) s u
par_inline t s m u is h e =
    let found = inline_case t.form is in
    let P : Form → Type 0 = λ x.
    Adds x s m → s.run ≡ empty
    → (u.run ≡ empty) × (u.paragraphs ≡ s.paragraphs ++ one_by_one ((x, t.after) ∷ [])) in
    record {
      after = e.attrs ∙ h.after;
      errors = e.errors ∙ h.errors;
      pars = subst P (sym found.1) (λ adds clean. (
        e.run,
        e.paragraphs ∙ ap₂ (λ ps q. ps ++ whole_run q m.attrs ∷ []) adds.1
            (adds.0 ∙ ap (λ q. beside q found.0) clean)
            ∙ ap (λ a. s.paragraphs ++ whole_run found.0 a ∷ []) h.after,
      )) h.adds;
    }

pub par_listed : (t : Shown) (s m u : State) → is_inline t.form ≡ false → HasShown t s m → EndsRun m u
    → HasPars (one_of t) s u
par_listed t s m u is h e =
    let found = list_case t.form is in
    let P : Form → Type 0 = λ x.
    Adds x s m → s.run ≡ empty
    → (u.run ≡ empty) × (u.paragraphs ≡ s.paragraphs ++ one_by_one ((x, t.after) ∷ [])) in
    record {
      after = e.attrs ∙ h.after;
      errors = e.errors ∙ h.errors;
      pars = subst P (sym found.1) (λ adds clean. (
        e.run,
        e.paragraphs ∙ adds clean ∙ ap (λ ps. s.paragraphs ++ ps) (sym (append-nil found.0)),
      )) h.adds;
    }

pub pars_document : (all : AllShown) (s u : State) → HasPars all s u → HasShown (document_shown all) s u
pars_document all s u h = record {
  after = h.after;
  errors = h.errors;
  adds = λ clean.
      let p = h.pars clean in
      ap₂ (λ ps q. ps ++ run_ended q) p.1 p.0 ∙ append-nil (s.paragraphs ++ one_by_one all.each);
}

-- ---- one turn of a loop

pub pars_next : (xs : List WideValue) (i : ℕ) (v : WideValue) (s u w : State) → i < length xs → v ≡ get_or xs i v
    → HasPars (one_of (show s.attrs v)) s u → HasPars (show_all false u.attrs (vals (drop (i + 1) xs))) u w
    → HasPars (show_all false s.attrs (vals (drop i xs))) s w
pars_next xs i v s u w there is one rest =
    let P : List WideValue → Type 0 = λ ys. HasPars (show_all false s.attrs (vals ys)) s w in
    subst P (sym (item_first xs i v there is)) (pars_more v (vals (drop (i + 1) xs)) s u w one rest)

pub pars_done : (xs : List WideValue) (i : ℕ) (s : State) → length xs ≤ i
    → HasPars (show_all false s.attrs (vals (drop i xs))) s s
pars_done xs i s past =
    let P : List WideValue → Type 0 = λ ys. HasPars (show_all false s.attrs (vals ys)) s s in
    subst P (sym (drop_all i xs past)) (pars_none s)
