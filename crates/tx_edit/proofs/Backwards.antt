-- The item that ends at a cut, found from its end.
use Rattle.std.proofs.Common.{◌≡◌, ℕ, zero, suc, ◌+◌, ◌-◌, ◌<◌, ◌≤◌, Bool, true, false, true≢false, not, ◌==◌, leb}
use Rattle.std.proofs.Common.{List, length, take, drop, get_or, Option, Some, None, refl, sym, ap, subst, ◌∙◌, add-one}
use Rattle.std.proofs.Common.{arith, take-append-drop}
use Rattle.std.specs.Prelude.{if◌then◌else◌}
use Rattle.std.proofs.lemmas.Bool.{le-leb, and_from, ne_eqb}
use Rattle.tx_tree.specs.declared.texts.TextPlace.{TextPlace}
use Rattle.tx_tree.specs.declared.texts.TextPlace.TheVariants.{Between, InSymbol}
use Rattle.tx_tree.specs.Cuts.{is_cut}
use Rattle.tx_tree.specs.Texts.{IsText, IsCut}
use Rattle.tx_tree.specs.TextScan.{text_step, text_run, is_between, is_text, begins_text}
use Rattle.tx_tree.proofs.Cutting.{cut_tested, cut_within}
use Rattle.tx_tree.proofs.Scanning.{begins_tested, run_more}
use Rattle.tx_mod.proofs.Cases.{by_test}
use Rattle.tx_edit.specs.Keys.{cut_before}

-- where the reading of a text is after its first k bytes
record IsRead (text : List ℕ) (k : ℕ) : Type 0 where
  at : TextPlace
  read : text_run (Some Between) (take k text) ≡ Some at

reading : (text : List ℕ) (k : ℕ) → IsText text → IsRead text k
unfolding begins_text
reading text k whole =
    from (text_run (Some Between) (take k text)) refl
    (begins_tested (take k text) (drop k text) (subst IsText (sym (take-append-drop k text)) whole))
  where
    from : (o : Option TextPlace) → text_run (Some Between) (take k text) ≡ o → begins_text (take k text) ≡ true
        → IsRead text k
    from None e h = absurd (cc)
    from (Some p) e h = record { at = p; read = e }

-- within the text a cut is where the reading is between two items
cut_is : (text : List ℕ) (k : ℕ) (p : TextPlace) → k ≤ length text → text_run (Some Between) (take k text) ≡ Some p
    → is_cut text k ≡ is_between (Some p)
unfolding is_cut is_text
cut_is text k p le e = rw (le-leb k (length text) le, e) refl

-- what is before a byte follows from what is after it
abbrev pub was_cut : Bool → ℕ → Bool
was_cut true b = not (b == 62)
was_cut false b = b == 60

step_back : (p q : TextPlace) (b : ℕ) → text_step p b ≡ Some q → is_between (Some p) ≡ was_cut (is_between (Some q)) b
unfolding text_step
step_back Between Between b e = grind arith
step_back Between (InSymbol n) b e = grind arith
step_back (InSymbol m) Between b e = grind arith
step_back (InSymbol m) (InSymbol n) b e = grind arith

-- whether there is a cut before a byte, by the byte and by whether there is one after it
pub cut_back : (text : List ℕ) (k : ℕ) → IsText text → k < length text
    → is_cut text k ≡ was_cut (is_cut text (k + 1)) (get_or text k 0)
cut_back text k whole lt =
    let r = reading text k whole in
    let s = reading text (k + 1) whole in
    let step : text_step r.at (get_or text k 0) ≡ Some s.at = sym (run_more text k r.at lt r.read) ∙ s.read in
    cut_is text k r.at (omega arith) r.read ∙ step_back r.at s.at (get_or text k 0) step
    ∙ ap (λ z. was_cut z (get_or text k 0)) (sym (cut_is text (k + 1) s.at (omega arith) s.read))

-- ---- the last cut before a place

pub last_cut : (text : List ℕ) (k : ℕ) → is_cut text k ≡ true → cut_before text (k + 1) ≡ k
last_cut text k e =
    subst (λ n. cut_before text n ≡ k) (sym (add-one k)) (ap (λ b. if b then k else cut_before text k) e)

pub no_cut : (text : List ℕ) (k : ℕ) → is_cut text k ≡ false → cut_before text (k + 1) ≡ cut_before text k
no_cut text k e =
    subst (λ n. cut_before text n ≡ cut_before text k) (sym (add-one k))
    (ap (λ b. if b then k else cut_before text k) e)

pub cut_at_zero : (text : List ℕ) → is_cut text 0 ≡ true
unfolding is_cut is_text
cut_at_zero text = and_from (leb 0 (length text)) true (le-leb 0 (length text) (omega arith)) refl

pub before_end : (text : List ℕ) (o : ℕ) → cut_before text o ≤ o
before_end text zero = omega arith
before_end text (suc o) =
    by_test (λ n. n ≤ suc o) (is_cut text o) o (cut_before text o) (λ _. omega arith)
    (λ _. omega (arith, before_end text o))

pub is_before : (text : List ℕ) (o : ℕ) → is_cut text (cut_before text o) ≡ true
is_before text zero = cut_at_zero text
is_before text (suc o) =
    by_test (λ n. is_cut text n ≡ true) (is_cut text o) o (cut_before text o) (λ e. e) (λ _. is_before text o)

-- ---- an item from its last byte back to its first

again : (n : ℕ) → 1 ≤ n → n - 1 + 1 ≡ n
again n h = omega arith

-- before a cut, the byte tells whether an item of one byte ends there
pub before_cut : (text : List ℕ) (end : ℕ) → IsText text → IsCut text end → 0 < end
    → is_cut text (end - 1) ≡ not (get_or text (end - 1) 0 == 62)
before_cut text end whole cut lt =
    let e : is_cut text (end - 1 + 1) ≡ true = ap (is_cut text) (again end lt) ∙ cut_tested text end cut in
    cut_back text (end - 1) whole (omega (arith, cut_within text end cut))
    ∙ ap (λ z. was_cut z (get_or text (end - 1) 0)) e

pub symbol_ends : (text : List ℕ) (end : ℕ) → IsText text → IsCut text end → 0 < end → get_or text (end - 1) 0 ≡ 62
    → is_cut text (end - 1) ≡ false
symbol_ends text end whole cut lt e = before_cut text end whole cut lt ∙ ap (λ b. not (b == 62)) e

pub end_again : (text : List ℕ) (end : ℕ) → IsCut text end → 0 < end → is_cut text (end - 1 + 1) ≡ true
end_again text end cut lt = ap (is_cut text) (again end lt) ∙ cut_tested text end cut

pub byte_ends : (text : List ℕ) (end : ℕ) → IsText text → IsCut text end → 0 < end → (get_or text (end - 1) 0 ≡ 62 → ⊥)
    → end - 1 ≡ cut_before text end
byte_ends text end whole cut lt ne =
    let test : not (get_or text (end - 1) 0 == 62) ≡ true = ap not (ne_eqb (get_or text (end - 1) 0) 62 ne) in
    sym (ap (cut_before text) (sym (again end lt)) ∙ last_cut text (end - 1) (before_cut text end whole cut lt ∙ test))

-- the last byte of a symbol, before which there is no cut
pub symbol_last : (text : List ℕ) (k : ℕ) → IsText text → k < length text → is_cut text k ≡ false
    → is_cut text (k + 1) ≡ true → is_cut text k ≡ (get_or text k 0 == 60)
symbol_last text k whole lt none cut =
    let e : false ≡ not (get_or text k 0 == 62) = sym none ∙ cut_back text k whole lt
    ∙ ap (λ z. was_cut z (get_or text k 0)) cut in
    none ∙ other (get_or text k 0) e
  where
    other : (b : ℕ) → false ≡ not (b == 62) → false ≡ (b == 60)
    other b e = grind arith

-- within a symbol: no cut, and not the start of the text
pub symbol_inside : (text : List ℕ) (k : ℕ) → is_cut text k ≡ (get_or text k 0 == 60) → (get_or text k 0 ≡ 60 → ⊥)
    → is_cut text k ≡ false
symbol_inside text k e ne = e ∙ ne_eqb (get_or text k 0) 60 ne

pub symbol_goes_on : (text : List ℕ) (k : ℕ) → is_cut text k ≡ (get_or text k 0 == 60) → (get_or text k 0 ≡ 60 → ⊥)
    → 1 ≤ k
symbol_goes_on text zero e ne = absurd (true≢false (sym (cut_at_zero text) ∙ symbol_inside text 0 e ne))
symbol_goes_on text (suc k) e ne = omega arith

-- a byte further to the front
pub further_front : (text : List ℕ) (last k : ℕ) → cut_before text (last + 1) ≡ cut_before text (k + 1)
    → is_cut text k ≡ false → 1 ≤ k → cut_before text (last + 1) ≡ cut_before text (k - 1 + 1)
further_front text last k h none le = h ∙ no_cut text k none ∙ ap (cut_before text) (sym (again k le))

pub further_begins : (text : List ℕ) (k : ℕ) → IsText text → k < length text → is_cut text k ≡ false → 1 ≤ k
    → is_cut text (k - 1) ≡ (get_or text (k - 1) 0 == 60)
further_begins text k whole lt none le =
    cut_back text (k - 1) whole (omega arith)
    ∙ ap (λ z. was_cut z (get_or text (k - 1) 0)) (ap (is_cut text) (again k le) ∙ none)
