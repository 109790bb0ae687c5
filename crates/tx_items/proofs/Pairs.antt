-- Pairs that set attributes, and give them back.
use Rattle.std.proofs.Common.{◌≡◌, ◌≢◌, ℕ, zero, suc, ◌+◌, ◌-◌, ◌%◌, ◌<◌, ◌≤◌, List, [], ◌∷◌, ◌++◌, length, drop}
use Rattle.std.proofs.Common.{get_or}
use Rattle.std.proofs.Common.{Option, Some, None, refl, sym, ap, ap₂, ◌∙◌, subst, arith}
use Rattle.tx_origin.specs.Values.{WideValue, vals, value_text}
use Rattle.tx_items.specs.declared.attributes.Attrs.{Attrs}
use Rattle.tx_items.specs.Attributes.{with_named, given_back, attribute_in}
use Rattle.tx_items.specs.Shows.{run_ended, beside, Form, inline, listed, Shown, with_shown, giving_back, show}
use Rattle.tx_items.specs.Shows.{show_with}
use Rattle.tx_items.specs.Running.{State, Adds, HasShown, HasAttrs, set_by_pairs, given_back_by_pairs}

-- ---- the loop that sets

pub pairs_more : (a : Attrs) (xs : List WideValue) (i : ℕ) (d e : WideValue) → i + 1 < length xs
    → set_by_pairs a (vals (drop i xs))
    ≡ set_by_pairs
    (with_named (attribute_in (value_text (get_or xs i d))) (value_text (get_or xs (i + 1) e)) a)
    (vals (drop (i + 2) xs))
pairs_more a [] i d e h = absurd (omega arith)
pairs_more a (x ∷ []) i d e h = absurd (omega arith)
pairs_more a (x ∷ (v ∷ xs)) zero d e h = refl
pairs_more a (x ∷ (v ∷ xs)) (suc i) d e h =
    let F : ℕ → ℕ → Attrs = λ n m.
    set_by_pairs
    (with_named (attribute_in (value_text (get_or (v ∷ xs) i d))) (value_text (get_or (x ∷ (v ∷ xs)) n e)) a)
    (vals (drop m (x ∷ (v ∷ xs)))) in
    let n : suc (i + 1) ≡ suc i + 1 = omega arith in
    let m : suc (i + 2) ≡ suc i + 2 = omega arith in
    pairs_more a (v ∷ xs) i d e (omega arith) ∙ ap₂ F n m

pub pairs_done : (a : Attrs) (xs : List WideValue) (i : ℕ) → length xs ≤ i + 1 → set_by_pairs a (vals (drop i xs)) ≡ a
pairs_done a [] zero h = refl
pairs_done a [] (suc i) h = refl
pairs_done a (x ∷ []) zero h = refl
pairs_done a (x ∷ []) (suc i) h = pairs_done a [] i (omega arith)
pairs_done a (x ∷ (v ∷ xs)) zero h = absurd (omega arith)
pairs_done a (x ∷ (v ∷ xs)) (suc i) h = pairs_done a (v ∷ xs) i (omega arith)

pub pairs_next : (a b whole : Attrs) (xs : List WideValue) (i : ℕ) (x v : WideValue) → i + 1 < length xs
    → x ≡ get_or xs i x → v ≡ get_or xs (i + 1) v → b ≡ with_named (attribute_in (value_text x)) (value_text v) a
    → set_by_pairs a (vals (drop i xs)) ≡ whole → set_by_pairs b (vals (drop (i + 2) xs)) ≡ whole
pairs_next a b whole xs i x v there isx isv set so_far =
    ap (λ z. set_by_pairs z (vals (drop (i + 2) xs)))
    (set ∙ ap₂ (λ p q. with_named (attribute_in (value_text p)) (value_text q) a) isx isv)
    ∙ sym (pairs_more a xs i x v there) ∙ so_far

-- ---- the loop that gives back, from the end

pub back_more : (before a : Attrs) (xs : List WideValue) (i : ℕ) (d : WideValue) → i + 2 < length xs
    → given_back_by_pairs (vals (drop i xs)) before a
    ≡ given_back (attribute_in (value_text (get_or xs i d))) before
    (given_back_by_pairs (vals (drop (i + 2) xs)) before a)
back_more before a [] i d h = absurd (omega arith)
back_more before a (x ∷ []) i d h = absurd (omega arith)
back_more before a (x ∷ (v ∷ xs)) zero d h = refl
back_more before a (x ∷ (v ∷ xs)) (suc i) d h =
    let m : suc (i + 2) ≡ suc i + 2 = omega arith in
    back_more before a (v ∷ xs) i d (omega arith)
    ∙ ap (λ n. given_back (attribute_in (value_text (get_or (v ∷ xs) i d))) before
    (given_back_by_pairs (vals (drop n (x ∷ (v ∷ xs)))) before a)) m

pub back_none : (before a : Attrs) (xs : List WideValue) (i : ℕ) → length xs ≤ i + 1
    → given_back_by_pairs (vals (drop i xs)) before a ≡ a
back_none before a [] zero h = refl
back_none before a [] (suc i) h = refl
back_none before a (x ∷ []) zero h = refl
back_none before a (x ∷ []) (suc i) h = back_none before a [] i (omega arith)
back_none before a (x ∷ (v ∷ xs)) zero h = absurd (omega arith)
back_none before a (x ∷ (v ∷ xs)) (suc i) h = back_none before a (v ∷ xs) i (omega arith)

pub back_next : (before start a b : Attrs) (xs : List WideValue) (i : ℕ) (x : WideValue) → 2 ≤ i → i < length xs
    → x ≡ get_or xs (i - 2) x → b ≡ given_back (attribute_in (value_text x)) before a
    → a ≡ given_back_by_pairs (vals (drop i xs)) before start
    → b ≡ given_back_by_pairs (vals (drop (i - 2) xs)) before start
back_next before start a b xs i x two there isx back so_far =
    let same : i ≡ i - 2 + 2 = omega arith in
    back ∙ ap₂ (λ p q. given_back (attribute_in (value_text p)) before q) isx so_far
    ∙ ap (λ n. given_back (attribute_in (value_text (get_or xs (i - 2) x))) before
    (given_back_by_pairs (vals (drop n xs)) before start)) same
    ∙ sym (back_more before start xs (i - 2) x (omega arith))

-- ---- `with`

-- an even number of parts has no last one after pairs
pub with_even : (before a : Attrs) (xs : List WideValue) → length xs % 2 ≡ 0 → show_with before a (vals xs) ≡ None
unfolding show_with
with_even before a [] h = refl
with_even before a (x ∷ []) h = absurd (omega arith)
with_even before a (x ∷ (v ∷ xs)) h =
    ap (giving_back (value_text x) before)
    (with_even before (with_named (attribute_in (value_text x)) (value_text v) a) xs (omega arith))

-- the last part, with the attributes that the pairs set, which are then given back
last_shown : Attrs → Attrs → List WideValue → WideValue → Shown
unfolding show
last_shown before a xs last = record (show (set_by_pairs a (vals xs)) last) {
  after = given_back_by_pairs (vals xs) before (show (set_by_pairs a (vals xs)) last).after;
}

with_odd : (before a : Attrs) (xs : List WideValue) (d : WideValue) → length xs % 2 ≢ 0
    → show_with before a (vals xs) ≡ Some (last_shown before a xs (get_or xs (length xs - 1) d))
unfolding show_with last_shown
with_odd before a [] d h = absurd (h refl)
with_odd before a (x ∷ []) d h = refl
with_odd before a (x ∷ (v ∷ xs)) d h =
    let a' : Attrs = with_named (attribute_in (value_text x)) (value_text v) a in
    let odd : length xs % 2 ≢ 0 = λ e. h (omega arith) in
    let place : suc (suc (length xs - 1)) ≡ length (x ∷ (v ∷ xs)) - 1 = two_more (length xs) odd in
    ap (giving_back (value_text x) before) (with_odd before a' xs d odd)
    ∙ ap (λ n. Some (last_shown before a (x ∷ (v ∷ xs)) (get_or (x ∷ (v ∷ xs)) n d))) place
  where
    two_more : (n : ℕ) → n % 2 ≢ 0 → suc (suc (n - 1)) ≡ suc (suc n) - 1
    two_more zero h = absurd (h refl)
    two_more (suc n) h = omega arith

adds_same : (x : Form) (s m u w : State) → m.run ≡ s.run → m.paragraphs ≡ s.paragraphs → w.run ≡ u.run
    → w.paragraphs ≡ u.paragraphs → Adds x m u → Adds x s w
adds_same (inline r) s m u w a b c d h = (c ∙ h.0 ∙ ap (λ q. beside q r) a, d ∙ h.1 ∙ b)
adds_same (listed ps) s m u w a b c d h = λ clean. ap₂ (λ qs q. qs ++ run_ended q) d c ∙ h (a ∙ clean)
    ∙ ap (λ qs. qs ++ ps) b

pub with_whole : (xs : List WideValue) (last : WideValue) (label : List ℕ) (s m u w : State) (before : Attrs)
    → before ≡ s.attrs → length xs % 2 ≢ 0 → last ≡ get_or xs (length xs - 1) last
    → HasAttrs (set_by_pairs s.attrs (vals xs)) s m → HasShown (show m.attrs last) m u
    → HasAttrs (given_back_by_pairs (vals xs) before u.attrs) u w
    → HasShown (with_shown s.attrs label (show_with s.attrs s.attrs (vals xs))) s w
unfolding last_shown
with_whole xs last label s m u w before same odd is set h back =
    let P : Option Shown → Type 0 = λ o. HasShown (with_shown s.attrs label o) s w in
    let Q : Attrs → Type 0 = λ a. HasShown (show a last) m u in
    let k : HasShown (show (set_by_pairs s.attrs (vals xs)) last) m u = subst Q set.attrs_are h in
    let told : show_with s.attrs s.attrs (vals xs) ≡ Some (last_shown s.attrs s.attrs xs last) =
    with_odd s.attrs s.attrs xs last odd ∙ ap (λ v. Some (last_shown s.attrs s.attrs xs v)) (sym is) in
    subst P (sym told)
    (record {
      after = back.attrs_are ∙ ap₂ (λ b a. given_back_by_pairs (vals xs) b a) same k.after;
      errors = back.errors ∙ k.errors ∙ ap (λ es. es ++ (show (set_by_pairs s.attrs (vals xs)) last).errors) set.errors;
      adds = adds_same (show (set_by_pairs s.attrs (vals xs)) last).form s m u w set.run set.paragraphs back.run
          back.paragraphs k.adds;
    })

pub ruleset setting = (pairs_more, pairs_done)

pub ruleset giving = (back_more, back_none)
