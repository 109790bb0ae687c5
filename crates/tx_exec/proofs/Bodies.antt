-- The body and the parameters of a macro, and its arguments.
use Rattle.std.proofs.Common.{◌≡◌, ℕ, zero, suc, ◌+◌, ◌-◌, ◌<◌, ◌≤◌, Bool, true, false, List, [], ◌∷◌, ◌++◌, length}
use Rattle.std.proofs.Common.{take, drop, get_or, ap, refl, sym, subst, ◌∙◌, arith, add-one}
use Rattle.std.specs.Prelude.{Option, Some, None, slice_get, if◌then◌else◌}
use Rattle.std.proofs.lemmas.List.{take_more}
use Rattle.std.proofs.lemmas.Grind.{common_steps}
use Rattle.std.specs.Str.{bytes_eq}
use Rattle.tx_tree.specs.WideTree.{WideTree, leaf, node, text_of}
use Rattle.tx_tree.proofs.Walks.{drop_item}
use Rattle.tx_origin.specs.TaggedTrees.{TaggedTree}
use Rattle.tx_exec_form.specs.Frames.{Found, Unbound, Missing, Here, first_argument, others_of, argument}
use Rattle.tx_exec.specs.FrameView.{word_of, params_of}
use Rattle.tx_exec_form.specs.Rows.{and_name, macro_in}
use Rattle.tx_origin.proofs.Kids.{kid_rules}

abbrev pub IsLeafy : List WideTree → Type 0
IsLeafy [] = Unit {0}
IsLeafy (leaf x ∷ ts) = IsLeafy ts
IsLeafy (node l us ∷ ts) = ⊥

leafy_push : (ts : List WideTree) (t : WideTree) → IsLeafy ts → (text_of t ≡ None → ⊥) → IsLeafy (ts ++ t ∷ [])
leafy_push [] (leaf x) h n = tt
leafy_push [] (node l us) h n = n refl
leafy_push (leaf y ∷ ts) t h n = leafy_push ts t h n
leafy_push (node l us ∷ ts) t h n = h

pub leafy_next : (kids : List WideTree) (i : ℕ) (t : WideTree) → i < length kids → t ≡ get_or kids i t
    → IsLeafy (take i kids) → (text_of t ≡ None → ⊥) → IsLeafy (take (i + 1) kids)
leafy_next kids i t lt is h n = rw (take_more kids i t lt, ← is) (leafy_push (take i kids) t h n)

named_none : (x : List ℕ) (r : Option (List (List ℕ) × WideTree)) → r ≡ None → and_name x r ≡ None
named_none x r h = ap (and_name x) h

-- a node before the last child
pub body_none : (kids : List WideTree) (i : ℕ) (t : WideTree) → i + 1 < length kids → t ≡ get_or kids i t
    → text_of t ≡ None → macro_in kids ≡ None
body_none [] i t lt is n = absurd (omega (arith, lt))
body_none (u ∷ []) i t lt is n = absurd (omega (arith, lt))
body_none (leaf x ∷ v ∷ ts) zero t lt is n = absurd cc
body_none (leaf x ∷ v ∷ ts) (suc i) t lt is n =
    named_none x (macro_in (v ∷ ts)) (body_none (v ∷ ts) i t (omega (arith, lt)) is n)
body_none (node l us ∷ v ∷ ts) i t lt is n = refl

pub body_some : (kids : List WideTree) (n : ℕ) (b : WideTree) → n + 1 ≡ length kids → IsLeafy (take n kids)
    → b ≡ get_or kids n b → macro_in kids ≡ Some (params_of kids, b)
body_some [] n b e h is = absurd (omega (arith, e))
body_some (u ∷ []) zero b e h is = ap (λ t. Some ([], t)) (sym is)
body_some (u ∷ []) (suc n) b e h is = absurd (omega (arith, e))
body_some (u ∷ v ∷ ts) zero b e h is = absurd (omega (arith, e))
body_some (leaf x ∷ v ∷ ts) (suc n) b e h is = ap (and_name x) (body_some (v ∷ ts) n b (omega (arith, e)) h is)
body_some (node l us ∷ v ∷ ts) (suc n) b e h is = absurd h

pub body_empty : (kids : List WideTree) → length kids ≡ 0 → macro_in kids ≡ None
body_empty [] e = refl
body_empty (t ∷ ts) e = absurd (omega (arith, e))

pub ruleset body_rules = (body_empty, body_none, body_some, leafy_next)

-- ---- arguments

rest_drop : (i : ℕ) (ts : List TaggedTree) → others_of (drop i ts) ≡ drop (suc i) ts
rest_drop zero [] = refl
rest_drop zero (t ∷ ts) = refl
rest_drop (suc i) [] = refl
rest_drop (suc i) (t ∷ ts) = rest_drop i ts

two_left : (kids : List WideTree) (i : ℕ) (t : WideTree) → i + 1 < length kids → slice_get kids i ≡ Some t
    → params_of (drop i kids) ≡ word_of t ∷ params_of (drop (suc i) kids)
two_left [] i t lt e = absurd (omega (arith, lt))
two_left (u ∷ []) i t lt e = absurd (omega (arith, lt))
two_left (u ∷ v ∷ ts) zero t lt e = let same : u ≡ t = cc in ap (λ w. word_of w ∷ params_of (v ∷ ts)) same
two_left (u ∷ v ∷ ts) (suc i) t lt e = two_left (v ∷ ts) i t (omega (arith, lt)) e

argument_test : (x p : List ℕ) (ps : List (List ℕ)) (ts : List TaggedTree) (b : Bool) → bytes_eq p x ≡ b
    → argument x (p ∷ ps) ts ≡ (if b then first_argument ts else argument x ps (others_of ts))
argument_test x p ps ts b e = ap (λ c. if c then first_argument ts else argument x ps (others_of ts)) e

pub argument_here : (x : List ℕ) (kids : List WideTree) (args : List TaggedTree) (i : ℕ) (t : WideTree) (r : Found)
    → i + 1 < length kids → slice_get kids i ≡ Some t → bytes_eq (word_of t) x ≡ true
    → argument x (params_of (drop i kids)) (drop i args) ≡ r → first_argument (drop i args) ≡ r
argument_here x kids args i t r lt e h run =
    sym (ap (λ ps. argument x ps (drop i args)) (two_left kids i t lt e)
    ∙ argument_test x (word_of t) _ (drop i args) true h) ∙ run

pub argument_next : (x : List ℕ) (kids : List WideTree) (args : List TaggedTree) (i : ℕ) (t : WideTree) (r : Found)
    → i + 1 < length kids → slice_get kids i ≡ Some t → bytes_eq (word_of t) x ≡ false
    → argument x (params_of (drop i kids)) (drop i args) ≡ r
    → argument x (params_of (drop (i + 1) kids)) (drop (i + 1) args) ≡ r
argument_next x kids args i t r lt e h run = rw add-one (
    ap (argument x (params_of (drop (suc i) kids))) (sym (rest_drop i args))
    ∙ sym (ap (λ ps. argument x ps (drop i args)) (two_left kids i t lt e)
    ∙ argument_test x (word_of t) _ (drop i args) false h) ∙ run)

no_params : (kids : List WideTree) (i : ℕ) → length kids ≤ i + 1 → params_of (drop i kids) ≡ []
no_params [] zero le = refl
no_params [] (suc i) le = refl
no_params (t ∷ []) zero le = refl
no_params (t ∷ u ∷ ts) zero le = absurd (omega (arith, le))
no_params (t ∷ ts) (suc i) le = no_params ts i (omega (arith, le))

pub argument_end : (x : List ℕ) (kids : List WideTree) (args : List TaggedTree) (i : ℕ) (r : Found)
    → length kids ≤ i + 1 → argument x (params_of (drop i kids)) (drop i args) ≡ r → Unbound ≡ r
argument_end x kids args i r le run = sym (ap (λ ps. argument x ps (drop i args)) (no_params kids i le)) ∙ run

pub argument_none : (x : List ℕ) (kids : List WideTree) (args : List TaggedTree) → length kids ≡ 0
    → argument x (params_of kids) args ≡ Unbound
argument_none x [] args e = refl
argument_none x (t ∷ ts) args e = absurd (omega (arith, e))

pub ruleset argument_rules = (argument_next, argument_none, kid_rules, common_steps)

pub first_some : (ts : List TaggedTree) (i : ℕ) (t : TaggedTree) → slice_get ts i ≡ Some t
    → first_argument (drop i ts) ≡ Here t
first_some ts i t e = ap first_argument (drop_item ts i t e)

pub first_none : (ts : List TaggedTree) (i : ℕ) → slice_get ts i ≡ None → first_argument (drop i ts) ≡ Missing
first_none [] zero e = refl
first_none [] (suc i) e = refl
first_none (t ∷ ts) zero e = absurd cc
first_none (t ∷ ts) (suc i) e = first_none ts i e

pub ruleset first_rules = (first_some, first_none)
