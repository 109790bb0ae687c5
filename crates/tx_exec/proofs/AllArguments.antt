-- The parameter of an `xmacro`: its body, and all arguments.
use Rattle.std.proofs.Common.{◌≡◌, ℕ, zero, suc, ◌-◌, ◌<◌, List, [], ◌∷◌, length, get_or, ap, refl, sym, arith}
use Rattle.std.specs.Prelude.{ℤ, Option, Some, None, option_and_then, slice_get, codes}
use Rattle.std.specs.Option.{option_map}
use Rattle.tx_tree.specs.WideTree.{WideTree, leaf, node, text_of}
use Rattle.tx_origin.specs.Values.{WideValue}
use Rattle.tx_origin.specs.TaggedTrees.{TaggedTree, kids_at}
use Rattle.tx_exec_form.specs.Runs.{Before, State, Over}
use Rattle.tx_exec_form.specs.Frames.{Frame}
use Rattle.tx_exec_form.specs.Numbers.{integers_of, value_number}
use Rattle.tx_exec_form.specs.Rows.{Eval, EvalAll, wrong, itself, xmacro, xmacro_in, numbered, all_numbered, all_used}
use Rattle.tx_exec_form.specs.Rows.{tuple_run, ex, ex_all}
use Rattle.tx_exec_form.specs.declared.rows.Taking.{Taking}
use Rattle.tx_exec.specs.FrameView.{word_of, first_word}

-- ---- an `xmacro` itself

pub xmacro_two : (k : ℕ) (label : List ℕ) (t : TaggedTree) (ts : List TaggedTree) → length ts ≡ 2
    → xmacro k label t ts ≡ itself k t
xmacro_two k label t [] n = absurd (omega (arith, n))
xmacro_two k label t (x ∷ []) n = absurd (omega (arith, n))
xmacro_two k label t (x ∷ b ∷ []) n = refl
xmacro_two k label t (x ∷ b ∷ y ∷ ts) n = absurd (omega (arith, n))

pub xmacro_not : (k : ℕ) (label : List ℕ) (t : TaggedTree) (ts : List TaggedTree) → (length ts ≡ 2 → ⊥)
    → xmacro k label t ts ≡ wrong k (codes "bad") label
xmacro_not k label t [] n = refl
xmacro_not k label t (x ∷ []) n = refl
xmacro_not k label t (x ∷ b ∷ []) n = absurd (n refl)
xmacro_not k label t (x ∷ b ∷ y ∷ ts) n = refl

pub ruleset xmacro_rules = (xmacro_two, xmacro_not)

-- ---- its body

pub body_not : (kids : List WideTree) → (length kids ≡ 2 → ⊥) → xmacro_in kids ≡ None
body_not [] n = refl
body_not (leaf x ∷ []) n = refl
body_not (node l us ∷ []) n = refl
body_not (leaf x ∷ b ∷ []) n = absurd (n refl)
body_not (node l us ∷ b ∷ []) n = refl
body_not (leaf x ∷ b ∷ y ∷ ts) n = refl
body_not (node l us ∷ b ∷ y ∷ ts) n = refl

pub body_node : (kids : List WideTree) (t : WideTree) → t ≡ get_or kids 0 t → text_of t ≡ None → xmacro_in kids ≡ None
body_node [] t is n = refl
body_node (leaf x ∷ ts) t is n = absurd cc
body_node (node l us ∷ ts) t is n = refl

pub body_two : (kids : List WideTree) (t b : WideTree) → length kids ≡ 2 → t ≡ get_or kids 0 t → (text_of t ≡ None → ⊥)
    → b ≡ get_or kids 1 b → xmacro_in kids ≡ Some (first_word kids, b)
body_two [] t b e is n h = absurd (omega (arith, e))
body_two (u ∷ []) t b e is n h = absurd (omega (arith, e))
body_two (leaf x ∷ c ∷ []) t b e is n h = ap (λ d. Some (x, d)) (sym h)
body_two (node l us ∷ c ∷ []) t b e is n h = absurd (n (ap text_of is))
body_two (u ∷ c ∷ y ∷ ts) t b e is n h = absurd (omega (arith, e))

pub ruleset body_rules = (body_not, body_node, body_two)

pub first_none : (ts : List WideTree) → slice_get ts 0 ≡ None → first_word ts ≡ []
first_none [] e = refl
first_none (t ∷ ts) e = absurd cc

pub first_some : (ts : List WideTree) (t : WideTree) → slice_get ts 0 ≡ Some t → first_word ts ≡ word_of t
first_some [] t e = absurd cc
first_some (u ∷ ts) t e = let same : u ≡ t = cc in ap word_of same

pub ruleset first_rules = (first_none, first_some)

-- ---- the first number

module _ (taking : Taking) (k : ℕ) (below : Eval) (below_all : EvalAll) (f : Frame) (label x : List ℕ) where
  pub number_none : (ts : List TaggedTree) (vs : List WideValue) → length vs ≡ 0
      → all_numbered taking k below below_all f label x ts (integers_of vs) ≡ all_used taking k below_all f ts
  number_none ts [] e = refl
  number_none ts (v ∷ vs) e = absurd (omega (arith, e))

  module _ (at : Option (List ℕ)) (t : WideTree) where
    by_rest : (n : ℤ) (o : Option (List ℤ))
        → all_numbered taking k below below_all f label x (kids_at at t) (option_map (λ ns. n ∷ ns) o)
        ≡ numbered taking k below f label x (record { tree = t; at = at }) (option_map (λ ns. n ∷ ns) o)
    by_rest n None = refl
    by_rest n (Some ns) = refl

    by_first : (vs : List WideValue) (o : Option ℤ)
        → all_numbered taking k below below_all f label x (kids_at at t)
        (option_and_then (λ n. option_map (λ ns. n ∷ ns) (integers_of vs)) o)
        ≡ numbered taking k below f label x (record { tree = t; at = at })
        (option_and_then (λ n. option_map (λ ns. n ∷ ns) (integers_of vs)) o)
    by_first vs None = refl
    by_first vs (Some n) = by_rest n (integers_of vs)

    -- the part of the tag to which the numbers lead
    pub number_some : (vs : List WideValue) → 0 < length vs
        → all_numbered taking k below below_all f label x (kids_at at t) (integers_of vs)
        ≡ numbered taking k below f label x (record { tree = t; at = at }) (integers_of vs)
    number_some [] lt = absurd (omega (arith, lt))
    number_some (v ∷ vs) lt = by_first vs (value_number v)

pub ruleset first_number_rules = (number_none, number_some)

-- ---- levels

pub all_none : (k : ℕ) (ts : List TaggedTree) (f : Frame) (e : Before) (s : State) → k ≡ 0 → ex_all k ts f e s ≡ Over
unfolding ex_all
all_none zero ts f e s h = refl
all_none (suc k) ts f e s h = absurd (omega (arith, h))

pub all_some : (k : ℕ) (ts : List TaggedTree) (f : Frame) (e : Before) (s : State) → 0 < k
    → ex_all k ts f e s ≡ tuple_run k (ex (k - 1)) ts f e s
unfolding ex_all
all_some zero ts f e s lt = absurd (omega (arith, lt))
all_some (suc k) ts f e s lt =
    let same : suc k - 1 ≡ k = omega arith in
    ap (λ n. tuple_run (suc k) (ex n) ts f e s) (sym same)

pub ruleset ex_all_rules = (all_none, all_some)
