-- A tree at an origin.
use Rattle.std.proofs.Common.{◌≡◌, ℕ, ◌+◌, ◌≤◌, List, [], ◌∷◌, ◌++◌, length, drop, ap, refl, sym, ◌∙◌, subst, arith}
use Rattle.std.specs.Prelude.{slice_get, Option, Some}
use Rattle.std.proofs.lemmas.Grind.{common_steps}
use Rattle.tx_tree.specs.WideTree.{WideTree, Forest, leaf, node, nil, cons, forest, children_of, text_of, label_of}
use Rattle.tx_tree.specs.Limits.{IsWithinLimits}
use Rattle.tx_tree.proofs.Walks.{drop_item, node_is, leaf_is, leaf_or_node, child_shallower}
use Rattle.tx_origin.specs.Values.{WideValue, text, made, vals, each_of, plain, plains, child_at, whole, wholes}
use Rattle.tx_origin.proofs.Parts.{vals_each}

mutual
  pub plain_whole : (at : Option (List ℕ)) (t : WideTree) → plain (whole at t) ≡ t
  plain_whole at (leaf words) = refl
  plain_whole at (node label ts) = ap (λ us. node label us) (plain_wholes at 0 ts)

  pub plain_wholes : (at : Option (List ℕ)) (i : ℕ) (ts : Forest) → plains (wholes at i ts) ≡ ts
  plain_wholes at i nil = refl
  plain_wholes at i (cons t ts) = let first = plain_whole (child_at at i) t in
      let others = plain_wholes at (i + 1) ts in rw (first, others) refl

-- the parts from number i on
abbrev pub from : Option (List ℕ) → ℕ → List WideTree → List WideValue
from at i ts = each_of (wholes at i (forest (drop i ts)))

pub whole_leaf : (at : Option (List ℕ)) (t : WideTree) (words : List ℕ) → text_of t ≡ Some words
    → whole at t ≡ text words at
whole_leaf at t words e = ap (whole at) (leaf_is t words e)

pub whole_next : (at : Option (List ℕ)) (i : ℕ) (ts : List WideTree) (t : WideTree) (vs us : List WideValue)
    (v : WideValue) → slice_get ts i ≡ Some t → vs ++ from at i ts ≡ from at 0 ts → us ≡ vs ++ v ∷ []
    → v ≡ whole (child_at at i) t → us ++ from at (i + 1) ts ≡ from at 0 ts
whole_next at i ts t vs us v e h p q =
    let here : from at i ts ≡ whole (child_at at i) t ∷ from at (i + 1) ts =
    ap (λ ys. each_of (wholes at i (forest ys))) (drop_item ts i t e) in
    let all : vs ++ whole (child_at at i) t ∷ from at (i + 1) ts ≡ from at 0 ts = ap (λ ys. vs ++ ys) (sym here) ∙ h in
    rw (p, q) (pushed vs (whole (child_at at i) t) (from at (i + 1) ts) ∙ all)
  where
    pushed : (xs : List WideValue) (x : WideValue) (ys : List WideValue) → (xs ++ x ∷ []) ++ ys ≡ xs ++ x ∷ ys
    pushed [] x ys = refl
    pushed (z ∷ xs) x ys = ap (λ zs. z ∷ zs) (pushed xs x ys)

all_parts : (at : Option (List ℕ)) (i : ℕ) (ts : List WideTree) (vs : List WideValue) → length ts ≤ i
    → vs ++ from at i ts ≡ from at 0 ts → vals vs ≡ wholes at 0 (forest ts)
all_parts at i ts vs le h =
    let end : drop i ts ≡ [] = grind (arith, common_steps, le) in
    let whole_list : vs ≡ from at 0 ts = sym (ends vs) ∙ ap (λ ys. vs ++ each_of (wholes at i (forest ys))) (sym end)
    ∙ h in
    ap vals whole_list ∙ vals_each (wholes at 0 (forest ts))
  where
    ends : (xs : List WideValue) → xs ++ [] ≡ xs
    ends [] = refl
    ends (x ∷ xs) = ap (λ zs. x ∷ zs) (ends xs)

pub whole_made : (at : Option (List ℕ)) (t : WideTree) (label : List ℕ) (i : ℕ) (vs : List WideValue)
    → label_of t ≡ Some label → length (children_of t) ≤ i
    → vs ++ from at i (children_of t) ≡ from at 0 (children_of t) → made label (vals vs) at ≡ whole at t
whole_made at t label i vs e le h =
    ap (λ ps. made label ps at) (all_parts at i (children_of t) vs le h) ∙ sym (ap (whole at) (node_is t label e))

-- the tree is the node with these parts without their origins
pub whole_from : (at : Option (List ℕ)) (t : WideTree) (label : List ℕ) (vs : List WideValue)
    → made label (vals vs) at ≡ whole at t → t ≡ node label (plains (vals vs))
whole_from at t label vs e = sym (ap plain e ∙ plain_whole at t)

pub whole_within : (at : Option (List ℕ)) (t : WideTree) (label : List ℕ) (vs : List WideValue)
    → made label (vals vs) at ≡ whole at t → IsWithinLimits t → IsWithinLimits (node label (plains (vals vs)))
whole_within at t label vs e w = subst IsWithinLimits (whole_from at t label vs e) w

pub plain_is : (at : Option (List ℕ)) (t : WideTree) (v : WideValue) → v ≡ whole at t → plain v ≡ t
plain_is at t v e = ap plain e ∙ plain_whole at t

pub ruleset whole_rules = (whole_leaf, whole_next, whole_made, plain_is, leaf_or_node, child_shallower)
