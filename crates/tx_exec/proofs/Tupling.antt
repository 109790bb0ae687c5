-- The tuple of all arguments.
use Rattle.std.proofs.Common.{◌≡◌, ℕ, ◌+◌, ◌<◌, ◌≤◌, List, [], ◌∷◌, ◌++◌, length, drop, append_assoc, ap, refl, sym}
use Rattle.std.proofs.Common.{◌∙◌, arith}
use Rattle.std.specs.Prelude.{map, Option, Some, None, slice_get, codes}
use Rattle.std.proofs.lemmas.Grind.{common_steps}
use Rattle.tx_tree.specs.WideTree.{WideTree, Forest, leaf, node, nil, cons, label_of, size_of, depth_of, total_size}
use Rattle.tx_tree.specs.WideTree.{deepest}
use Rattle.tx_tree.specs.Limits.{IsWithinLimits}
use Rattle.tx_tree.proofs.Walks.{drop_item}
use Rattle.tx_origin.specs.Values.{WideValue, made, vals, plain, plains, whole, child_at}
use Rattle.tx_origin.specs.TaggedTrees.{TaggedTree, kids_from, kids_at}
use Rattle.tx_origin.proofs.Wholes.{plain_whole}
use Rattle.tx_exec_form.specs.Rows.{tuple_of}
use Rattle.tx_exec.proofs.Kids.{few_kids}

-- the tree, unevaluated
abbrev pub stands : TaggedTree → WideValue
stands t = whole t.at t.tree

plains_kids : (at : Option (List ℕ)) (i : ℕ) (ts : Forest) → plains (vals (map stands (kids_from at i ts))) ≡ ts
plains_kids at i nil = refl
plains_kids at i (cons t ts) =
    let first = plain_whole (child_at at i) t in
    let others = plains_kids at (i + 1) ts in
    rw (first, others) refl

pub leaf_size : (at : Option (List ℕ)) (t : WideTree) → label_of t ≡ None
    → size_of (plain (tuple_of (kids_at at t))) ≡ 1
leaf_size at (leaf x) e = refl
leaf_size at (node l ts) e = absurd cc

pub node_size : (at : Option (List ℕ)) (t : WideTree) (l : List ℕ) → label_of t ≡ Some l
    → size_of (plain (tuple_of (kids_at at t))) ≡ size_of t
node_size at (leaf x) l e = absurd cc
node_size at (node m ts) l e = ap (λ us. 1 + total_size us) (plains_kids at 0 ts)

pub leaf_depth : (at : Option (List ℕ)) (t : WideTree) → label_of t ≡ None
    → depth_of (plain (tuple_of (kids_at at t))) ≡ 1
leaf_depth at (leaf x) e = refl
leaf_depth at (node l ts) e = absurd cc

pub node_depth : (at : Option (List ℕ)) (t : WideTree) (l : List ℕ) → label_of t ≡ Some l
    → depth_of (plain (tuple_of (kids_at at t))) ≡ depth_of t
node_depth at (leaf x) l e = absurd cc
node_depth at (node m ts) l e = ap (λ us. 1 + deepest us) (plains_kids at 0 ts)

pub ruleset measure_rules = (leaf_size, node_size, leaf_depth, node_depth)

-- ---- the loop

-- those so far and those of what is left are all
pub tuple_next : (kids : List TaggedTree) (i : ℕ) (t : TaggedTree) (vs us : List WideValue) (v : WideValue)
    (r : List WideValue) → slice_get kids i ≡ Some t → v ≡ whole t.at t.tree → us ≡ vs ++ v ∷ []
    → vs ++ map stands (drop i kids) ≡ r → us ++ map stands (drop (i + 1) kids) ≡ r
tuple_next kids i t vs us v r there is e run =
    let here = ap (λ ts. vs ++ map stands ts) (drop_item kids i t there) in
    ap (λ ws. ws ++ map stands (drop (i + 1) kids)) e ∙ append_assoc vs (v ∷ []) (map stands (drop (i + 1) kids))
    ∙ ap (λ w. vs ++ w ∷ map stands (drop (i + 1) kids)) is ∙ sym here ∙ run

no_more : (vs : List WideValue) → vs ++ [] ≡ vs
no_more [] = refl
no_more (v ∷ vs) = ap (λ us. v ∷ us) (no_more vs)

pub tuple_end : (kids : List TaggedTree) (i : ℕ) (vs r : List WideValue) → length kids ≤ i
    → vs ++ map stands (drop i kids) ≡ r → vs ≡ r
tuple_end kids i vs r le run =
    let end : drop i kids ≡ [] = grind (arith, common_steps, le) in
    sym (no_more vs) ∙ ap (λ ts. vs ++ map stands ts) (sym end) ∙ run

as_many : (ts : List TaggedTree) → length (map stands ts) ≡ length ts
as_many [] = refl
as_many (t ∷ ts) = omega (arith, as_many ts)

pub tuple_arity : (at : Option (List ℕ)) (t : WideTree) (vs : List WideValue) → vs ≡ map stands (kids_at at t)
    → IsWithinLimits t → length vs ≤ 65535
tuple_arity at t vs e w = rw e (omega (arith, as_many (kids_at at t), few_kids at t w))

pub tuple_size : (ts : List TaggedTree) (vs : List WideValue) (n : ℕ) → vs ≡ map stands ts
    → size_of (plain (tuple_of ts)) ≤ n → total_size (plains (vals vs)) ≤ n
tuple_size ts vs n e le = rw e (omega (arith, le))

kids_deep : (at : Option (List ℕ)) (t : WideTree) → IsWithinLimits t
    → deepest (plains (vals (map stands (kids_at at t)))) < 400
kids_deep at (leaf x) w = omega arith
kids_deep at (node l ts) w = rw (plains_kids at 0 ts) (omega (arith, w.depth))

pub tuple_depth : (at : Option (List ℕ)) (t : WideTree) (vs : List WideValue) → vs ≡ map stands (kids_at at t)
    → IsWithinLimits t → deepest (plains (vals vs)) < 400
tuple_depth at t vs e w = rw e (kids_deep at t w)

pub tuple_is : (ts : List TaggedTree) (vs : List WideValue) → vs ≡ map stands ts
    → made (codes "tuple") (vals vs) None ≡ tuple_of ts
tuple_is ts vs e = ap (λ us. made (codes "tuple") (vals us) None) e

pub ruleset tuple_rules = (tuple_is, tuple_end)
