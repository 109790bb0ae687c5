-- Trees of which each node has a label, and parts of them.
use Rattle.std.proofs.Common.{ℕ, zero, suc, Bool, true, false, cond, List, [], ◌∷◌, ◌++◌, Option, Some, None, take}
use Rattle.std.proofs.Common.{drop}
use Rattle.std.specs.Prelude.{slice_get, option_and_then}
use Rattle.std.specs.List.{AllByRecursion, find}
use Rattle.tx_tree.specs.WideTree.{WideTree, Forest, leaf, node, nil, cons, forest, trees, children_of}
use Rattle.tx_tree.specs.Paths.{subtree}
use Rattle.tx_view_form.proofs.Labelled.{IsLabelled, AreLabelled}

abbrev pub AllLabelled : List WideTree → Type 0
AllLabelled = AllByRecursion IsLabelled

abbrev pub IfLabelled : Option WideTree → Type 0
IfLabelled None = Unit {0}
IfLabelled (Some t) = IsLabelled t

pub forest_labelled : (ts : List WideTree) → AllLabelled ts → AreLabelled (forest ts)
forest_labelled [] h = tt
forest_labelled (t ∷ ts) h = (h.0, forest_labelled ts h.1)

pub trees_labelled : (ts : Forest) → AreLabelled ts → AllLabelled (trees ts)
trees_labelled nil h = tt
trees_labelled (cons t ts) h = (h.0, trees_labelled ts h.1)

pub children_labelled : (t : WideTree) → IsLabelled t → AllLabelled (children_of t)
children_labelled (leaf words) h = tt
children_labelled (node label ts) h = trees_labelled ts h.1

pub get_labelled : (ts : List WideTree) (i : ℕ) → AllLabelled ts → IfLabelled (slice_get ts i)
get_labelled [] i h = tt
get_labelled (t ∷ ts) zero h = h.0
get_labelled (t ∷ ts) (suc i) h = get_labelled ts i h.1

pub found_labelled : (p : WideTree → Bool) (ts : List WideTree) → AllLabelled ts → IfLabelled (find p ts)
found_labelled p [] h = tt
found_labelled p (t ∷ ts) h = by (p t) (found_labelled p ts h.1)
  where
    by : (b : Bool) → IfLabelled (find p ts) → IfLabelled (cond b (Some t) (find p ts))
    by true k = h.0
    by false k = k

pub both_labelled : (ss ts : List WideTree) → AllLabelled ss → AllLabelled ts → AllLabelled (ss ++ ts)
both_labelled [] ts h k = k
both_labelled (s ∷ ss) ts h k = (h.0, both_labelled ss ts h.1 k)

pub front_labelled : (n : ℕ) (ts : List WideTree) → AllLabelled ts → AllLabelled (take n ts)
front_labelled zero ts h = tt
front_labelled (suc n) [] h = tt
front_labelled (suc n) (t ∷ ts) h = (h.0, front_labelled n ts h.1)

pub rest_labelled : (n : ℕ) (ts : List WideTree) → AllLabelled ts → AllLabelled (drop n ts)
rest_labelled zero ts h = h
rest_labelled (suc n) [] h = tt
rest_labelled (suc n) (t ∷ ts) h = rest_labelled n ts h.1

-- what is done with a labelled tree gives one, if there is one
pub then_labelled : (f : WideTree → Option WideTree) (o : Option WideTree) → IfLabelled o
    → ((t : WideTree) → IsLabelled t → IfLabelled (f t)) → IfLabelled (option_and_then f o)
then_labelled f None h k = tt
then_labelled f (Some t) h k = k t h

pub subtree_labelled : (t : WideTree) (path : List ℕ) → IsLabelled t → IfLabelled (subtree t path)
subtree_labelled t [] h = h
subtree_labelled t (i ∷ path) h =
    then_labelled (λ u. subtree u path) (slice_get (children_of t) i)
    (get_labelled (children_of t) i (children_labelled t h)) (λ u k. subtree_labelled u path k)
