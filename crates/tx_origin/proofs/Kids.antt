-- The children of a tree with their origins.
use Rattle.std.proofs.Common.{◌≡◌, ℕ, zero, suc, ◌+◌, ◌∙◌, List, length, ap, refl, arith}
use Rattle.std.specs.Prelude.{Option, Some, None, slice_get}
use Rattle.tx_tree.specs.WideTree.{WideTree, Forest, leaf, node, nil, cons, trees, children_of}
use Rattle.tx_origin.specs.Values.{child_at}
use Rattle.tx_origin.specs.TaggedTrees.{kids_from, kids_at}

from_some : (at : Option (List ℕ)) (n i : ℕ) (ts : Forest) (t : WideTree) → slice_get (trees ts) i ≡ Some t
    → slice_get (kids_from at n ts) i ≡ Some (record { tree = t; at = child_at at (n + i) })
from_some at n i nil t e = absurd cc
from_some at n zero (cons u ts) t e = let same : u ≡ t = cc in let here : n + 0 ≡ n = omega arith in rw here cc
from_some at n (suc i) (cons u ts) t e = let on : n + 1 + i ≡ n + suc i = omega arith in
    from_some at (n + 1) i ts t e ∙ ap (λ m. Some (record { tree = t; at = child_at at m })) on

from_none : (at : Option (List ℕ)) (n i : ℕ) (ts : Forest) → slice_get (trees ts) i ≡ None
    → slice_get (kids_from at n ts) i ≡ None
from_none at n i nil e = refl
from_none at n zero (cons u ts) e = absurd cc
from_none at n (suc i) (cons u ts) e = from_none at (n + 1) i ts e

pub kid_some : (at : Option (List ℕ)) (i : ℕ) (u t : WideTree) → slice_get (children_of u) i ≡ Some t
    → slice_get (kids_at at u) i ≡ Some (record { tree = t; at = child_at at i })
kid_some at i (leaf words) t e = absurd cc
kid_some at i (node label ts) t e = let same : 0 + i ≡ i = omega arith in
    from_some at 0 i ts t e ∙ ap (λ m. Some (record { tree = t; at = child_at at m })) same

pub kid_none : (at : Option (List ℕ)) (i : ℕ) (u : WideTree) → slice_get (children_of u) i ≡ None
    → slice_get (kids_at at u) i ≡ None
kid_none at i (leaf words) e = refl
kid_none at i (node label ts) e = from_none at 0 i ts e

from_length : (at : Option (List ℕ)) (n : ℕ) (ts : Forest) → length (kids_from at n ts) ≡ length (trees ts)
from_length at n nil = refl
from_length at n (cons t ts) = omega (arith, from_length at (n + 1) ts)

pub kid_count : (at : Option (List ℕ)) (u : WideTree) → length (kids_at at u) ≡ length (children_of u)
kid_count at (leaf words) = refl
kid_count at (node label ts) = from_length at 0 ts

pub ruleset kid_rules = (kid_some, kid_none, kid_count)
