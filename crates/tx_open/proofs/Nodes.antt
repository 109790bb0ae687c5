-- The modern form of a tree has as many nodes as the tree, leaves left out.
use Rattle.std.proofs.Common.{◌≡◌, ℕ, ◌+◌, Bool, true, false, List, refl, ap, ◌∙◌, arith}
use Rattle.std.specs.Prelude.{◌&&◌, if◌then◌else◌}
use Rattle.tx_tree.specs.WideTree.{WideTree, Forest, leaf, node, nil, cons, nodes_of, total_nodes}
use Rattle.tx_doc.specs.Modern.{is_call, is_label, called, without_calls, all_without_calls, is_old, modern}

by_test : (b : Bool) (u : WideTree) (l text : List ℕ) (ts : Forest) → nodes_of u ≡ 1 + total_nodes ts
    → nodes_of (if b then u else node l (cons (leaf text) ts)) ≡ 1 + total_nodes (cons (leaf text) ts)
by_test true u l text ts e = omega (arith, e)
by_test false u l text ts e = refl

called_nodes : (l : List ℕ) (ts : Forest) → nodes_of (called l ts) ≡ 1 + total_nodes ts
called_nodes l nil = refl
called_nodes l (cons (node m us) ts) = refl
called_nodes l (cons (leaf text) ts) =
    by_test (is_call l && is_label text) (called text ts) l text ts (called_nodes text ts)

mutual
  nodes_left : (t : WideTree) → nodes_of (without_calls t) ≡ nodes_of t
  nodes_left (leaf text) = refl
  nodes_left (node l ts) = called_nodes l (all_without_calls ts) ∙ ap (λ n. 1 + n) (all_nodes_left ts)

  all_nodes_left : (ts : Forest) → total_nodes (all_without_calls ts) ≡ total_nodes ts
  all_nodes_left nil = refl
  all_nodes_left (cons t ts) = let one = nodes_left t in let more = all_nodes_left ts in cc

pub modern_nodes : (t : WideTree) → nodes_of (modern t) ≡ nodes_of t
modern_nodes t = by (is_old t)
  where
    by : (b : Bool) → nodes_of (if b then without_calls t else t) ≡ nodes_of t
    by true = nodes_left t
    by false = refl
