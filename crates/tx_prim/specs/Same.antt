-- A test of whether two trees are the same.
use Rattle.std.specs.Prelude.{Bool, true, false, ◌&&◌}
use Rattle.std.specs.Str.{bytes_eq}
use Rattle.tx_tree.specs.WideTree.{WideTree, Forest, leaf, node, nil, cons}

abbrev mutual
  pub is_same : WideTree → WideTree → Bool
  is_same (leaf a) (leaf b) = bytes_eq a b
  is_same (leaf a) (node m us) = false
  is_same (node l ts) (leaf b) = false
  is_same (node l ts) (node m us) = bytes_eq l m && are_same ts us

  pub are_same : Forest → Forest → Bool
  are_same nil nil = true
  are_same nil (cons u us) = false
  are_same (cons t ts) nil = false
  are_same (cons t ts) (cons u us) = is_same t u && are_same ts us
