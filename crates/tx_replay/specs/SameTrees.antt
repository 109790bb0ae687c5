-- Whether trees are equal, as a test.
use Rattle.std.specs.Prelude.{Bool, true, false, ◌&&◌, Option, Some, None}
use Rattle.std.specs.Str.{bytes_eq}
use Rattle.tx_tree.specs.WideTree.{WideTree, Forest, leaf, node, nil, cons}

abbrev mutual
  pub is_same : WideTree → WideTree → Bool
  is_same (leaf a) (leaf b) = bytes_eq a b
  is_same (leaf a) (node m us) = false
  is_same (node l ts) (leaf b) = false
  is_same (node l ts) (node m us) = bytes_eq l m && are_same ts us

  pub are_same : Forest → Forest → Bool
  are_same nil nil = true
  are_same nil (cons u us) = false
  are_same (cons t ts) nil = false
  are_same (cons t ts) (cons u us) = is_same t u && are_same ts us

-- whether two names have the same: a tree, or nothing
abbrev pub same : Option WideTree → Option WideTree → Bool
same None None = true
same None (Some u) = false
same (Some t) None = false
same (Some t) (Some u) = is_same t u
