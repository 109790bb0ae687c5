-- The canonical text of a wide tree in the Scheme syntax: a space before each child, and no other white.
use Rattle.std.specs.Prelude.{ℕ, List, [], ◌∷◌, ◌++◌}
use Rattle.tx_tree.specs.WideTree.{WideTree, Forest, leaf, node, nil, cons}
use Rattle.tx_scm.specs.Spelling.{string_of}

abbrev mutual
  pub scheme_text : WideTree → List ℕ
  scheme_text (leaf text) = string_of text
  scheme_text (node label ts) = 40 ∷ (label ++ (scheme_texts ts ++ 41 ∷ []))

  -- the children, each after a space
  pub scheme_texts : Forest → List ℕ
  scheme_texts nil = []
  scheme_texts (cons t ts) = 32 ∷ (scheme_text t ++ scheme_texts ts)
