-- Trees without limits: what contracts see in place of a tree of the program.
use base.Stored.{Gv, gnil, gnum, gcons}
use Rattle.std.specs.Prelude.{◌≡◌, ℕ, ◌+◌, max, List, [], ◌∷◌, length, Option, Some, None, Bool, true, false}
use Rattle.std.specs.Coded.{Coded, coded_ℕ, coded_list}
use Rattle.std.proofs.Common.{ap, refl}

-- a text, or a label with a list of trees
mutual
  pub data WideTree : Type 0 where
    leaf : (text : List ℕ) → WideTree
    node : (label : List ℕ) → (children : Forest) → WideTree

  pub data Forest : Type 0 where
    nil : Forest
    cons : (first : WideTree) → (others : Forest) → Forest

-- a forest is a list of trees
abbrev pub forest : List WideTree → Forest
forest [] = nil
forest (t ∷ ts) = cons t (forest ts)

abbrev pub trees : Forest → List WideTree
trees nil = []
trees (cons t ts) = t ∷ trees ts

-- a leaf has no children
abbrev pub children_of : WideTree → List WideTree
children_of (leaf text) = []
children_of (node label ts) = trees ts

abbrev pub is_leaf : WideTree → Bool
is_leaf (leaf text) = true
is_leaf (node label ts) = false

abbrev pub text_of : WideTree → Option (List ℕ)
text_of (leaf text) = Some text
text_of (node label ts) = None

abbrev pub label_of : WideTree → Option (List ℕ)
label_of (leaf text) = None
label_of (node label ts) = Some label

-- the size: 1 for each node, and for each leaf 1 and the bytes of its text
abbrev mutual
  pub size_of : WideTree → ℕ
  size_of (leaf text) = 1 + length text
  size_of (node label ts) = 1 + total_size ts

  pub total_size : Forest → ℕ
  total_size nil = 0
  total_size (cons t ts) = size_of t + total_size ts

-- the most nodes on a way down, leaves counted
abbrev mutual
  pub depth_of : WideTree → ℕ
  depth_of (leaf text) = 1
  depth_of (node label ts) = 1 + deepest ts

  pub deepest : Forest → ℕ
  deepest nil = 0
  deepest (cons t ts) = max (depth_of t) (deepest ts)

-- the most children of a node
abbrev mutual
  pub arity_of : WideTree → ℕ
  arity_of (leaf text) = 0
  arity_of (node label ts) = max (count ts) (widest ts)

  pub widest : Forest → ℕ
  widest nil = 0
  widest (cons t ts) = max (arity_of t) (widest ts)

  pub count : Forest → ℕ
  count nil = 0
  count (cons t ts) = 1 + count ts

-- the bytes of the longest text
abbrev mutual
  pub text_length_of : WideTree → ℕ
  text_length_of (leaf text) = length text
  text_length_of (node label ts) = longest_text ts

  pub longest_text : Forest → ℕ
  longest_text nil = 0
  longest_text (cons t ts) = max (text_length_of t) (longest_text ts)

-- the nodes that aren't leaves
abbrev mutual
  pub nodes_of : WideTree → ℕ
  nodes_of (leaf text) = 0
  nodes_of (node label ts) = 1 + total_nodes ts

  pub total_nodes : Forest → ℕ
  total_nodes nil = 0
  total_nodes (cons t ts) = nodes_of t + total_nodes ts

-- ---- the code by which proofs tell wide trees apart

abbrev bytes_code : Coded (List ℕ)
bytes_code = coded_list coded_ℕ

abbrev mutual
  code_of : WideTree → Gv
  code_of (leaf text) = gcons (gnum 0) (bytes_code.code text)
  code_of (node label ts) = gcons (gnum 1) (gcons (bytes_code.code label) (code_of_all ts))

  code_of_all : Forest → Gv
  code_of_all nil = gnil
  code_of_all (cons t ts) = gcons (code_of t) (code_of_all ts)

abbrev left_part : Gv → Gv
left_part gnil = gnil
left_part (gnum n) = gnil
left_part (gcons a b) = a

abbrev right_part : Gv → Gv
right_part gnil = gnil
right_part (gnum n) = gnil
right_part (gcons a b) = b

mutual
  pub code_once : (s t : WideTree) → code_of s ≡ code_of t → s ≡ t
  code_once (leaf a) (leaf b) e = ap leaf (bytes_code.inj a b (ap right_part e))
  code_once (leaf a) (node m ks) e = cc
  code_once (node l js) (leaf b) e = cc
  code_once (node l js) (node m ks) e =
      let labels : l ≡ m = bytes_code.inj l m (ap (λ g. left_part (right_part g)) e) in
      let children : js ≡ ks = code_once_all js ks (ap (λ g. right_part (right_part g)) e) in
      cc

  code_once_all : (ss ts : Forest) → code_of_all ss ≡ code_of_all ts → ss ≡ ts
  code_once_all nil nil e = refl
  code_once_all nil (cons t ts) e = cc
  code_once_all (cons s ss) nil e = cc
  code_once_all (cons s ss) (cons t ts) e =
      let first : s ≡ t = code_once s t (ap left_part e) in
      let others : ss ≡ ts = code_once_all ss ts (ap right_part e) in
      cc

abbrev pub coded_WideTree : Coded WideTree
coded_WideTree = record { code = code_of; inj = code_once }
