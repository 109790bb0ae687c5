-- An `associate` of two.
use Rattle.std.proofs.Common.{◌≡◌, ℕ, true, List, length, get_or, arith}
use Rattle.std.specs.Cmp.Lexicographic.{bytes_decides}
use Rattle.tx_doc.specs.Bodies.{is_labelled}
use Rattle.tx_tree.specs.WideTree.{WideTree, Forest, leaf, node, nil, cons, trees, children_of}

two : (label : List ℕ) (l : List ℕ) (f : Forest) (x v : WideTree) → l ≡ label → length (trees f) ≡ 2
    → x ≡ get_or (trees f) 0 x → v ≡ get_or (trees f) 1 v
    → node l f ≡ node label (cons x (cons v nil))
two label l nil x v e n p q = absurd (omega (arith, n))
two label l (cons a nil) x v e n p q = absurd (omega (arith, n))
two label l (cons a (cons b nil)) x v e n p q = cc
two label l (cons a (cons b (cons c f))) x v e n p q = absurd (omega (arith, n))

-- a node with this label and two children, by their list
pub node_of_two : (label : List ℕ) (t x v : WideTree) (ts : List WideTree) → is_labelled label t ≡ true
    → ts ≡ children_of t → length ts ≡ 2
    → x ≡ get_or ts 0 x → v ≡ get_or ts 1 v → t ≡ node label (cons x (cons v nil))
node_of_two label (leaf text) x v ts h same n p q = absurd cc
node_of_two label (node l f) x v ts h same n p q =
    two label l f x v ((bytes_decides l label).0 h) (rw same at n) (rw same at p) (rw same at q)
