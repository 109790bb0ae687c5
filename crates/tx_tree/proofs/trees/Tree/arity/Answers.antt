use Rattle.std.proofs.Common.{◌≡◌, length, arith, ap, sym, ◌∙◌}
use Rattle.tx_tree.specs.WideTree.{arity_of, node, forest, children_of}
use Rattle.tx_tree.specs.Trees.{wide_of}
use Rattle.tx_tree.proofs.Children.{arity_le, trees_forest}
use Rattle.tx_tree.proofs.trees.Tree.arity.Goals as goal

pub overflow_cast-result : goal.overflow_cast-result
overflow_cast-result c =
    let branch = c.deref.result.now in
    let same : arity_of (wide_of c.self.inside.content) ≡ arity_of (node branch.label (forest branch.children.items)) =
    ap (λ x. arity_of (wide_of x)) c.in-Node.is
    ∙ ap (λ b. arity_of (node b.label (forest b.children.items))) (sym c.deref.ensures) in
    let le = arity_le branch.label (forest branch.children.items) in
    let count : length (children_of (node branch.label (forest branch.children.items)))
    ≡ length branch.children.items = ap length (trees_forest branch.children.items) in
    omega (arith, c.self.invariant.within.arity)
