use Rattle.std.proofs.Common.{◌≡◌, ◌<◌, ◌≤◌, length, rules, refl, sym, ap, ◌∙◌, arith}
use Rattle.tx_tree.specs.WideTree.{node, forest}
use Rattle.tx_tree.specs.Trees.{wide_of}
use Rattle.tx_tree.proofs.Children.{differ_at, same_at}
use Rattle.tx_tree.proofs.trees.Tree.+same.Goals as goal

pub returns-then-not-same : goal.returns-then-not-same
returns-then-not-same t c =
    let self_is : c.args.self.now ≡ node c.deref-one.result.now.label (forest c.deref-one.result.now.children.items) =
    sym c.self.view_is ∙ ap wide_of c.in-Node-Node.is-0
    ∙ ap (λ b. node b.label (forest b.children.items)) (sym c.deref-one.ensures) in
    let other_is :
    c.args.other.now ≡ node c.deref-two.result.now.label (forest c.deref-two.result.now.children.items) =
    sym c.other.view_is ∙ ap wide_of c.in-Node-Node.is-1
    ∙ ap (λ b. node b.label (forest b.children.items)) (sym c.deref-two.ensures) in
    let within : c.loop-i.i < length c.deref-one.result.now.children.items =
    omega (arith, c.len-i-end.ensures, c.loop-i-test.true) in
    let within' : c.loop-i.i < length c.deref-two.result.now.children.items =
    omega (
      arith,
      c.len-i-end.ensures,
      c.loop-i-test.true,
      c.if-len.false,
      c.len.ensures,
      c.len-in-Node-Node.ensures,
    ) in (
      λ h. absurd (cc),
      λ e. absurd
          (differ_at _ _ _ _ c.loop-i.i _ _ within within' c.index.ensures c.index-in-loop-i.ensures
          (λ h. let b = c.same.ensures.1 h in cc) (sym self_is ∙ e ∙ other_is)),
    )

pub returns-after-loop-i : goal.returns-after-loop-i
returns-after-loop-i t c =
    let self_is : c.args.self.now ≡ node c.deref-one.result.now.label (forest c.deref-one.result.now.children.items) =
    sym c.self.view_is ∙ ap wide_of c.in-Node-Node.is-0
    ∙ ap (λ b. node b.label (forest b.children.items)) (sym c.deref-one.ensures) in
    let other_is :
    c.args.other.now ≡ node c.deref-two.result.now.label (forest c.deref-two.result.now.children.items) =
    sym c.other.view_is ∙ ap wide_of c.in-Node-Node.is-1
    ∙ ap (λ b. node b.label (forest b.children.items)) (sym c.deref-two.ensures) in
    let all : length c.deref-one.result.now.children.items ≤ c.loop-i.i =
    omega (arith, c.len-i-end.ensures, c.loop-i-test.false) in
    let all' : length c.deref-two.result.now.children.items ≤ c.loop-i.i =
    omega (
      arith,
      c.len-i-end.ensures,
      c.loop-i-test.false,
      c.if-len.false,
      c.len.ensures,
      c.len-in-Node-Node.ensures,
    ) in
    let named : c.deref-one.result.now.label ≡ c.deref-two.result.now.label = search rules in (
      λ h. self_is
          ∙ same_at c.deref-one.result.now.label c.deref-two.result.now.label c.deref-one.result.now.children.items
          c.deref-two.result.now.children.items c.loop-i.i named all all' c.loop-i.invariant ∙ sym other_is,
      λ e. refl,
    )
