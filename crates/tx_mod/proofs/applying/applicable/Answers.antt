use Rattle.std.proofs.Common.{◌≡◌, ◌+◌, ◌-◌, Some, subst, arith}
use Rattle.tx_tree.specs.Paths.{subtree}
use Rattle.tx_tree.specs.WideTree.{WideTree, depth_of}
use Rattle.tx_mod.specs.Mods.{path_of, replaced}
use Rattle.tx_mod.proofs.Replacing.{size_of_subtree}
use Rattle.tx_mod.proofs.Whole.{too_long, too_wide, too_deep, too_big, all_within}
use Rattle.tx_mod.proofs.applying.applicable.Goals as goal

pub returns-then-made-clause-refused : goal.returns-then-made-clause-refused
returns-then-made-clause-refused c =
    let found : subtree c.args.t.now (path_of c.args.m.now) ≡ Some c.in_ok-s.s.now =
    subst (λ q. subtree c.args.t.now q ≡ Some c.in_ok-s.s.now) c.path-path.ensures c.in_ok-s.ensures in
    too_long c.args.m.now c.args.t.now c.in_ok-s.s.now c.in_ok-made.made found c.in_ok-made.ensures.measured
    c.size-whole.ensures.within c.if-made.true

pub returns-then-made-2-clause-refused : goal.returns-then-made-2-clause-refused
returns-then-made-2-clause-refused c =
    let found : subtree c.args.t.now (path_of c.args.m.now) ≡ Some c.in_ok-s.s.now =
    subst (λ q. subtree c.args.t.now q ≡ Some c.in_ok-s.s.now) c.path-path.ensures c.in_ok-s.ensures in
    too_wide c.args.m.now c.args.t.now c.in_ok-s.s.now c.in_ok-made.made found c.in_ok-made.ensures.measured
    c.size-whole.ensures.within c.if-made.false c.if-made-2.true

pub returns-then-depth-from-clause-refused : goal.returns-then-depth-from-clause-refused
returns-then-depth-from-clause-refused c =
    let found : subtree c.args.t.now (path_of c.args.m.now) ≡ Some c.in_ok-s.s.now =
    subst (λ q. subtree c.args.t.now q ≡ Some c.in_ok-s.s.now) c.path-path.ensures c.in_ok-s.ensures in
    let deep : (v : WideTree) → depth_of v ≡ c.in_ok-made.made.depth
    → depth_of (replaced c.args.t.now (path_of c.args.m.now) v) ≡ c.depth_with-depth.result =
    subst (λ q. (v : WideTree) → depth_of v ≡ c.in_ok-made.made.depth
    → depth_of (replaced c.args.t.now q v) ≡ c.depth_with-depth.result) c.path-path.ensures
    c.depth_with-depth.ensures in
    let less = size_of_subtree (path_of c.args.m.now) c.args.t.now c.in_ok-s.s.now found in
    too_deep c.args.m.now c.args.t.now c.in_ok-s.s.now c.in_ok-made.made c.depth_with-depth.result found
    c.in_ok-made.ensures.measured c.size-whole.ensures.within c.if-made.false c.if-made-2.false deep
    (omega (arith, c.from.ensures, c.if-depth-from.true))

pub overflow_sub-size : goal.overflow_sub-size
overflow_sub-size c =
    let found : subtree c.args.t.now (path_of c.args.m.now) ≡ Some c.in_ok-s.s.now =
    subst (λ q. subtree c.args.t.now q ≡ Some c.in_ok-s.s.now) c.path-path.ensures c.in_ok-s.ensures in
    omega (
      arith,
      size_of_subtree (path_of c.args.m.now) c.args.t.now c.in_ok-s.s.now found,
      c.size-whole.ensures.value,
      c.size.ensures.value,
    )

pub returns-then-size-gt-MOST_SIZE-clause-refused : goal.returns-then-size-gt-MOST_SIZE-clause-refused
returns-then-size-gt-MOST_SIZE-clause-refused c =
    let found : subtree c.args.t.now (path_of c.args.m.now) ≡ Some c.in_ok-s.s.now =
    subst (λ q. subtree c.args.t.now q ≡ Some c.in_ok-s.s.now) c.path-path.ensures c.in_ok-s.ensures in
    let deep : (v : WideTree) → depth_of v ≡ c.in_ok-made.made.depth
    → depth_of (replaced c.args.t.now (path_of c.args.m.now) v) ≡ c.depth_with-depth.result =
    subst (λ q. (v : WideTree) → depth_of v ≡ c.in_ok-made.made.depth
    → depth_of (replaced c.args.t.now q v) ≡ c.depth_with-depth.result) c.path-path.ensures
    c.depth_with-depth.ensures in
    let less = size_of_subtree (path_of c.args.m.now) c.args.t.now c.in_ok-s.s.now found in
    too_big c.args.m.now c.args.t.now c.in_ok-s.s.now c.in_ok-made.made c.depth_with-depth.result _ found
    c.in_ok-made.ensures.measured c.size-whole.ensures.within c.if-made.false c.if-made-2.false deep
    (omega (arith, c.from.ensures, c.if-depth-from.false))
    (omega (arith, less, c.size-whole.ensures.value, c.size.ensures.value)) c.if-size-gt-MOST_SIZE.true

pub returns-clause-ok : goal.returns-clause-ok
returns-clause-ok c =
    let found : subtree c.args.t.now (path_of c.args.m.now) ≡ Some c.in_ok-s.s.now =
    subst (λ q. subtree c.args.t.now q ≡ Some c.in_ok-s.s.now) c.path-path.ensures c.in_ok-s.ensures in
    let deep : (v : WideTree) → depth_of v ≡ c.in_ok-made.made.depth
    → depth_of (replaced c.args.t.now (path_of c.args.m.now) v) ≡ c.depth_with-depth.result =
    subst (λ q. (v : WideTree) → depth_of v ≡ c.in_ok-made.made.depth
    → depth_of (replaced c.args.t.now q v) ≡ c.depth_with-depth.result) c.path-path.ensures
    c.depth_with-depth.ensures in
    let less = size_of_subtree (path_of c.args.m.now) c.args.t.now c.in_ok-s.s.now found in
    all_within c.args.m.now c.args.t.now c.in_ok-s.s.now c.in_ok-made.made c.depth_with-depth.result
    (c.size-whole.result - c.size.result + c.in_ok-made.made.size) found c.in_ok-made.ensures.measured
    c.size-whole.ensures.within c.if-made.false c.if-made-2.false deep
    (omega (arith, c.from.ensures, c.if-depth-from.false))
    (omega (arith, less, c.size-whole.ensures.value, c.size.ensures.value)) c.if-size-gt-MOST_SIZE.false
