use Rattle.std.proofs.Common.{◌≡◌, ◌+◌, max, take, drop, get_or, ◌∙◌, subst, ap, arith}
use Rattle.std.specs.Prelude.{IsSome}
use Rattle.std.proofs.lemmas.List.{take_rest}
use Rattle.tx_tree.specs.WideTree.{children_of, forest, deepest}
use Rattle.tx_tree.proofs.Walking.{went_down}
use Rattle.tx_mod.proofs.Replacing.{aside}
use Rattle.tx_mod.proofs.Whole.{depth_step}
use Rattle.tx_mod.proofs.walks.depth_with.Goals as goal

pub loop-k-preserved : goal.loop-k-preserved
loop-k-preserved c =
    let steps = c.steps-steps.result.now in
    let went = went_down c.loop-k.tree.now c.in-Some.child.now steps c.loop-k.k c.loop-k-test.true c.in-Some.ensures in
    let i = get_or steps c.loop-k.k 0 in
    let tail = ap (λ us. deepest (forest us)) (take_rest c.children-children.result.now (i + 1)) in
    let front : c.deepest.result ≡ deepest (forest (take i (children_of c.loop-k.tree.now))) = c.deepest.ensures.depth
    ∙ ap (λ us. deepest (forest (take i us))) c.children-children.ensures in
    let back : c.deepest-in-loop-k.result ≡ deepest (forest (drop (i + 1) (children_of c.loop-k.tree.now))) =
    c.deepest-in-loop-k.ensures.depth ∙ tail
    ∙ ap (λ us. deepest (forest (drop (i + 1) us))) c.children-children.ensures in
    let step : c.max-beside.result ≡ max c.loop-k.beside (c.loop-k.k + 1 + aside c.loop-k.tree.now i) =
    omega (arith, front, back, c.max-aside.ensures, c.from.ensures, c.max-beside.ensures) in
    record {
      leads = subst (λ o. IsSome o) went.rest c.loop-k.invariant.leads;
      whole = λ v h. depth_step c.loop-k.tree.now c.in-Some.child.now v steps c.loop-k.k c.loop-k.beside
          c.max-beside.result _ c.loop-k-test.true c.in-Some.ensures step (c.loop-k.invariant.whole v h);
      shallow = omega (arith, went.shallower, c.loop-k.invariant.shallow);
      low = omega (
        arith,
        c.deepest.ensures.shallow,
        c.deepest-in-loop-k.ensures.shallow,
        c.max-aside.ensures,
        c.from.ensures,
        c.max-beside.ensures,
        c.loop-k.invariant.low,
        c.loop-k.invariant.shallow,
        c.depth-depth.ensures.within.depth,
        c.depth-depth.ensures.value,
      );
    }
