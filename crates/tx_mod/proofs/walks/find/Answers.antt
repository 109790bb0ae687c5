use Rattle.std.proofs.Common.{sym, ◌∙◌, arith}
use Rattle.tx_tree.proofs.Walking.{went_down}
use Rattle.tx_mod.proofs.walks.find.Goals as goal

pub loop-k-preserved : goal.loop-k-preserved
loop-k-preserved c =
    let went = went_down c.loop-k.tree.now c.in-Some.child.now c.steps-step-items.result.now c.loop-k.k
    c.loop-k-test.true c.in-Some.ensures in
    record {
      rest = sym went.rest ∙ c.loop-k.invariant.rest;
      count = omega (arith, went.count, c.loop-k.invariant.count);
      shallow = omega (arith, went.shallower, c.loop-k.invariant.shallow);
    }
