use Rattle.std.proofs.Common.{sym, ◌∙◌, arith}
use Rattle.tx_tree.proofs.Walking.{went_down}
use Rattle.tx_tree.proofs.places.Place.check.Goals as goal

pub loop-i-preserved : goal.loop-i-preserved
loop-i-preserved c =
    let went = went_down c.loop-i.tree.now c.in-Some.child.now c.steps-step-items.result.now c.loop-i.i
    c.loop-i-test.true c.in-Some.ensures in
    record {
      rest = sym went.rest ∙ c.loop-i.invariant.rest;
      count = omega (arith, went.count, c.loop-i.invariant.count);
      shallow = omega (arith, went.shallower, c.loop-i.invariant.shallow);
    }
