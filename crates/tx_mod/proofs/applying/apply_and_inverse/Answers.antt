use Rattle.tx_mod.proofs.Whole.{change_requires}
use Rattle.tx_mod.proofs.applying.apply_and_inverse.Goals as goal

pub undone-requires : goal.undone-requires
undone-requires g c =
    change_requires c.args.m.now c.args.t.now c.in-Some.s.now c.path.result.now c.path.ensures c.in-Some.ensures
    c.in_ok-applicable.ensures.ok
