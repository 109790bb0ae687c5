use Rattle.std.proofs.Common.{arith}
use Rattle.std.proofs.lemmas.Grind.{common_steps}
use Rattle.tx_bridge.proofs.Going.{goes_on, gone}
use Rattle.tx_bridge.proofs.paths_after.places_after.Goals as goal

pub loop-m-preserved : goal.loop-m-preserved
loop-m-preserved g c =
    goes_on c.args.mods.now c.loop-m.m-index c.args.paths.items c.loop-m.paths.items c.args.before.now c.loop-m.tree
    c.args.steps.now c.loop-m.steps c.loop-m.invariant (omega arith) c.m-item.result c.m-item.result c.go_behind.new.t
    c.go_behind.new.paths.items c.go_behind.new.steps c.m-item.is
    (λ q. c.carried_law.ensures c.m-item.result c.loop-m.tree q) c.in_ok-go_behind.ensures.tree
    c.in_ok-go_behind.ensures.paths c.in_ok-go_behind.ensures.counted

pub returns-clause-ok : goal.returns-clause-ok
returns-clause-ok g c =
    gone c.args.mods.now c.loop-m.m-index c.args.paths.items c.loop-m.paths.items c.args.before.now c.loop-m.tree
    c.args.steps.now c.loop-m.steps c.loop-m.invariant (grind (arith, common_steps))
