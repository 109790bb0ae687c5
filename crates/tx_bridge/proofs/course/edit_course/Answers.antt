use Rattle.std.proofs.Common.{◌∙◌, rules}
use Rattle.tx_bridge.specs.Slots.{paths_in}
use Rattle.tx_bridge.proofs.Arrived.{by_other}
use Rattle.tx_bridge.proofs.course.edit_course.Goals as goal

pub returns-clause-places : goal.returns-clause-places
returns-clause-places g c =
    c.in_ok-paths_of.ensures
    ∙ by_other c.args.buffer c.args.mods.now c.args.before.now (paths_in c.args.bridges.now)
    (search rules)
