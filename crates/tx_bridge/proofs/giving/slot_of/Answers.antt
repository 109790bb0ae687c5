use Rattle.std.proofs.Common.{rules}
use Rattle.tx_bridge.proofs.Slotting.{slot_by_place, slot_gone_at}
use Rattle.tx_bridge.proofs.giving.slot_of.Goals as goal

pub returns-in-Some-clause-slot : goal.returns-in-Some-clause-slot
returns-in-Some-clause-slot c =
    slot_by_place c.args.place.now c.in-Some.path c.args.i c.args.unit.now c.args.new.now c.path_slot.result
    c.in-Some.is c.requires.other c.requires.placed c.requires.all c.path_slot.ensures.slot

pub returns-else-is_none-clause-slot : goal.returns-else-is_none-clause-slot
returns-else-is_none-clause-slot c =
    slot_gone_at c.args.place.now c.in-None.is c.args.i c.args.unit.now c.args.new.now (search rules)
    c.requires.placed c.requires.all
