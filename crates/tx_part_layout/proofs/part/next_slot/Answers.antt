use Rattle.tx_part_layout.proofs.part.next_slot.Goals as goal

pub returns-in_ok-slot-in-Some-clause-slot : goal.returns-in_ok-slot-in-Some-clause-slot
returns-in_ok-slot-in-Some-clause-slot g c = c.in_ok-slot-in-Some.ensures.slot c.args.attrs.now c.in-Some.ensures.1
