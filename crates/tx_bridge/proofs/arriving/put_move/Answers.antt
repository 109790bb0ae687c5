use Rattle.std.proofs.Common.{arith, sym, ap, slice_index_or}
use Rattle.tx_bridge.proofs.Coming.{one_comes, never_comes, with_parts}
use Rattle.tx_bridge.proofs.arriving.put_move.Goals as goal

pub returns-in_ok-add-clause-units : goal.returns-in_ok-add-clause-units
returns-in_ok-add-clause-units c =
    one_comes c.args.part_move c.args.part_move.to 0 c.args.new.now c.index-new-part_move.result _ (omega arith)
    (omega (arith, c.if-part_move-new.true))
    (ap (with_parts (slice_index_or c.args.new.now c.args.part_move.to c.index-new-part_move.result))
    c.in_ok-add.ensures)

pub returns-in_ok-push-clause-units : goal.returns-in_ok-push-clause-units
returns-in_ok-push-clause-units c =
    sym (never_comes c.args.part_move 0 c.args.new.now (omega (arith, c.if-part_move-new.false)))

pub returns-else-part_move-new-2-clause-units : goal.returns-else-part_move-new-2-clause-units
returns-else-part_move-new-2-clause-units c =
    sym (never_comes c.args.part_move 0 c.args.new.now (omega (arith, c.if-part_move-new.false)))
