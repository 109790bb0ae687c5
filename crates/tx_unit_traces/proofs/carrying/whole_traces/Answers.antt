use Rattle.std.proofs.Common.{arith, sym, subst, ◌∙◌}
use Rattle.tx_kept.specs.Entries.{IsInOrder}
use Rattle.tx_unit_traces.proofs.Taken.{whole_step, whole_done, whole_in_order}
use Rattle.tx_unit_traces.proofs.carrying.whole_traces.Goals as goal

pub loop-unit-preserved : goal.loop-unit-preserved
loop-unit-preserved c =
    whole_step c.args.units.now c.loop-unit.unit-index c.unit-item.result c.loop-unit.whole.items
    c.add_whole.new.whole.items (omega arith) c.unit-item.is c.in_ok-add_whole.ensures c.loop-unit.invariant

pub new-requires : goal.new-requires
new-requires c = record {
  order =
      subst IsInOrder
      (sym (whole_done c.args.units.now c.loop-unit.unit-index c.loop-unit.whole.items c.loop-unit-test.false
      c.loop-unit.invariant))
      (whole_in_order c.args.units.now c.requires.apart);
}

pub returns : goal.returns
returns c =
    c.new.ensures
    ∙ whole_done c.args.units.now c.loop-unit.unit-index c.loop-unit.whole.items c.loop-unit-test.false
    c.loop-unit.invariant
