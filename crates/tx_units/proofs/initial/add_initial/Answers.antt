use Rattle.tx_units.specs.Documents.{entries}
use Rattle.tx_units.specs.Units.{entry_units}
use Rattle.tx_units.proofs.Gathering.{nodes_stop}
use Rattle.tx_units.proofs.Within.{entry_small}
use Rattle.tx_units.proofs.initial.add_initial.Goals as goal

pub add_entry-requires-clause-size : goal.add_entry-requires-clause-size
add_entry-requires-clause-size g c =
    (entry_small c.args.document.now c.entry-item.result c.entries-all.result.now c.loop-entry.entry-index
    c.size-size.ensures.within
    c.entries-all.ensures c.loop-entry-test.true c.entry-item.is).0

pub add_entry-requires-clause-depth : goal.add_entry-requires-clause-depth
add_entry-requires-clause-depth g c =
    (entry_small c.args.document.now c.entry-item.result c.entries-all.result.now c.loop-entry.entry-index
    c.size-size.ensures.within
    c.entries-all.ensures c.loop-entry-test.true c.entry-item.is).1

pub returns-in_err-add_entry-clause-counted : goal.returns-in_err-add_entry-clause-counted
returns-in_err-add_entry-clause-counted g c =
    nodes_stop entry_units c.entries-all.result.now (entries c.args.document.now) c.loop-entry.entry-index
    c.entry-item.result
    c.args.steps.now c.loop-entry.steps _ c.entries-all.ensures c.loop-entry-test.true c.entry-item.is
    c.loop-entry.invariant.counted c.add_entry.ensures.counted
