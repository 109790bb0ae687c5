use Rattle.std.proofs.Common.{◌≡◌, ◌+◌, ◌≤◌, ◌++◌, take}
use Rattle.std.specs.List.{flat_map}
use Rattle.tx_units.specs.Units.{entry_units, nodes_made}
use Rattle.tx_units.proofs.initial.add_initial.Given as goal

abbrev pub invariant-loop-entry : goal.invariant-loop-entry
invariant-loop-entry g l = record {
  added : l.units.items ≡ l.fn.units.items ++ flat_map entry_units (take l.entry-index l.all);
  counted : l.steps ≤ l.fn.steps + nodes_made (flat_map entry_units (take l.entry-index l.all));
}
