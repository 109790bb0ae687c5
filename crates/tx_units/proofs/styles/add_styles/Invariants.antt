use Rattle.std.proofs.Common.{◌≡◌, ◌+◌, ◌≤◌, ◌++◌, take}
use Rattle.std.specs.List.{flat_map}
use Rattle.tx_units.specs.Units.{named_units, nodes_made}
use Rattle.tx_units.proofs.styles.add_styles.Given as goal

abbrev pub invariant-loop-name : goal.invariant-loop-name
invariant-loop-name g l = record {
  added : l.units.items ≡ l.fn.units.items ++ flat_map (named_units l.styles) (take l.name-index l.each);
  counted : l.steps ≤ l.fn.steps + nodes_made (flat_map (named_units l.styles) (take l.name-index l.each));
}
