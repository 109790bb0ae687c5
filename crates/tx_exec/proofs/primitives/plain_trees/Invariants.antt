use Rattle.std.proofs.Common.{◌≡◌, ◌+◌, ◌++◌, drop, map}
use Rattle.tx_tree.specs.WideTree.{total_nodes}
use Rattle.tx_origin.specs.Values.{vals, plain, plains}
use Rattle.tx_exec.proofs.primitives.plain_trees.Given as goal

abbrev pub invariant-loop-value : goal.invariant-loop-value
invariant-loop-value g l = record {
  trees : l.trees.items ++ map plain (drop l.value-index l.values) ≡ map plain l.fn.values;
  counted : l.steps + total_nodes (plains (vals (drop l.value-index l.values))) ≡ l.fn.steps + total_nodes
      (plains (vals l.fn.values));
}
