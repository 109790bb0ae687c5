use Rattle.std.proofs.Common.{◌≡◌, ◌+◌, drop}
use Rattle.tx_tree.specs.WideTree.{total_nodes}
use Rattle.tx_origin.specs.Values.{vals, plains}
use Rattle.tx_exec.proofs.primitives.nodes_of.Given as goal

abbrev pub invariant-loop-value : goal.invariant-loop-value
invariant-loop-value l =
    l.nodes + total_nodes (plains (vals (drop l.value-index l.values))) ≡ total_nodes (plains (vals l.fn.values))
