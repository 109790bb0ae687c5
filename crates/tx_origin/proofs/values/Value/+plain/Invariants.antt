use Rattle.std.proofs.Common.{◌≡◌, ◌+◌, take}
use Rattle.tx_tree.specs.WideTree.{forest, total_nodes}
use Rattle.tx_origin.specs.Values.{vals, plains}
use Rattle.tx_origin.proofs.values.Value.+plain.Given as goal

abbrev pub invariant-loop-part : goal.invariant-loop-part
invariant-loop-part g l = record {
  made : forest l.children.items ≡ plains (vals (take l.part-index l.part-items));
  counted : l.steps ≡ l.fn.steps + total_nodes (plains (vals (take l.part-index l.part-items)));
}
