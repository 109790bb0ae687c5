use Rattle.std.proofs.Common.{◌≡◌, take}
use Rattle.std.specs.List.{filter_map}
use Rattle.tx_tree.specs.WideTree.{text_of}
use Rattle.tx_units.specs.Documents.{each_once}
use Rattle.tx_units.proofs.documents.names_among.Given as goal

abbrev pub invariant-loop-tree : goal.invariant-loop-tree
invariant-loop-tree l = l.names.keys ≡ each_once (filter_map text_of (take l.tree-index l.trees))
