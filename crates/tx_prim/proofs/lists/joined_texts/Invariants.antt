use Rattle.std.proofs.Common.{drop}
use Rattle.tx_tree.specs.WideTree.{text_of}
use Rattle.tx_tree.specs.Texts.{IsText}
use Rattle.tx_prim.proofs.Collecting.{Joins}
use Rattle.tx_prim.proofs.lists.joined_texts.Given as goal

abbrev pub invariant-loop-operand : goal.invariant-loop-operand
invariant-loop-operand l = Joins text_of l.operands l.all.items (drop l.operand-index l.operands) × IsText l.all.items
