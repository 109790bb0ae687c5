use Rattle.std.proofs.Common.{◌≡◌, drop}
use Rattle.tx_tree.specs.Paths.{subtree}
use Rattle.tx_tree.proofs.trees.Tree.at.Given as goal

abbrev pub invariant-loop-step : goal.invariant-loop-step
invariant-loop-step l = subtree l.tree (drop l.step-index l.step-items) ≡ subtree l.fn.self l.fn.path
