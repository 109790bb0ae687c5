use Rattle.std.proofs.Common.{◌≡◌, ◌≤◌}
use Rattle.std.specs.Prelude.{Some}
use Rattle.tx_tree.specs.WideTree.{WideTree, children_of}
use Rattle.tx_parts.specs.Openness.{Settings as TextSettings, settings_in}
use Rattle.tx_replay.proofs.Texts.{SoFar}
use Rattle.tx_replay.proofs.settings.add_all.Given as goal

abbrev pub invariant-loop-i : goal.invariant-loop-i
invariant-loop-i l = record {
  so_far : (ps : TextSettings) (b : WideTree) → settings_in (children_of l.t) ≡ Some (ps, b)
      → SoFar l.base ps l.i l.settings;
  cost : l.settings.cost ≤ l.left;
}
