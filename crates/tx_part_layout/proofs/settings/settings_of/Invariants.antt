use Rattle.std.proofs.Common.{◌≡◌, take}
use Rattle.std.specs.Prelude.{Some}
use Rattle.tx_tree.specs.WideTree.{WideTree, children_of}
use Rattle.tx_parts.specs.Openness.{Settings as TextSettings, settings_in}
use Rattle.tx_part_layout.proofs.settings.settings_of.Given as goal

abbrev pub invariant-loop-i : goal.invariant-loop-i
invariant-loop-i l =
    (ps : TextSettings) (b : WideTree) → settings_in (children_of l.t) ≡ Some (ps, b) → l.settings.items ≡ take l.i ps
