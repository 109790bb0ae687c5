use Rattle.std.proofs.Common.{◌≡◌, take, Some}
use Rattle.tx_tree.specs.declared.texts.TextPlace.TheVariants.{Between}
use Rattle.tx_tree.specs.TextScan.{text_run}
use Rattle.tx_tree.proofs.texts.scan.Given as goal

abbrev pub invariant-loop-i : goal.invariant-loop-i
invariant-loop-i l = text_run (Some Between) (take l.i l.bytes) ≡ Some l.place
