use Rattle.std.proofs.Common.{◌≡◌, drop, Some}
use Rattle.tx_tree.specs.declared.texts.TextPlace.TheVariants.{Between}
use Rattle.tx_tree.specs.TextScan.{text_run}
use Rattle.tx_tree.proofs.texts.read_front.Given as goal

abbrev pub invariant-loop-byte : goal.invariant-loop-byte
invariant-loop-byte l = text_run (Some l.place) (drop l.byte-index l.bytes) ≡ text_run (Some Between) l.bytes
