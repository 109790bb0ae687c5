use Rattle.std.proofs.Common.{◌≡◌, drop}
use Rattle.tx_tm_write.specs.Shapes.{all_digits}
use Rattle.tx_tm_write.proofs.shapes.all_digits.Given as goal

abbrev pub invariant-loop-byte : goal.invariant-loop-byte
invariant-loop-byte l = all_digits l.text ≡ all_digits (drop l.byte-index l.text)
