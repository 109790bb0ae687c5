use Rattle.std.proofs.Common.{take}
use Rattle.tx_cmd.proofs.Numerals.{AreRead}
use Rattle.tx_cmd.proofs.pieces.number.Given as goal

abbrev pub invariant-loop-i : goal.invariant-loop-i
invariant-loop-i l = AreRead (take l.i l.piece) l.value
