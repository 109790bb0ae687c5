use Rattle.std.proofs.Common.{take}
use Rattle.tx_cmd.proofs.Names.{AreRead}
use Rattle.tx_cmd.proofs.pieces.name_misfit.Given as goal

abbrev pub invariant-loop-i : goal.invariant-loop-i
invariant-loop-i l = AreRead (take l.i l.piece)
