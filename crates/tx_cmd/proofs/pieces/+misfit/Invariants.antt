use Rattle.std.proofs.Common.{length}
use Rattle.tx_cmd.proofs.pieces.+misfit.Given as goal

abbrev pub decreases-misfit : goal.decreases-misfit
decreases-misfit l = length l.arguments.now
