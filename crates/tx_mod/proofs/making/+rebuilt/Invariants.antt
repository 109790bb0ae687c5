use Rattle.std.proofs.Common.{length}
use Rattle.tx_mod.proofs.making.+rebuilt.Given as goal

abbrev pub decreases-rebuilt : goal.decreases-rebuilt
decreases-rebuilt g l = length l.path.now
