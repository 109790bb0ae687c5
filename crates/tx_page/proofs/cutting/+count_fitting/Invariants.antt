use Rattle.std.proofs.Common.{length}
use Rattle.tx_page.proofs.cutting.+count_fitting.Given as goal

abbrev pub decreases-count_fitting : goal.decreases-count_fitting
decreases-count_fitting l = length l.row.now
