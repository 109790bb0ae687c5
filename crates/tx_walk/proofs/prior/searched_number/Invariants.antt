use Rattle.std.proofs.Common.{◌≡◌, drop}
use Rattle.tx_walk.specs.Walked.{kept_in}
use Rattle.tx_walk.proofs.prior.searched_number.Given as goal

abbrev pub invariant-loop-i : goal.invariant-loop-i
invariant-loop-i l = kept_in l.kept l.path ≡ kept_in (drop l.i l.kept) l.path
