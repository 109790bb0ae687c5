use Rattle.std.proofs.Common.{◌≡◌, take}
use Rattle.tx_part_layout.proofs.part.same_errors.Given as goal

abbrev pub invariant-loop-error : goal.invariant-loop-error
invariant-loop-error l = l.all.items ≡ take l.error-index l.errors
