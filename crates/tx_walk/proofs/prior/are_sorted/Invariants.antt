use Rattle.std.specs.List.Sorted.{IsSortedWithin}
use Rattle.std.specs.Ordering.{is_lt}
use Rattle.tx_walk.specs.Finding.{side}
use Rattle.tx_walk.proofs.prior.are_sorted.Given as goal

abbrev pub invariant-loop-i : goal.invariant-loop-i
invariant-loop-i l = IsSortedWithin (λ p q. is_lt (side q.path p)) l.parts 0 l.i
