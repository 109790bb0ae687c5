use Rattle.std.proofs.Common.{length, reverse}
use Rattle.tx_kept.specs.Moves.{moved, due}
use Rattle.tx_kept.proofs.Moving.{Settling}
use Rattle.tx_kept.proofs.carrying.settle.Given as goal

abbrev pub invariant-loop-at : goal.invariant-loop-at
invariant-loop-at g l =
    Settling (moved 0 (reverse l.fn.moves.items) l.fn.entries.items) l.entries.items l.at l.end
    (length l.fn.entries.items) (due l.next l.stack.items)
