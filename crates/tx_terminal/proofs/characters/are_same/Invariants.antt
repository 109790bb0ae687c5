use Rattle.std.proofs.Common.{◌≡◌, take, length}
use Rattle.tx_terminal.proofs.characters.are_same.Given as goal

-- The characters so far are the same.
abbrev pub invariant-loop-one : goal.invariant-loop-one
invariant-loop-one l = take (length l.yielded) l.some ≡ take (length l.yielded) l.others
