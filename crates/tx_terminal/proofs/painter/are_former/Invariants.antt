use Rattle.std.proofs.Common.{◌≡◌, take}
use Rattle.tx_terminal.proofs.painter.are_former.Given as goal

-- The rows so far are the former ones.
abbrev pub invariant-loop-at : goal.invariant-loop-at
invariant-loop-at l = take l.at l.former ≡ take l.at l.rows
