use Rattle.std.proofs.Common.{take}
use Rattle.tx_exec.proofs.Bodies.{IsLeafy}
use Rattle.tx_exec.proofs.macros.body_of.Given as goal

abbrev pub invariant-loop-i : goal.invariant-loop-i
invariant-loop-i l = IsLeafy (take l.i l.kids)
