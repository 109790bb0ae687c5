use Rattle.std.proofs.Common.{take}
use Rattle.tx_tm_words.specs.Runs.{IsWhiteRun}
use Rattle.tx_tm_words.proofs.runs.white_front.Given as goal

abbrev pub invariant-loop-i : goal.invariant-loop-i
invariant-loop-i l = IsWhiteRun (take l.i l.bytes) l.white
