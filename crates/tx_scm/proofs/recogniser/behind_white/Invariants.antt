use Rattle.std.proofs.Common.{◌≡◌, drop}
use Rattle.tx_scm.specs.Recognising.{behind_white}
use Rattle.tx_scm.proofs.recogniser.behind_white.Given as goal

abbrev pub invariant-loop-i : goal.invariant-loop-i
invariant-loop-i l = behind_white (drop l.i l.bytes) ≡ behind_white (drop l.fn.at l.bytes)
