use Rattle.std.proofs.Common.{◌≡◌}
use Rattle.tx_bridge.proofs.Marked.{unmarked_first}
use Rattle.tx_bridge.proofs.unit_parts.unmark_all.Given as goal

abbrev pub invariant-loop-i : goal.invariant-loop-i
invariant-loop-i l = l.parts ≡ unmarked_first l.i l.fn.parts
