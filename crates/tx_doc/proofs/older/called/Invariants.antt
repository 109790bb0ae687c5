use Rattle.tx_doc.proofs.Calling.{IsOnWay}
use Rattle.tx_doc.proofs.older.called.Given as goal

abbrev pub invariant-loop-i : goal.invariant-loop-i
invariant-loop-i l = IsOnWay l.label l.children l.name l.i
