use Rattle.tx_env.proofs.Capping.{IsCappedTo}
use Rattle.tx_env.proofs.scoped.cap.Given as goal

abbrev pub invariant-loop-past : goal.invariant-loop-past
invariant-loop-past l = IsCappedTo l.scope l.past-index l.past-items l.fn.pasts.items
