use Rattle.std.proofs.Common.{ap}
use Rattle.std.specs.Prelude.{Some}
use Rattle.tx_exec.proofs.Ending.{trace_is, sets_once, looks_once}
use Rattle.tx_replay.proofs.unit.trace_by.Goals as goal

pub returns-clause-trace : goal.returns-clause-trace
returns-clause-trace c =
    ap (λ t. Some t)
    (trace_is _ _ _ _ _ _ _ c.in_ok-looks.ensures.all c.in_ok-writes.ensures.all c.in_ok-writes.ensures.once)

pub returns-clause-once : goal.returns-clause-once
returns-clause-once c = (
  looks_once _ _ c.in_ok-looks.ensures.all c.in_ok-looks.ensures.once,
  sets_once _ _ c.in_ok-writes.ensures.all c.in_ok-writes.ensures.once,
)
