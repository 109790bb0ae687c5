use Rattle.std.specs.Prelude.{codes}
use Rattle.tx_exec.proofs.Ending.{sets_once, looks_once}
use Rattle.tx_walk.proofs.Ends.{document_traced}
use Rattle.tx_walk.proofs.traces.document_trace.Goals as goal

pub returns-clause-trace : goal.returns-clause-trace
returns-clause-trace c =
    document_traced c.args.path.now c.args.joined c.in_ok-value.value c.in_ok-looks.looks c.in_ok-writes.writes
    (c.in_ok-value.ensures (codes "document") c.requires.label) c.in_ok-looks.ensures.all c.in_ok-writes.ensures.all
    c.in_ok-writes.ensures.once

pub returns-clause-once : goal.returns-clause-once
returns-clause-once c = (
  looks_once _ _ c.in_ok-looks.ensures.all c.in_ok-looks.ensures.once,
  sets_once _ _ c.in_ok-writes.ensures.all c.in_ok-writes.ensures.once,
)
