use Rattle.std.proofs.Common.{ap, ◌∙◌}
use Rattle.std.specs.FinMap.{from_entries}
use Rattle.tx_env.specs.Changes.{map_of}
use Rattle.tx_exec.proofs.Ending.{sets_once, looks_once, trace_is}
use Rattle.tx_walk.proofs.shelled.layer_trace.Goals as goal

pub returns-clause-trace : goal.returns-clause-trace
returns-clause-trace c =
    trace_is c.in_ok-value.value c.args.joined.writes c.args.joined.looks c.in_ok-looks.looks c.in_ok-writes.writes
    c.args.cost c.args.height c.in_ok-looks.ensures.all c.in_ok-writes.ensures.all c.in_ok-writes.ensures.once
    ∙ ap (λ v. record {
      value = v;
      looks = from_entries c.args.joined.looks;
      writes = map_of c.args.joined.writes;
      cost = c.args.cost;
      height = c.args.height;
    }) c.in_ok-value.ensures

pub returns-clause-once : goal.returns-clause-once
returns-clause-once c = (
  looks_once _ _ c.in_ok-looks.ensures.all c.in_ok-looks.ensures.once,
  sets_once _ _ c.in_ok-writes.ensures.all c.in_ok-writes.ensures.once,
)
