use Rattle.tx_walk.proofs.Ends.{with_traced}
use Rattle.tx_walk.proofs.Elsewhere.{outside_once, once_as}
use Rattle.tx_walk.proofs.scopes.with_trace.Goals as goal

pub returns-clause-trace : goal.returns-clause-trace
returns-clause-trace c =
    with_traced c.args.path.now c.args.pairs.now c.args.values.items c.args.cost c.args.trace c.in_ok-value.value
    c.in_ok-looks.looks c.in_ok-writes.writes c.in_ok-value.ensures c.in_ok-looks.ensures c.in_ok-writes.ensures

pub returns-clause-once : goal.returns-clause-once
returns-clause-once c = (
  once_as c.in_ok-looks.looks _ c.in_ok-looks.ensures (outside_once c.args.pairs.now c.args.trace.looks
      c.requires.once.0),
  once_as c.in_ok-writes.writes _ c.in_ok-writes.ensures
      (outside_once c.args.pairs.now c.args.trace.writes c.requires.once.1),
)
