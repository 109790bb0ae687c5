use Rattle.tx_walk.proofs.Ends.{tag_traced}
use Rattle.tx_walk.proofs.shelled.tag_trace.Goals as goal

pub returns-clause-trace : goal.returns-clause-trace
returns-clause-trace c =
    tag_traced c.args.trace c.args.looks c.new-own.result c.join_looks.new.looks c.in_ok-looks_of.field-0
    c.new-own.ensures c.in_ok-join_looks.ensures c.in_ok-looks_of.ensures.all
