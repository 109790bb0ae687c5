use Rattle.std.proofs.Common.{ap}
use Rattle.std.proofs.lemmas.Result.{IfOk-weaker}
use Rattle.tx_exec.specs.declared.outcome.Trace.{Trace}
use Rattle.tx_walk.proofs.Behind.{set_behind}
use Rattle.tx_walk.proofs.shut_trees.trace_of.Goals as goal

pub returns-clause-behind : goal.returns-clause-behind
returns-clause-behind c =
    IfOk-weaker c.placed_trace.result _ _
    (λ t h. set_behind c.args.env.now.map c.set_all.new.env.map c.pairs.result.now c.args.part.now.trace.writes t.writes
    c.in_ok-set_all.ensures.map c.pairs.ensures (ap (λ (u : Trace). u.writes) h) c.requires.part_tidy.once.1)
    c.placed_trace.ensures
