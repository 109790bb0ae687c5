use Rattle.std.proofs.Common.{slice_index_or, sym, ap, ◌∙◌}
use Rattle.tx_unit_traces.proofs.Taken.{trace_none, trace_read}
use Rattle.tx_unit_traces.proofs.carrying.trace_at.Goals as goal

pub returns-in_default : goal.returns-in_default
returns-in_default c = c.none.ensures ∙ sym (trace_none c.args.path.now c.args.whole.now c.in_default.ensures)

pub returns : goal.returns
returns c =
    c.in_ok-trace.ensures
    ∙ trace_read c.args.path.now c.args.whole.now c.in-Some.number c.index-entries-number.result
    c.entries.ensures.order c.in-Some.ensures
    (c.index-entries-number.is
    ∙ ap (λ xs. slice_index_or xs c.in-Some.number c.index-entries-number.result) c.entries.ensures.entries)
