use Rattle.std.proofs.Common.{ap, sym, ◌∙◌}
use Rattle.tx_unit_traces.specs.Carrying.{taken_from}
use Rattle.tx_unit_traces.proofs.Taken.{carry_nothing}
use Rattle.tx_unit_traces.proofs.carrying.keep_units.Goals as goal

pub returns : goal.returns
returns c = λ t.
    c.in_ok-taken.ensures
    ∙ ap (λ whole. taken_from whole c.args.old.now 0 c.args.units.items)
    (c.in_ok-whole.ensures ∙ sym (carry_nothing t c.args.old.now))
