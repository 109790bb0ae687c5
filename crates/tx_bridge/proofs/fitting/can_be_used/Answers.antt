use Rattle.std.proofs.Common.{true, false, sym, ap, ◌∙◌}
use Rattle.std.specs.Prelude.{nat_le}
use Rattle.tx_bridge.proofs.Used.{fits_done, pairs_agree}
use Rattle.tx_bridge.proofs.fitting.can_be_used.Goals as goal

pub agrees_or-requires : goal.agrees_or-requires
agrees_or-requires c = λ known.
    pairs_agree c.args.moment.now c.env.result.now.map c.args.kept.now c.in-Done.trace c.in-Done.is c.requires.once
    c.env.ensures (c.requires.settled known)

pub returns-then-agrees_or : goal.returns-then-agrees_or
returns-then-agrees_or c =
    ap (λ n. nat_le c.in-Done.trace.cost n) c.allowance.ensures
    ∙ fits_done c.args.moment.now c.env.result.now.map c.args.kept.now c.in-Done.trace true c.in-Done.is
    c.requires.once c.env.ensures (sym c.if-agrees_or.true ∙ c.agrees_or.ensures)

pub returns-else-agrees_or : goal.returns-else-agrees_or
returns-else-agrees_or c =
    c.if-agrees_or.false
    ∙ fits_done c.args.moment.now c.env.result.now.map c.args.kept.now c.in-Done.trace false c.in-Done.is
    c.requires.once c.env.ensures (sym c.if-agrees_or.false ∙ c.agrees_or.ensures)
