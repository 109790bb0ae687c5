use Rattle.std.proofs.Common.{sym, subst}
use Rattle.tx_kept.specs.Entries.{AllLead}
use Rattle.tx_unit_traces.proofs.Taken.{whole_lead}
use Rattle.tx_unit_traces.proofs.carrying.carry_units.Goals as goal

pub carry_along-requires-clause-lead : goal.carry_along-requires-clause-lead
carry_along-requires-clause-lead c =
    subst (AllLead c.args.before.now) (sym c.in_ok-whole.ensures)
    (whole_lead c.args.before.now c.args.old.now c.requires.stand)
