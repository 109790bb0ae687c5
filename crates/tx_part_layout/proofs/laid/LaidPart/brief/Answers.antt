use Rattle.std.proofs.Common.{sym, ◌∙◌}
use Rattle.tx_part_layout.proofs.Alike.{attrs_are}
use Rattle.tx_part_layout.proofs.laid.LaidPart.brief.Goals as goal

pub returns-clause-plain : goal.returns-clause-plain
returns-clause-plain c = λ plain.
    attrs_are c.args.self.now.after c.args.self.now.before (sym c.same_attrs.ensures ∙ plain)
