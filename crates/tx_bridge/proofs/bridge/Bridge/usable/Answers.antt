use Rattle.std.proofs.Common.{ap, sym, ◌∙◌}
use Rattle.std.specs.Prelude.{option_copied}
use Rattle.tx_bridge.proofs.Lending.{is_usable}
use Rattle.tx_bridge.proofs.bridge.Bridge.usable.Goals as goal

pub returns-then-can_be_used : goal.returns-then-can_be_used
returns-then-can_be_used c =
    is_usable c.args.moment.now c.args.self.now.unit (option_copied c.args.spare) c.in-Some.other.now
    (ap option_copied c.in-Some.is) c.requires.spare (sym c.can_be_used.ensures ∙ c.if-can_be_used.true)
