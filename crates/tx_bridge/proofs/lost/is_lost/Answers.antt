use Rattle.std.proofs.Common.{◌∙◌, sym, ap}
use Rattle.tx_bridge.specs.Carrying.{through}
use Rattle.tx_bridge.proofs.Settling.{goes_from}
use Rattle.tx_bridge.proofs.lost.is_lost.Goals as goal

pub returns-then-is_gone : goal.returns-then-is_gone
returns-then-is_gone c = λ h t.
    ap (through c.args.mods.now t) c.in-Some.is
    ∙ goes_from c.args.mods.now t c.in-Some.path (sym c.is_gone.ensures ∙ c.if-is_gone.true)
    (sym c.are_within.ensures ∙ h)
