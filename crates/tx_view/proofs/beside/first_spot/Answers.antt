use Rattle.std.proofs.Common.{sym, ◌∙◌}
use Rattle.tx_view.proofs.Middle.{found_first, none_next}
use Rattle.tx_view.proofs.beside.first_spot.Goals as goal

pub returns-then-branch : goal.returns-then-branch
returns-then-branch c =
    found_first c.args.spots.now c.args.at.now c.loop-i.i c.index-spots-i.result c.loop-i-test.true c.index-spots-i.is
    c.loop-i.invariant (sym c.in_ok-is_at.ensures ∙ c.if-branch.true)

pub loop-i-preserved : goal.loop-i-preserved
loop-i-preserved c =
    none_next c.args.spots.now c.args.at.now c.loop-i.i c.index-spots-i.result c.loop-i-test.true c.index-spots-i.is
    c.loop-i.invariant (sym c.in_ok-is_at.ensures ∙ c.if-branch.false)
