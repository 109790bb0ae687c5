use Rattle.std.proofs.Common.{sym, ap, ◌∙◌, arith}
use Rattle.std.specs.Ordering.{is_lt}
use Rattle.tx_walk.specs.declared.part.Part.{Part as DonePart}
use Rattle.tx_walk.specs.Finding.{side}
use Rattle.tx_walk.proofs.Found.{sorted_more}
use Rattle.tx_walk.proofs.prior.are_sorted.Goals as goal

pub loop-i-preserved : goal.loop-i-preserved
loop-i-preserved c =
    sorted_more c.args.parts.now c.loop-i.i c.index-parts-i-in-loop-i.result c.index-parts-i.result (omega arith)
    c.loop-i-test.true c.index-parts-i.is c.index-parts-i-in-loop-i.is
    (ap (λ (p : DonePart). is_lt (side p.path c.index-parts-i.result)) c.index-parts-i-in-loop-i.is
    ∙ ap is_lt (sym c.side_of.ensures) ∙ sym c.is_lt.ensures ∙ c.if-is_lt.false)
    c.loop-i.invariant
