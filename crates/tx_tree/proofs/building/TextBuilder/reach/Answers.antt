use Rattle.std.proofs.Common.{length, sym, ◌∙◌, ap, arith, refl, Some}
use Rattle.tx_tree.specs.TextScan.{text_run}
use Rattle.tx_tree.specs.declared.texts.TextPlace.TheVariants.{Between}
use Rattle.tx_tree.proofs.Growing.{reached_none, reached_more, reached_end, full_takes_none}
use Rattle.tx_tree.proofs.Scanning.{takes_no}
use Rattle.tx_tree.proofs.building.TextBuilder.reach.Goals as goal

pub loop-i-init : goal.loop-i-init
loop-i-init c =
    reached_none c.args.self.now c.args.bytes.now _
    (ap (text_run (Some Between)) (sym c.self.view_is) ∙ c.self.invariant.place)

pub returns-in-None-clause-stops : goal.returns-in-None-clause-stops
returns-in-None-clause-stops c = λ lt. sym (takes_no _ _ _ c.loop-i.invariant.run (sym c.step.ensures ∙ c.in-None.is))

pub loop-i-preserved : goal.loop-i-preserved
loop-i-preserved c =
    reached_more c.args.self.now c.args.bytes.now c.loop-i.i _ _ _ (omega arith)
    (omega (arith, ap length c.self.view_is)) c.loop-i.invariant refl (sym c.step.ensures ∙ c.in-Some.is)

pub returns-clause-place : goal.returns-clause-place
returns-clause-place c =
    (reached_end c.args.self.now c.args.bytes.now c.loop-i.i c.min-most.result c.loop-i.place c.loop-i.auto.i-end
    c.loop-i-test.false c.loop-i.invariant).run

pub returns-clause-taken : goal.returns-clause-taken
returns-clause-taken c =
    (reached_end c.args.self.now c.args.bytes.now c.loop-i.i c.min-most.result c.loop-i.place c.loop-i.auto.i-end
    c.loop-i-test.false c.loop-i.invariant).taken

pub returns-clause-stops : goal.returns-clause-stops
returns-clause-stops c = λ lt.
    full_takes_none c.args.self.now c.args.bytes.now c.min-most.result _ (omega arith)
    (omega (arith, ap length c.self.view_is))
