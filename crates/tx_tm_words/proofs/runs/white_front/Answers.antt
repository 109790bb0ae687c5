use Rattle.std.proofs.Common.{get_or, sym, ap, refl, ◌∙◌, arith}
use Rattle.tx_tm_form.specs.Bytes.{joint_run}
use Rattle.tx_tm_words.specs.Runs.{no_white}
use Rattle.tx_tm_words.proofs.WordRuns.{white_next}
use Rattle.tx_tm_words.proofs.runs.white_front.Goals as goal

pub loop-i-init : goal.loop-i-init
loop-i-init c = no_white

pub loop-i-preserved : goal.loop-i-preserved
loop-i-preserved c =
    white_next c.args.bytes.now c.loop-i.i (get_or c.args.bytes.now c.loop-i.i 0) c.loop-i.white
    c.joint_run-white.result c.loop-i.invariant (omega arith) refl (sym c.is_white.ensures ∙ c.if-is_white.true)
    (c.joint_run-white.ensures ∙ ap (joint_run c.loop-i.white) c.white_of.ensures)
