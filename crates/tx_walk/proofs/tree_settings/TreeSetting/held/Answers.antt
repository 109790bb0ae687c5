use Rattle.std.proofs.Common.{ap, sym, subst, ◌∙◌}
use Rattle.tx_exec.specs.declared.outcome.Trace.{Trace}
use Rattle.tx_exec.specs.Outcomes.{wide_trace}
use Rattle.tx_walk.specs.Walked.{AreOnce}
use Rattle.tx_walk.proofs.Listing.{held_setting}
use Rattle.tx_walk.proofs.tree_settings.TreeSetting.held.Goals as goal

pub invariant_of-result : goal.invariant_of-result
invariant_of-result c =
    held_setting c.args.found.now c.in_ok-share.field-0 c.in_ok-trace.trace c.in_ok-share-2.field-0
    (c.in_ok-share.ensures ∙ c.tree.ensures)
    (ap (λ (w : Trace). wide_trace w) c.in_ok-trace.ensures ∙ c.trace.ensures.is)
    (subst (λ (w : Trace). AreOnce w) (sym c.in_ok-trace.ensures) c.trace.ensures.once)
    (c.in_ok-share-2.ensures ∙ c.set.ensures) c.trace.ensures.supports
