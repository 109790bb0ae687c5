use Rattle.std.proofs.Common.{◌≡◌, sym, subst}
use Rattle.std.specs.Prelude.{IfSome}
use Rattle.std.specs.FinMap.{get}
use Rattle.tx_exec_form.specs.Evaluated.{WideTrace}
use Rattle.tx_exec.specs.declared.outcome.Outcome.{Outcome}
use Rattle.tx_exec.specs.States.{before_of}
use Rattle.tx_exec.specs.Outcomes.{wide_outcome}
use Rattle.tx_parts.specs.Opening.{shells_by}
use Rattle.tx_walk.specs.LayerTraces.{AreKnownBy}
use Rattle.tx_walk.proofs.Known.{nothing_left}
use Rattle.tx_walk.proofs.unit.walk_with.Goals as goal

pub returns-clause-layers : goal.returns-clause-layers
returns-clause-layers g c =
    nothing_left (shells_by (g.O.Opener.opens c.args.opener.now)) 400 c.args.allowance c.args.t.now
    (before_of c.args.env.now) c.new-progress.result.layers.items c.walk_root-outcome.new.progress.layers.items
    c.unit_of.result.layers.items (wide_outcome c.unit_of.result.outcome)
    (subst (λ m. AreKnownBy (shells_by (g.O.Opener.opens c.args.opener.now)) 400 c.args.allowance c.args.t.now (get m)
    c.new-progress.result.layers.items c.walk_root-outcome.new.progress.layers.items
    (wide_outcome c.unit_of.result.outcome)) c.enter-mark.ensures.map
    (subst (λ (o : Outcome). AreKnownBy (shells_by (g.O.Opener.opens c.args.opener.now)) 400 c.args.allowance
    c.args.t.now (get c.enter-mark.new.self.map) c.new-progress.result.layers.items
    c.walk_root-outcome.new.progress.layers.items (wide_outcome o)) (sym c.unit_of.ensures.outcome)
    c.in_ok-outcome.ensures.layers))
    (subst (λ (o : Outcome). IfSome (wide_outcome o) (λ (trace : WideTrace). c.unit_of.result.layers.items ≡
    c.walk_root-outcome.new.progress.layers.items)) (sym c.unit_of.ensures.outcome) c.unit_of.ensures.layers)
