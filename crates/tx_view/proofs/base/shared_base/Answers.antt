use Rattle.std.proofs.Common.{ap, ◌∙◌}
use Rattle.tx_view.proofs.FirstUnits.{first_next, first_all}
use Rattle.tx_view.proofs.base.shared_base.Goals.{in-Some+in_ok-share+in_ok-push, in_default}
use Rattle.tx_view.proofs.base.shared_base.Goals as goal

pub loop-i-preserved : goal.loop-i-preserved
loop-i-preserved c =
    elim c.match-unit.branch [
      | in-Some+in_ok-share+in_ok-push w ↦
          first_next c.args.bridges.now.kept c.loop-i.i w.in-Some.unit.now w.in_ok-share.field-0 c.loop-i.base.items
          c.match-unit.base.items c.loop-i.invariant w.in-Some.ensures.found w.in_ok-share.ensures
          (ap (λ b. b.items) w.base-is ∙ w.in_ok-push.ensures.items)
      | in_default w ↦
          ap (λ b. b.items) w.base-is
          ∙ first_all c.args.bridges.now.kept c.loop-i.i c.loop-i.base.items c.loop-i.invariant
          w.in_default.ensures.found
    ]
