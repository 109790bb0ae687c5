use Rattle.std.proofs.Common.{ap, arith, ◌∙◌}
use Rattle.std.proofs.lemmas.Result.{IfOk-weaker}
use Rattle.tx_exec.specs.States.{before_of}
use Rattle.tx_exec.specs.Outcomes.{wide_outcome}
use Rattle.tx_parts.specs.Composed.{evaluates}
use Rattle.tx_parts.specs.Opening.{shells_by}
use Rattle.tx_parts.specs.Parts.{parts_by}
use Rattle.tx_parts.proofs.Openers.{sheller_is}
use Rattle.tx_walk.specs.Guides.{guide_of, charged}
use Rattle.tx_walk.proofs.Charging.{charged_most}
use Rattle.tx_walk.proofs.Layered.{added_same}
use Rattle.tx_walk.proofs.Roots.{at_root}
use Rattle.tx_walk.proofs.Spending.{spent_all, both_on}
use Rattle.tx_walk.proofs.unit.walk_root.Goals as goal

pub returns-clause-exact : goal.returns-clause-exact
returns-clause-exact g c =
    IfOk-weaker c.walk_tree.result _ _
    (λ o h. at_root c.root-root.result (evaluates 400 c.args.allowance c.args.t.now (before_of c.args.env.now))
    (wide_outcome o) c.root-root.ensures h)
    c.walk_tree.ensures.exact

pub returns-clause-added : goal.returns-clause-added
returns-clause-added g c =
    IfOk-weaker c.walk_tree.result _ _
    (λ o h. added_same (guide_of (g.O.Opener.opens c.args.opener.now) c.args.kept.now) _ _ _ _ (wide_outcome o)
    (ap (λ p. parts_by (shells_by (g.O.Opener.opens c.args.opener.now)) 400 c.args.allowance p c.args.t.now
    (before_of c.args.env.now)) c.root-root.ensures) h)
    c.walk_tree.ensures.added

pub returns-clause-spent : goal.returns-clause-spent
returns-clause-spent g c =
    both_on c.walk_tree.result _ _ _
    (λ counted spent. spent_all c.args.steps.now c.args.progress.now.spent c.walk_tree.new.steps
    c.walk_tree.new.progress.spent (charged (guide_of (g.O.Opener.opens c.args.opener.now) c.args.kept.now) 400
    c.args.allowance c.root-root.result c.args.t.now (before_of c.args.env.now)) c.requires.nothing counted
    (omega (
      arith,
      charged_most (guide_of (g.O.Opener.opens c.args.opener.now) c.args.kept.now)
          (sheller_is (g.O.Opener.opens c.args.opener.now) (g.met.O.Opener.sound c.args.opener.now)) 400
          c.args.allowance c.root-root.result c.args.t.now (before_of c.args.env.now),
      c.requires.allowance,
    )) spent
    ∙ ap (λ path. charged (guide_of (g.O.Opener.opens c.args.opener.now) c.args.kept.now) 400 c.args.allowance path
    c.args.t.now (before_of c.args.env.now)) c.root-root.ensures)
    c.walk_tree.ensures.counted c.walk_tree.ensures.spent
