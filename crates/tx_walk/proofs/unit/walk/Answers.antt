use Rattle.std.proofs.Common.{ap, [], ◌+◌, ◌∙◌}
use Rattle.std.proofs.lemmas.Result.{IfOk-weaker}
use Rattle.tx_exec.specs.States.{before_of}
use Rattle.tx_exec.specs.Outcomes.{wide_outcome}
use Rattle.tx_parts.specs.Parts.{parts_by}
use Rattle.tx_parts.proofs.Openers.{closed_by_nothing}
use Rattle.tx_walk.specs.LayerTraces.{holds_either}
use Rattle.tx_walk.specs.Walked.{stores_in, seen_parts}
use Rattle.tx_walk.proofs.Charging.{nothing_opened}
use Rattle.tx_walk.proofs.Settled.{both_ok}
use Rattle.tx_walk.proofs.unit.walk.Goals as goal

pub returns-clause-parts : goal.returns-clause-parts
returns-clause-parts g c =
    IfOk-weaker c.walk_with.result _ _
    (λ w h. h ∙ ap (λ s. seen_parts (stores_in c.args.kept.now c.args.spare.now)
    (parts_by s 400 c.args.allowance [] c.args.t.now (before_of c.args.env.now)) (wide_outcome w.outcome))
    closed_by_nothing)
    c.walk_with.ensures.parts

pub returns-clause-counted : goal.returns-clause-counted
returns-clause-counted g c =
    both_ok c.walk_with.result _ _ _
    (λ w h p. h ∙ ap (λ n. c.args.steps.now + n) (p ∙ nothing_opened
    (stores_in c.args.kept.now c.args.spare.now) (holds_either [] []) 400
    c.args.allowance [] c.args.t.now (before_of c.args.env.now)))
    c.walk_with.ensures.counted c.walk_with.ensures.charge

pub returns-clause-charge : goal.returns-clause-charge
returns-clause-charge g c =
    IfOk-weaker c.walk_with.result _ _
    (λ w h. h ∙ nothing_opened (stores_in c.args.kept.now c.args.spare.now) (holds_either [] []) 400 c.args.allowance []
    c.args.t.now (before_of c.args.env.now))
    c.walk_with.ensures.charge
