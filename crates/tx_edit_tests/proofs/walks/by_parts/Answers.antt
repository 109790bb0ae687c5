use Rattle.std.specs.Prelude.{[]}
use Rattle.tx_exec.specs.Outcomes.{wide_outcome}
use Rattle.tx_parts.specs.Opening.{no_shells}
use Rattle.tx_walk.specs.Walked.{stores_in}
use Rattle.tx_edit_tests.proofs.Answered.{answered_sound, answered_distinct}
use Rattle.tx_edit_tests.proofs.walks.by_parts.Goals as goal

pub walk-requires-clause-sound : goal.walk-requires-clause-sound
walk-requires-clause-sound g c = c.kept_law.ensures.alone _ _ (c.kept_law.ensures.nothing _)

pub walk-requires-clause-distinct : goal.walk-requires-clause-distinct
walk-requires-clause-distinct g c = c.kept_law.ensures.distinct

pub walk-requires-clause-spare_distinct : goal.walk-requires-clause-spare_distinct
walk-requires-clause-spare_distinct g c = c.kept_law.ensures.distinct

pub returns-in-Ok-clause-sound : goal.returns-in-Ok-clause-sound
returns-in-Ok-clause-sound g c =
    answered_sound (stores_in [] []) _ (wide_outcome c.in-Ok.walked.outcome) c.in-Ok.walked.parts.items c.args.t.now
    c.in-Ok.ensures.parts (c.kept_law.ensures.nothing _) (c.walked_law.ensures.sound (stores_in [] []) no_shells _ _ _
    _ _)

pub returns-in-Ok-clause-distinct : goal.returns-in-Ok-clause-distinct
returns-in-Ok-clause-distinct g c =
    answered_distinct (stores_in [] []) _ (wide_outcome c.in-Ok.walked.outcome) c.in-Ok.walked.parts.items
    c.in-Ok.ensures.parts c.kept_law.ensures.distinct (c.walked_law.ensures.distinct (stores_in [] []) no_shells _ _ _
    _ _)
