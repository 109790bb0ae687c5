use Rattle.std.proofs.Common.{◌∙◌}
use Rattle.tx_walk.proofs.LayerSteps.{nothing_once}
use Rattle.tx_walk.proofs.layers.name_trace.Goals as goal

pub returns-clause-once : goal.returns-clause-once
returns-clause-once c = (
  nothing_once c.new-2.result (c.new-2.ensures ∙ c.new.ensures.items),
  nothing_once c.new-4.result
      (c.new-4.ensures ∙ c.new-3.ensures.items),
)
