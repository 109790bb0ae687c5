use Rattle.std.proofs.lemmas.List.Elements.{All-weaker}
use Rattle.tx_walk.specs.Walked.{IsTidy, IsPlaced}
use Rattle.tx_walk.specs.Steps.{IsReady}
use Rattle.tx_walk.proofs.unit.unit_of.Goals as goal

pub returns-in-Done-clause-tidy : goal.returns-in-Done-clause-tidy
returns-in-Done-clause-tidy c = All-weaker IsReady IsTidy (λ p h. h.tidy) c.args.done.items c.requires.ready

pub returns-in-Done-clause-placed : goal.returns-in-Done-clause-placed
returns-in-Done-clause-placed c = All-weaker IsReady IsPlaced (λ p h. h.placed) c.args.done.items c.requires.ready
