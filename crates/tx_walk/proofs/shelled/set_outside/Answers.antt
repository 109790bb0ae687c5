use Rattle.std.proofs.Common.{ap, refl, ◌∙◌}
use Rattle.tx_exec.specs.States.{before_of}
use Rattle.tx_parts.specs.Atop.{env_atop}
use Rattle.tx_walk.specs.Outside.{outside}
use Rattle.tx_walk.proofs.Behind.{set_behind}
use Rattle.tx_walk.proofs.Elsewhere.{outside_once, outside_is}
use Rattle.tx_walk.proofs.Settled.{on_ok}
use Rattle.tx_walk.proofs.shelled.set_outside.Goals as goal

pub returns-clause-behind : goal.returns-clause-behind
returns-clause-behind c =
    on_ok c.set_all.result _ _
    (λ h. set_behind c.args.env.now.map c.set_all.new.env.map c.pairs.result.now
    (outside c.args.pairs.now c.args.trace.now.writes) (outside c.args.pairs.now c.args.trace.now.writes) h
    (c.pairs.ensures ∙ c.in_ok-writes.ensures) refl
    (outside_once c.args.pairs.now c.args.trace.now.writes c.requires.once.1)
    ∙ ap (λ m. env_atop m (before_of c.args.env.now)) (outside_is c.args.pairs.now c.args.trace.now.writes))
    c.set_all.ensures.map
