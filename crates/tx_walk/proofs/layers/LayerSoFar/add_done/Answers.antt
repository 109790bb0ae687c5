use Rattle.std.proofs.Common.{ap, refl, ◌∙◌}
use Rattle.tx_exec_form.specs.Evaluated.{WideTrace}
use Rattle.tx_exec.specs.States.{before_of}
use Rattle.tx_parts.specs.Atop.{env_atop}
use Rattle.tx_walk.proofs.Behind.{set_behind}
use Rattle.tx_walk.proofs.layers.LayerSoFar.add_done.Goals as goal

pub returns-clause-names : goal.returns-clause-names
returns-clause-names c =
    set_behind c.args.env.now.map c.set_all.new.env.map c.pairs.result.now c.trace.result.now.writes
    c.trace.result.now.writes c.in_ok-set_all.ensures.map c.pairs.ensures refl c.trace.ensures.once.1
    ∙ ap (λ (w : WideTrace). env_atop w.writes (before_of c.args.env.now)) c.trace.ensures.is
