use Rattle.std.proofs.Common.{ap, ◌∙◌}
use Rattle.tx_env.specs.Environments.{overlaid}
use Rattle.tx_replay.proofs.Paying.{replayed}
use Rattle.tx_replay.proofs.Stepping.{owning}
use Rattle.tx_replay.proofs.progress.Progress.replay_allowed.Goals as goal

pub returns-clause-state : goal.returns-clause-state
returns-clause-state c =
    let s1 = c.add_looks.new.self.state in
    replayed c.args.levels c.args.trace.now c.args.self.now.state s1 c.set_all.new.self.state c.take.new.self.state
    c.lower.new.self.state c.requires.once c.in_ok-add_looks.ensures.state
    (c.in_ok-set_all.ensures.state ∙ ap (λ ws. owning s1 (overlaid s1.own ws)) c.pairs.ensures)
    c.take.ensures.state c.lower.ensures.state
