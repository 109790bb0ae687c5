use Rattle.std.proofs.Common.{◌∙◌}
use Rattle.tx_replay.proofs.Stepping.{state_next}
use Rattle.tx_replay.proofs.progress.Progress.set_all.Goals as goal

pub loop-name-preserved : goal.loop-name-preserved
loop-name-preserved c =
    record {
      state = state_next c.args.self.now.state c.loop-name.self.state c.set.new.self.state c.args.pairs.now
          c.loop-name.name-index c.loop-name-item.result c.loop-name-test.true c.loop-name-item.is
          c.loop-name.invariant.state c.in_ok-set.ensures.state;
      scopes = c.in_ok-set.ensures.scopes ∙ c.loop-name.invariant.scopes;
    }
