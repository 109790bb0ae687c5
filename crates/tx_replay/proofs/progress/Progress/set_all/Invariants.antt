use Rattle.std.proofs.Common.{◌≡◌, take}
use Rattle.tx_env.specs.Environments.{overlaid}
use Rattle.tx_replay.proofs.progress.Progress.set_all.Given as goal

abbrev pub invariant-loop-name : goal.invariant-loop-name
invariant-loop-name l =
    record {
      state : l.self.state ≡
          record l.fn.self.state { own = overlaid l.fn.self.state.own (take l.name-index l.pairs) };
      scopes : l.self.scopes ≡ l.fn.self.scopes;
    }
