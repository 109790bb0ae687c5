use Rattle.std.proofs.Common.{◌≡◌, take}
use Rattle.tx_env.specs.Environments.{overlaid}
use Rattle.tx_env.proofs.environment.set_all.Given as goal

abbrev pub invariant-loop-name : goal.invariant-loop-name
invariant-loop-name l =
    record {
      map : l.scoped.map ≡ overlaid l.fn.scoped.map (take l.name-index l.name-items);
      scopes : l.scoped.scopes ≡ l.fn.scoped.scopes;
    }
