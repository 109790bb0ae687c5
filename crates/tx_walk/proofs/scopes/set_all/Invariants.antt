use Rattle.std.proofs.Common.{◌≡◌, take}
use Rattle.tx_env.specs.Environments.{overlaid}
use Rattle.tx_walk.proofs.scopes.set_all.Given as goal

abbrev pub invariant-loop-name : goal.invariant-loop-name
invariant-loop-name l =
    record {
      map : l.env.map ≡ overlaid l.fn.env.map (take l.name-index l.pairs);
      scopes : l.env.scopes ≡ l.fn.env.scopes;
    }
