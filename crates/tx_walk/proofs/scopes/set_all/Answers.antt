use Rattle.std.proofs.Common.{◌∙◌}
use Rattle.tx_env.proofs.Overlays.{set_next}
use Rattle.tx_walk.proofs.scopes.set_all.Goals as goal

pub loop-name-preserved : goal.loop-name-preserved
loop-name-preserved c =
    record {
      map = set_next _ _ _ _ _ _ _ _ c.loop-name-test.true c.loop-name-item.is c.loop-name.invariant.map
          c.in_ok-set.ensures.map c.in_ok-copy.ensures c.in_ok-share.ensures;
      scopes = c.in_ok-set.ensures.scopes ∙ c.loop-name.invariant.scopes;
    }
