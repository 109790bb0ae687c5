use Rattle.std.proofs.Common.{rules, refl, ap, arith, Some}
use Rattle.tx_exec.proofs.SettingLoops.{tree_next, node_next}
use Rattle.tx_exec.proofs.withs.trees_of.Goals as goal

pub loop-setting-preserved : goal.loop-setting-preserved
loop-setting-preserved g c =
    record {
      made = tree_next _ _ _ _ _ _ c.loop-setting-test.true c.setting-item.is c.loop-setting.invariant.made
          c.in_ok-push.ensures.items c.in_ok-name.ensures (ap (λ x. Some x) c.in_ok-tree.ensures.ok);
      counted = node_next _ _ _ _ _ _ c.loop-setting-test.true c.setting-item.is c.loop-setting.invariant.counted
          c.in_ok-tree.ensures.counted;
    }
