use Rattle.std.proofs.Common.{rules}
use Rattle.tx_walk.specs.LayerTraces.{holds_in}
use Rattle.tx_walk.proofs.LayerSettings.{pairs_next, nodes_next, held_next}
use Rattle.tx_walk.proofs.Spending.{rise_both}
use Rattle.tx_walk.proofs.tree_settings.pairs_to_set.Goals as goal

pub loop-setting-preserved : goal.loop-setting-preserved
loop-setting-preserved g c = record {
  so_far = pairs_next c.args.settings.now c.loop-setting.setting-index c.setting-item.result c.loop-setting-test.true
      c.setting-item.is c.loop-setting.pairs.items c.push.new.self.items c.in_ok-pair_to_set.field-0
      c.loop-setting.invariant.so_far c.in_ok-pair_to_set.ensures.pair (search rules);
  count = nodes_next c.args.settings.now c.loop-setting.setting-index c.setting-item.result c.loop-setting-test.true
      c.setting-item.is c.args.steps.now c.loop-setting.steps c.pair_to_set.new.steps c.loop-setting.invariant.count
      c.in_ok-pair_to_set.ensures.counted;
  spent = rise_both c.args.steps.now c.args.progress.now.spent c.loop-setting.steps c.loop-setting.progress.spent
      c.pair_to_set.new.steps c.pair_to_set.new.progress.spent c.loop-setting.invariant.spent
      c.in_ok-pair_to_set.ensures.spent;
  more = λ t e h. c.in_ok-pair_to_set.ensures.more t e (c.loop-setting.invariant.more t e h);
  held = held_next c.args.settings.now c.loop-setting.setting-index c.setting-item.result c.loop-setting-test.true
      c.setting-item.is (holds_in c.loop-setting.progress.layers.items)
      (holds_in c.pair_to_set.new.progress.layers.items) c.in_ok-pair_to_set.ensures.more
      c.loop-setting.invariant.held c.in_ok-pair_to_set.ensures.held;
}
