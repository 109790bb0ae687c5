use Rattle.std.proofs.Common.{arith, ◌+◌}
use Rattle.tx_walk.proofs.LayerSettings.{sizes_front, sizes_next}
use Rattle.tx_walk.proofs.layers.cost_within.Goals as goal

pub returns-then-cost-left : goal.returns-then-cost-left
returns-then-cost-left c =
    omega (
      arith,
      sizes_next c.args.settings.now c.loop-setting.setting-index c.setting-item.result c.loop-setting-test.true
          c.setting-item.is c.args.base c.loop-setting.cost c.size-cost.result c.loop-setting.invariant.so_far
          c.size-cost.ensures.value,
      sizes_front (c.loop-setting.setting-index + 1) c.args.settings.now,
      c.if-cost-left.true,
    )

pub loop-setting-preserved : goal.loop-setting-preserved
loop-setting-preserved c = record {
  so_far = sizes_next c.args.settings.now c.loop-setting.setting-index c.setting-item.result
      c.loop-setting-test.true c.setting-item.is c.args.base c.loop-setting.cost c.size-cost.result
      c.loop-setting.invariant.so_far c.size-cost.ensures.value;
  low = omega (arith, c.if-cost-left.false);
}
