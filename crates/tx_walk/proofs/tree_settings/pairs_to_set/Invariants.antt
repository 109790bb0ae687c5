use Rattle.std.proofs.Common.{◌≡◌, ◌+◌, take}
use Rattle.tx_parts.specs.LayerCosts.{HoldsMore}
use Rattle.tx_walk.specs.LayerTraces.{holds_in, AllHeldBy}
use Rattle.tx_walk.specs.Layers.{pairs_of_settings, new_nodes}
use Rattle.tx_walk.specs.Spending.{RisesAlike}
use Rattle.tx_walk.proofs.tree_settings.pairs_to_set.Given as goal

abbrev pub invariant-loop-setting : goal.invariant-loop-setting
invariant-loop-setting g l = record {
  so_far : l.pairs.items ≡ pairs_of_settings (take l.setting-index l.settings);
  count : l.steps ≡ l.fn.steps + new_nodes (take l.setting-index l.settings);
  spent : RisesAlike l.fn.steps l.fn.progress.spent l.steps l.progress.spent;
  more : HoldsMore (holds_in l.fn.progress.layers.items) (holds_in l.progress.layers.items);
  held : AllHeldBy (holds_in l.progress.layers.items) (take l.setting-index l.settings);
}
