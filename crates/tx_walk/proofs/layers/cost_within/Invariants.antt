use Rattle.std.proofs.Common.{◌≡◌, ◌+◌, ◌≤◌, take}
use Rattle.tx_walk.specs.Layers.{pairs_of_settings, set_sizes}
use Rattle.tx_walk.proofs.layers.cost_within.Given as goal

abbrev pub invariant-loop-setting : goal.invariant-loop-setting
invariant-loop-setting l = record {
  so_far : l.cost ≡ l.base + set_sizes (pairs_of_settings (take l.setting-index l.settings));
  low : l.cost ≤ l.left;
}
