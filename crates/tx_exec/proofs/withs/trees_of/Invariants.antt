use Rattle.std.proofs.Common.{◌≡◌, ◌+◌, take}
use Rattle.tx_exec.specs.Settings.{sets_of, held_of, nodes_in}
use Rattle.tx_exec.proofs.withs.trees_of.Given as goal

abbrev pub invariant-loop-setting : goal.invariant-loop-setting
invariant-loop-setting g l = record {
  made : held_of l.held.items ≡ sets_of (take l.setting-index l.settings);
  counted : l.steps ≡ l.fn.steps + nodes_in (take l.setting-index l.settings);
}
