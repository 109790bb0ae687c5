use Rattle.std.proofs.Common.{◌≡◌, take}
use Rattle.tx_mod.proofs.list.ModList.copy.Given as goal

abbrev pub invariant-loop-m : goal.invariant-loop-m
invariant-loop-m l = l.mods.items ≡ take l.m-index l.m-items
