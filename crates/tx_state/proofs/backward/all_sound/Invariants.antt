use Rattle.std.proofs.Common.{take}
use Rattle.tx_mod.specs.InTurn.{AreSoundMods}
use Rattle.tx_state.proofs.backward.all_sound.Given as goal

abbrev pub invariant-loop-m : goal.invariant-loop-m
invariant-loop-m l = AreSoundMods (take l.m-index l.mods)
