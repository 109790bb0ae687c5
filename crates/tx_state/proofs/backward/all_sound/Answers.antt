use Rattle.std.proofs.Common.{subst, arith}
use Rattle.std.proofs.lemmas.List.{take_all}
use Rattle.tx_mod.specs.InTurn.{AreSoundMods}
use Rattle.tx_state.proofs.backward.all_sound.Goals as goal

pub returns : goal.returns
returns c =
    subst AreSoundMods (take_all c.loop-m.m-index c.args.mods.now (omega arith)) c.loop-m.invariant
