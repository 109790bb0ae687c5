use Rattle.std.proofs.Common.{subst, ap, ◌∙◌, arith}
use Rattle.std.proofs.lemmas.List.{take_all, drop_all}
use Rattle.tx_mod.specs.InTurn.{changed_in_turn, AreSoundMods}
use Rattle.tx_state.proofs.changing.change_in_turn.Goals as goal

pub returns-clause-undone : goal.returns-clause-undone
returns-clause-undone g c =
    c.list_inverse_law.ensures.undone c.args.mods.now c.args.t.now c.loop-m.now.tree
    (subst AreSoundMods (take_all c.loop-m.m-index c.args.mods.now (omega arith)) c.loop-m.invariant.sound)
    c.size-size.ensures.well_formed c.size-size.ensures.within
    (c.loop-m.invariant.tree
    ∙ ap (λ ms. changed_in_turn ms c.loop-m.now.tree) (drop_all c.loop-m.m-index c.args.mods.now (omega arith)))
