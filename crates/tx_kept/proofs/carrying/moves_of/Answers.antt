use Rattle.tx_kept.proofs.Moving.{noted_down}
use Rattle.tx_kept.proofs.carrying.moves_of.Goals as goal

pub loop-done-preserved : goal.loop-done-preserved
loop-done-preserved g c =
    noted_down c.args.mods.now c.args.before.now c.args.entries.now c.loop-done.done c.index-entries-at.result
    c.loop-done.moves.items c.note.new.moves.items c.loop-done-test.true c.index-entries-at.is c.loop-done.invariant
    c.in_ok-note.ensures
