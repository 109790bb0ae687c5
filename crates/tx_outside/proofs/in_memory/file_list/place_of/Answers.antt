use Rattle.std.proofs.Common.{add-one, sym}
use Rattle.tx_outside.proofs.FileLookups.{file_of-take_more}
use Rattle.tx_outside.proofs.in_memory.file_list.place_of.Goals as goal

-- one file more that hasn't the name
pub loop-place-preserved : goal.loop-place-preserved
loop-place-preserved c =
    rw add-one (file_of-take_more c.args.name.now c.args.files.now c.loop-place.place c.index-files-place.result
    c.loop-place-test.true c.loop-place.invariant
    (rw (← c.index-files-place.is, ← c.name.ensures) (sym c.if-eq.ensures)))
