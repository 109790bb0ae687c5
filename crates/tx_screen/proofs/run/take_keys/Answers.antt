use Rattle.std.proofs.Common.{◌++◌, [], refl}
use Rattle.tx_screen.proofs.Executing.{told_both}
use Rattle.tx_screen.proofs.run.take_keys.Goals as goal

pub loop-key-init : goal.loop-key-init
loop-key-init g c = ([], refl)

pub loop-key-preserved : goal.loop-key-preserved
loop-key-preserved g c =
    let before = c.loop-key.invariant in
    let told = c.take_key.ensures.told in
    (before.0 ++ told.0, told_both before.0 told.0 _ _ _ before.1 told.1)

pub returns : goal.returns
returns g c = record { told = c.loop-key.invariant }
