use Rattle.std.proofs.Common.{◌≡◌, arith}
use Rattle.tx_bridge.proofs.Changing.{one_of}
use Rattle.tx_bridge.proofs.in_place.one_changed.Goals as goal

pub returns : goal.returns
returns c =
    let document : c.args.buffer ≡ 0 = grind (arith, c.if-buffer-ne0.false) in
    one_of c.args.buffer c.args.mods.now c.args.bridges.now c.changed_unit.result document c.changed_unit.ensures
