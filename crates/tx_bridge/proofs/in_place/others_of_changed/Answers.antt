use Rattle.std.proofs.Common.{◌≡◌, length, refl}
use Rattle.std.proofs.lemmas.Option.{slice_get_read}
use Rattle.std.proofs.lemmas.Result.{IfOk-weaker}
use Rattle.std.specs.Prelude.{Some, slice_get}
use Rattle.tx_units.specs.declared.kinds.Unit.{Unit as DocUnit}
use Rattle.tx_bridge.specs.declared.bridge.Bridge.{Bridge}
use Rattle.tx_bridge.specs.HeldParts.{kept_parts}
use Rattle.tx_bridge.specs.MovedParts.{AreMovedParts}
use Rattle.tx_bridge.proofs.ChangedParts.{stands_for, within_for, never_bare, moved_there}
use Rattle.tx_bridge.proofs.in_place.others_of_changed.Goals as goal

pub unreachable-requires : goal.unreachable-requires
unreachable-requires g c =
    never_bare c.args.mods.now c.args.bridges.now c.args.changed c.index-bridges-changed.result
    (slice_get_read c.args.bridges.now (length c.args.bridges.now) c.args.changed c.index-bridges-changed.result refl
    c.requires.there c.index-bridges-changed.is)
    c.requires.changed c.in-None.is

pub others_behind-requires-clause-within : goal.others_behind-requires-clause-within
others_behind-requires-clause-within g c =
    within_for c.args.mods.now c.args.bridges.now c.args.changed c.index-bridges-changed.result
    (slice_get_read c.args.bridges.now (length c.args.bridges.now) c.args.changed c.index-bridges-changed.result refl
    c.requires.there c.index-bridges-changed.is)
    c.requires.changed c.in-Some.path c.in-Some.is

pub others_behind-requires-clause-stands : goal.others_behind-requires-clause-stands
others_behind-requires-clause-stands g c =
    stands_for c.args.before.now c.args.bridges.now c.requires.stand c.requires.sound c.args.changed
    c.index-bridges-changed.result
    (slice_get_read c.args.bridges.now (length c.args.bridges.now) c.args.changed c.index-bridges-changed.result refl
    c.requires.there c.index-bridges-changed.is)
    c.in-Some.path c.in-Some.is c.all.result.now c.all.ensures

pub returns-clause-moved : goal.returns-clause-moved
returns-clause-moved g c =
    let at = slice_get_read c.args.bridges.now (length c.args.bridges.now) c.args.changed
    c.index-bridges-changed.result refl c.requires.there c.index-bridges-changed.is in
    IfOk-weaker c.others_behind.result
    (λ os. (u : DocUnit) → u.path ≡ Some c.in-Some.path
    → AreMovedParts c.args.mods.now c.args.before.now u (kept_parts c.all.result.now) os.items)
    (λ os. (b : Bridge) → slice_get c.args.bridges.now c.args.changed ≡ Some b
    → AreMovedParts c.args.mods.now c.args.before.now b.unit (kept_parts b.parts) os.items)
    (λ os h. moved_there c.args.mods.now c.args.before.now c.args.bridges.now c.args.changed
    c.index-bridges-changed.result at c.in-Some.path c.in-Some.is c.all.result.now c.all.ensures os.items h)
    c.others_behind.ensures.moved
