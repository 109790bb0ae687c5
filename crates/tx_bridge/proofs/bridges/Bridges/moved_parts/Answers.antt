use Rattle.std.proofs.Common.{◌≡◌, ◌<◌, length, sym, ap, subst}
use Rattle.std.proofs.lemmas.Result.{IfOk-weaker}
use Rattle.std.specs.Prelude.{Some, slice_get}
use Rattle.tx_bridge.specs.declared.bridge.Bridge.{Bridge}
use Rattle.tx_bridge.specs.HeldParts.{kept_parts}
use Rattle.tx_bridge.specs.InPlace.{IsOneChanged}
use Rattle.tx_bridge.specs.MovedParts.{AreMovedParts}
use Rattle.tx_bridge.proofs.Changing.{is_within}
use Rattle.tx_bridge.proofs.ChangedParts.{AreMovedAt, bodies_read, bodies_stand, moved_told}
use Rattle.tx_bridge.proofs.bridges.Bridges.moved_parts.Goals as goal

pub others_of_changed-requires-clause-there : goal.others_of_changed-requires-clause-there
others_of_changed-requires-clause-there g c =
    subst (λ n. c.args.changed < n) (ap length (sym c.deref.ensures.value))
    (is_within c.args.changed c.args.mods.now c.self.inside.bridges.items c.args.self.now.kept
    (ap (λ b. b.kept) c.self.view_is) c.requires.changed)

pub others_of_changed-requires-clause-changed : goal.others_of_changed-requires-clause-changed
others_of_changed-requires-clause-changed g c =
    subst (IsOneChanged c.args.changed 0 c.args.mods.now)
    (bodies_read c.self.inside.bridges.items c.deref.result.now c.args.self.now.kept
    c.deref.ensures.value (ap (λ b. b.kept) c.self.view_is)) c.requires.changed

pub others_of_changed-requires-clause-stand : goal.others_of_changed-requires-clause-stand
others_of_changed-requires-clause-stand g c =
    bodies_stand c.args.before.now c.self.inside.bridges.items c.deref.result.now c.args.self.now.kept
    c.deref.ensures.value (ap (λ b. b.kept) c.self.view_is) c.requires.old

pub returns-clause-moved : goal.returns-clause-moved
returns-clause-moved g c =
    IfOk-weaker c.others_of_changed.result
    (λ os. (b : Bridge) → slice_get c.deref.result.now c.args.changed ≡ Some b
    → AreMovedParts c.args.mods.now c.args.before.now b.unit (kept_parts b.parts) os.items)
    (λ os. AreMovedAt c.args.changed c.args.mods.now c.args.before.now c.args.self.now.kept c.args.self.now.parts
    os.items)
    (λ os h. moved_told c.args.changed c.args.mods.now c.args.before.now os.items c.self.inside.bridges.items
    c.args.self.now.kept c.args.self.now.parts (ap (λ b. b.kept) c.self.view_is) (ap (λ b. b.parts) c.self.view_is)
    c.deref.result.now c.deref.ensures.value h)
    c.others_of_changed.ensures.moved
