use Rattle.std.proofs.Common.{◌∙◌, sym, ap, subst, List}
use Rattle.std.specs.Prelude.{MatchOption}
use Rattle.tx_units.specs.declared.kinds.Unit.{Unit as DocUnit}
use Rattle.tx_bridge.specs.Entries.{units_of}
use Rattle.tx_bridge.specs.InPlace.{IsOneChanged, NoneChanged}
use Rattle.tx_bridge.specs.Slots.{bodies_of}
use Rattle.tx_bridge.proofs.Arrived.{units_bodies}
use Rattle.tx_bridge.proofs.bridges.Bridges.one_changed.Goals as goal

pub returns : goal.returns
returns c =
    let P : List DocUnit → Type 0 = λ us. MatchOption c.one_changed.result
    (NoneChanged c.args.buffer c.args.mods.now us) (λ i. IsOneChanged i c.args.buffer c.args.mods.now us) in
    subst P
    (ap bodies_of c.deref.ensures.value ∙ sym (units_bodies c.self.inside.bridges.items)
    ∙ ap (λ b. units_of b.kept) c.self.view_is) c.one_changed.ensures
