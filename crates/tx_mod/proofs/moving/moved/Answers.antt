use Rattle.std.proofs.Common.{◌≡◌, Ok, Err, Result, sym, subst}
use Rattle.std.specs.Prelude.{IfOk}
use Rattle.tx_tree.specs.declared.places.Place.{Place}
use Rattle.tx_tree.specs.Places.{IsPlace}
use Rattle.tx_tree.specs.WideTree.{WideTree}
use Rattle.tx_mod.proofs.Standing.{stays_place}
use Rattle.tx_mod.proofs.moving.moved.Goals as goal

valid_if : {E : Type 0} (u : WideTree) (w : Place) (r : Result Place E) → IfOk r (λ at. at ≡ w)
    → IsPlace u w.path w.offset → IfOk r (λ at. IsPlace u at.path at.offset)
valid_if u w (Ok at) e h = subst (λ z. IsPlace u z.path z.offset) (sym e) h
valid_if u w (Err cause) e h = tt

pub returns-clause-valid : goal.returns-clause-valid
returns-clause-valid c =
    λ u e. valid_if u _ _ c.place_after.ensures
    (stays_place c.args.m.now c.args.t.now c.args.place.now u c.sound.ensures c.size-size.ensures.well_formed e
    c.requires.valid)
