use Rattle.std.proofs.Common.{◌∙◌, sym, refl, length, ltb-true}
use Rattle.std.proofs.lemmas.Option.{slice_get_read}
use Rattle.tx_bridge.proofs.Slotting.{slot_same, slot_other}
use Rattle.tx_bridge.proofs.giving.same_slot.Goals as goal

pub returns-then-same_unit-clause-slot : goal.returns-then-same_unit-clause-slot
returns-then-same_unit-clause-slot c =
    slot_same c.args.new.now c.args.i c.args.unit.now c.in-Some.bridge.now c.requires.none c.requires.placed
    c.requires.all
    (slice_get_read c.args.new.now (length c.args.new.now) c.args.i c.in-Some.bridge.now refl
    (ltb-true c.args.i (length c.args.new.now) (sym c.in-Some.ensures.lookup.0)) c.in-Some.ensures.lookup.1)
    (sym c.same_unit.ensures ∙ c.if-same_unit.true)

pub returns-else-same_unit : goal.returns-else-same_unit
returns-else-same_unit c = record {
  slot =
      slot_other c.args.new.now c.args.i c.args.unit.now c.in-Some.bridge.now
      (slice_get_read c.args.new.now (length c.args.new.now) c.args.i c.in-Some.bridge.now refl
      (ltb-true c.args.i (length c.args.new.now) (sym c.in-Some.ensures.lookup.0)) c.in-Some.ensures.lookup.1)
      (sym c.same_unit.ensures ∙ c.if-same_unit.false);
  within = tt;
}
