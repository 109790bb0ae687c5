use Rattle.std.proofs.Common.{◌∙◌, sym, refl, length, ltb-true}
use Rattle.std.proofs.lemmas.Option.{slice_get_read}
use Rattle.tx_bridge.proofs.Slotting.{slot_found}
use Rattle.tx_bridge.proofs.giving.path_slot.Goals as goal

pub returns-then-has_path-clause-slot : goal.returns-then-has_path-clause-slot
returns-then-has_path-clause-slot c =
    slot_found c.args.path.now c.args.new.now c.args.hint c.in-Some.bridge.now c.requires.apart
    (slice_get_read c.args.new.now (length c.args.new.now) c.args.hint c.in-Some.bridge.now refl
    (ltb-true c.args.hint (length c.args.new.now) (sym c.in-Some.ensures.lookup.0)) c.in-Some.ensures.lookup.1)
    (sym c.has_path.ensures ∙ c.if-has_path.true)
