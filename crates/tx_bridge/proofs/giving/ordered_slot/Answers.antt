use Rattle.std.proofs.Common.{◌+◌, ◌∙◌, sym, refl, length, ltb-true, ltb-false}
use Rattle.std.proofs.lemmas.Option.{slice_get_read}
use Rattle.tx_bridge.proofs.Slotting.{slot_found, none_last, none_there, other_there}
use Rattle.tx_bridge.proofs.giving.ordered_slot.Goals as goal

pub returns-in-None-clause-slot : goal.returns-in-None-clause-slot
returns-in-None-clause-slot c =
    none_last c.args.path.now c.args.new.now c.args.first c.requires.order.order
    (sym c.last_number.ensures ∙ c.in-None.is)

pub returns-in-None-get-clause-slot : goal.returns-in-None-get-clause-slot
returns-in-None-get-clause-slot c =
    none_there c.args.path.now c.args.new.now c.args.first c.in-Some.n c.requires.order.order
    (sym c.last_number.ensures ∙ c.in-Some.is)
    (ltb-false (c.args.first + c.in-Some.n) (length c.args.new.now) (sym c.in-None-get.ensures.lookup.0))

pub returns-then-has_path-clause-slot : goal.returns-then-has_path-clause-slot
returns-then-has_path-clause-slot c =
    slot_found c.args.path.now c.args.new.now (c.args.first + c.in-Some.n) c.in-Some-get.bridge.now c.requires.apart
    (slice_get_read c.args.new.now (length c.args.new.now) (c.args.first + c.in-Some.n) c.in-Some-get.bridge.now refl
    (ltb-true (c.args.first + c.in-Some.n) (length c.args.new.now) (sym c.in-Some-get.ensures.lookup.0))
    c.in-Some-get.ensures.lookup.1)
    (sym c.has_path.ensures ∙ c.if-has_path.true)

pub returns-else-has_path-clause-slot : goal.returns-else-has_path-clause-slot
returns-else-has_path-clause-slot c =
    other_there c.args.path.now c.args.new.now c.args.first c.in-Some.n c.in-Some-get.bridge.now c.requires.order.order
    (sym c.last_number.ensures ∙ c.in-Some.is)
    (slice_get_read c.args.new.now (length c.args.new.now) (c.args.first + c.in-Some.n) c.in-Some-get.bridge.now refl
    (ltb-true (c.args.first + c.in-Some.n) (length c.args.new.now) (sym c.in-Some-get.ensures.lookup.0))
    c.in-Some-get.ensures.lookup.1)
    (sym c.has_path.ensures ∙ c.if-has_path.false)
