use Rattle.std.proofs.Common.{◌≡◌, ◌∙◌, ◌++◌, sym, ap, subst, take, drop, length, arith}
use Rattle.std.proofs.lemmas.Grind.{common_steps}
use Rattle.tx_bridge.specs.Courses.{with_arrived}
use Rattle.tx_bridge.specs.Slots.{HaveOwnPaths, AllPlaced}
use Rattle.tx_bridge.proofs.Arrived.{sound_placed}
use Rattle.tx_bridge.proofs.Received.{coming_apart, coming_placed, moved_as, as_many, as_given}
use Rattle.tx_bridge.proofs.bridges.give_over.Goals as goal

pub give_all-requires-clause-apart : goal.give_all-requires-clause-apart
give_all-requires-clause-apart c =
    let whole : take c.in_ok-new.new.len
    (c.put_moves.new.new ++ drop (length c.put_moves.new.new) c.in_ok-new.new.items)
    ≡ c.put_moves.new.new = grind (arith, common_steps) in
    subst HaveOwnPaths
    (sym (c.deref_mut-2.ensures.value ∙ whole ∙ c.in_ok-put_moves.ensures.units
    ∙ ap (with_arrived c.args.course.moves.items 0) (c.deref_mut.ensures.value ∙ c.in_ok-new.ensures)))
    (coming_apart c.args.course.moves.items c.args.units.items c.requires.units.apart)

pub give_all-requires-clause-number : goal.give_all-requires-clause-number
give_all-requires-clause-number c =
    as_many c.requires.places.0 c.requires.places.1 c.args.bridges.now.items c.deref_mut-3.result.now
    c.args.course.places.items c.deref.result.now c.requires.places.2 c.deref.ensures.value
    c.deref_mut-3.ensures.value

pub give_all-requires-clause-others : goal.give_all-requires-clause-others
give_all-requires-clause-others c =
    moved_as c.requires.places.0 c.requires.places.1 c.args.bridges.now.items c.deref_mut-3.result.now
    c.args.course.places.items c.deref.result.now c.requires.places.2 c.deref.ensures.value
    c.deref_mut-3.ensures.value

pub give_all-requires-clause-placed : goal.give_all-requires-clause-placed
give_all-requires-clause-placed c =
    subst AllPlaced (sym c.deref_mut-3.ensures.value) (sound_placed c.args.bridges.now.items c.requires.sound)

pub give_all-requires-clause-all : goal.give_all-requires-clause-all
give_all-requires-clause-all c =
    let whole : take c.in_ok-new.new.len
    (c.put_moves.new.new ++ drop (length c.put_moves.new.new) c.in_ok-new.new.items)
    ≡ c.put_moves.new.new = grind (arith, common_steps) in
    subst AllPlaced
    (sym (c.deref_mut-2.ensures.value ∙ whole ∙ c.in_ok-put_moves.ensures.units
    ∙ ap (with_arrived c.args.course.moves.items 0) (c.deref_mut.ensures.value ∙ c.in_ok-new.ensures)))
    (coming_placed c.args.course.moves.items c.args.units.items c.requires.units.placed)

pub returns-clause-given : goal.returns-clause-given
returns-clause-given c = λ ms t is.
    let whole : take c.in_ok-new.new.len
    (c.put_moves.new.new ++ drop (length c.put_moves.new.new) c.in_ok-new.new.items)
    ≡ c.put_moves.new.new = grind (arith, common_steps) in
    let now = c.deref_mut-2.ensures.value ∙ whole ∙ c.in_ok-put_moves.ensures.units
    ∙ ap (with_arrived c.args.course.moves.items 0) (c.deref_mut.ensures.value ∙ c.in_ok-new.ensures) in
    let end : take c.in_ok-new.new.len (c.give_all.new.new ++ drop (length c.give_all.new.new)
    (take c.in_ok-new.new.len (c.put_moves.new.new ++ drop (length c.put_moves.new.new) c.in_ok-new.new.items)))
    ≡ c.give_all.new.new = grind (arith, common_steps) in
    as_given ms t c.args.bridges.now.items c.deref_mut-3.result.now c.args.course.places.items c.deref.result.now is
    c.deref.ensures.value c.deref_mut-3.ensures.value c.args.course.moves.items c.args.units.items
    c.deref_mut-2.result.now _ now (end ∙ c.give_all.ensures)
