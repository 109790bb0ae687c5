use Rattle.std.proofs.Common.{ap, subst, sym}
use Rattle.tx_bridge.specs.Carrying.{mods_of}
use Rattle.tx_bridge.specs.Names.{CarryTraces, Sources}
use Rattle.tx_bridge.specs.UnitLists.{AreUnits}
use Rattle.tx_bridge.proofs.Received.{coming, coming_bare, course_places, received_sound, received_parts}
use Rattle.tx_bridge.proofs.Received.{received_strays, received_tidy, received_kept, received_stand}
use Rattle.tx_bridge.proofs.Received.{received_layers}
use Rattle.tx_bridge.proofs.Received.{behind_document, behind_other}
use Rattle.tx_bridge.proofs.Taking.{given_to_is}
use Rattle.tx_bridge.proofs.TreesSame.{carry_trees}
use Rattle.tx_bridge.proofs.bridges.Bridges.carry_along.Goals as goal

pub give_over-requires-clause-places : goal.give_over-requires-clause-places
give_over-requires-clause-places c = (
  mods_of c.args.buffer c.args.mods.now,
  c.args.before.now,
  course_places (mods_of c.args.buffer c.args.mods.now) c.args.before.now c.args.self.now.kept
      c.self.inside.bridges.items c.args.course.places.items (ap (λ b. b.kept) c.self.view_is)
      c.requires.course.places,
)

pub returns-clause-carried : goal.returns-clause-carried
unfolding CarryTraces
returns-clause-carried c =
    (given_to_is c.args.buffer c.args.mods.now c.args.before.now c.args.self.now.kept c.args.units.items
    c.self.inside.bridges.items (coming c.args.course.moves.items c.args.units.items) c.give_over.new.bridges.items
    (coming_bare c.args.course.moves.items c.args.units.items) (ap (λ b. b.kept) c.self.view_is)
    c.self.invariant.sound c.requires.units
    (c.in_ok-give_over.ensures.given (mods_of c.args.buffer c.args.mods.now) c.args.before.now
    (course_places (mods_of c.args.buffer c.args.mods.now) c.args.before.now c.args.self.now.kept
    c.self.inside.bridges.items c.args.course.places.items (ap (λ b. b.kept) c.self.view_is)
    c.requires.course.places))).entries

pub returns-clause-sources : goal.returns-clause-sources
unfolding Sources
returns-clause-sources c =
    (given_to_is c.args.buffer c.args.mods.now c.args.before.now c.args.self.now.kept c.args.units.items
    c.self.inside.bridges.items (coming c.args.course.moves.items c.args.units.items) c.give_over.new.bridges.items
    (coming_bare c.args.course.moves.items c.args.units.items) (ap (λ b. b.kept) c.self.view_is)
    c.self.invariant.sound c.requires.units
    (c.in_ok-give_over.ensures.given (mods_of c.args.buffer c.args.mods.now) c.args.before.now
    (course_places (mods_of c.args.buffer c.args.mods.now) c.args.before.now c.args.self.now.kept
    c.self.inside.bridges.items c.args.course.places.items (ap (λ b. b.kept) c.self.view_is)
    c.requires.course.places))).sources

pub returns-clause-once : goal.returns-clause-once
returns-clause-once c =
    (given_to_is c.args.buffer c.args.mods.now c.args.before.now c.args.self.now.kept c.args.units.items
    c.self.inside.bridges.items (coming c.args.course.moves.items c.args.units.items) c.give_over.new.bridges.items
    (coming_bare c.args.course.moves.items c.args.units.items) (ap (λ b. b.kept) c.self.view_is)
    c.self.invariant.sound c.requires.units
    (c.in_ok-give_over.ensures.given (mods_of c.args.buffer c.args.mods.now) c.args.before.now
    (course_places (mods_of c.args.buffer c.args.mods.now) c.args.before.now c.args.self.now.kept
    c.self.inside.bridges.items c.args.course.places.items (ap (λ b. b.kept) c.self.view_is)
    c.requires.course.places))).once

pub returns-clause-units : goal.returns-clause-units
returns-clause-units c =
    (given_to_is c.args.buffer c.args.mods.now c.args.before.now c.args.self.now.kept c.args.units.items
    c.self.inside.bridges.items (coming c.args.course.moves.items c.args.units.items) c.give_over.new.bridges.items
    (coming_bare c.args.course.moves.items c.args.units.items) (ap (λ b. b.kept) c.self.view_is)
    c.self.invariant.sound c.requires.units
    (c.in_ok-give_over.ensures.given (mods_of c.args.buffer c.args.mods.now) c.args.before.now
    (course_places (mods_of c.args.buffer c.args.mods.now) c.args.before.now c.args.self.now.kept
    c.self.inside.bridges.items c.args.course.places.items (ap (λ b. b.kept) c.self.view_is)
    c.requires.course.places))).units

pub returns-clause-parts : goal.returns-clause-parts
returns-clause-parts c =
    received_parts c.args.buffer c.args.mods.now c.args.before.now c.args.self.now.kept c.args.self.now.parts
    c.args.self.now.strays c.args.units.items c.self.inside.bridges.items c.give_over.new.bridges.items c.args.course
    (ap (λ b. b.parts) c.self.view_is) c.requires.course
    (c.in_ok-give_over.ensures.given (mods_of c.args.buffer c.args.mods.now) c.args.before.now
    (course_places (mods_of c.args.buffer c.args.mods.now) c.args.before.now c.args.self.now.kept
    c.self.inside.bridges.items c.args.course.places.items (ap (λ b. b.kept) c.self.view_is)
    c.requires.course.places))

pub returns-clause-layers : goal.returns-clause-layers
returns-clause-layers c =
    received_layers c.args.course.moves.items (mods_of c.args.buffer c.args.mods.now) c.args.before.now
    c.args.self.now.layers c.args.units.items c.self.inside.bridges.items c.give_over.new.bridges.items
    (ap (λ b. b.layers) c.self.view_is)
    (c.in_ok-give_over.ensures.given (mods_of c.args.buffer c.args.mods.now) c.args.before.now
    (course_places (mods_of c.args.buffer c.args.mods.now) c.args.before.now c.args.self.now.kept
    c.self.inside.bridges.items c.args.course.places.items (ap (λ b. b.kept) c.self.view_is)
    c.requires.course.places))

pub returns-clause-same_trees : goal.returns-clause-same_trees
returns-clause-same_trees c =
    carry_trees c.args.buffer c.args.mods.now c.args.before.now c.args.self.now.kept c.args.units.items
    c.self.inside.bridges.items (coming c.args.course.moves.items c.args.units.items) c.give_over.new.bridges.items
    (coming_bare c.args.course.moves.items c.args.units.items) (ap (λ b. b.kept) c.self.view_is)
    c.self.invariant.sound c.requires.applies
    (λ q. c.carried_list_law.ensures.same c.args.mods.now c.args.before.now q) c.requires.units c.requires.old
    c.requires.new c.requires.same
    (c.in_ok-give_over.ensures.given (mods_of c.args.buffer c.args.mods.now) c.args.before.now
    (course_places (mods_of c.args.buffer c.args.mods.now) c.args.before.now c.args.self.now.kept
    c.self.inside.bridges.items c.args.course.places.items (ap (λ b. b.kept) c.self.view_is)
    c.requires.course.places))

pub returns-clause-strays : goal.returns-clause-strays
returns-clause-strays c =
    received_kept c.args.buffer c.args.mods.now c.args.before.now c.args.self.now.kept c.args.self.now.parts
    c.args.self.now.strays c.args.units.items c.self.inside.bridges.items c.self.inside.settled
    c.self.inside.strays.items c.args.course (ap (λ b. b.kept) c.self.view_is) (ap (λ b. b.parts) c.self.view_is)
    (ap (λ b. b.strays) c.self.view_is) c.self.invariant c.requires.applies
    (λ q. c.carried_list_law.ensures.same c.args.mods.now c.args.before.now q) c.carried_law.ensures c.requires.old
    c.requires.strays c.requires.course
    c.give_over.new.strays.items c.in_ok-give_over.ensures.strays

pub returns-clause-stand : goal.returns-clause-stand
returns-clause-stand c = λ e u made.
    received_stand c.args.buffer c.args.mods.now c.args.before.now c.args.self.now.kept c.args.self.now.parts
    c.args.self.now.strays c.args.units.items c.self.inside.bridges.items c.self.inside.settled
    c.self.inside.strays.items c.args.course (ap (λ b. b.kept) c.self.view_is) (ap (λ b. b.parts) c.self.view_is)
    (ap (λ b. b.strays) c.self.view_is) c.self.invariant c.requires.applies
    (λ q. c.carried_list_law.ensures.same c.args.mods.now c.args.before.now q) c.carried_law.ensures c.requires.old
    c.requires.strays c.requires.course
    c.give_over.new.strays.items c.in_ok-give_over.ensures.strays u
    (behind_document c.args.buffer c.args.mods.now c.args.before.now c.args.self.now.strays u e made)

pub returns-clause-stay : goal.returns-clause-stay
returns-clause-stay c = λ e u stand.
    received_stand c.args.buffer c.args.mods.now c.args.before.now c.args.self.now.kept c.args.self.now.parts
    c.args.self.now.strays c.args.units.items c.self.inside.bridges.items c.self.inside.settled
    c.self.inside.strays.items c.args.course (ap (λ b. b.kept) c.self.view_is) (ap (λ b. b.parts) c.self.view_is)
    (ap (λ b. b.strays) c.self.view_is) c.self.invariant c.requires.applies
    (λ q. c.carried_list_law.ensures.same c.args.mods.now c.args.before.now q) c.carried_law.ensures c.requires.old
    c.requires.strays c.requires.course
    c.give_over.new.strays.items c.in_ok-give_over.ensures.strays u
    (behind_other c.args.buffer c.args.mods.now c.args.before.now c.args.self.now.strays u e stand)

pub invariant_of-self-2 : goal.invariant_of-self-2
invariant_of-self-2 c =
    let units = (given_to_is c.args.buffer c.args.mods.now c.args.before.now c.args.self.now.kept c.args.units.items
    c.self.inside.bridges.items (coming c.args.course.moves.items c.args.units.items) c.give_over.new.bridges.items
    (coming_bare c.args.course.moves.items c.args.units.items) (ap (λ b. b.kept) c.self.view_is)
    c.self.invariant.sound c.requires.units
    (c.in_ok-give_over.ensures.given (mods_of c.args.buffer c.args.mods.now) c.args.before.now
    (course_places (mods_of c.args.buffer c.args.mods.now) c.args.before.now c.args.self.now.kept
    c.self.inside.bridges.items c.args.course.places.items (ap (λ b. b.kept) c.self.view_is)
    c.requires.course.places))).units in
    record {
      sound =
          received_sound c.args.buffer c.args.mods.now c.args.before.now c.args.self.now.kept c.args.self.now.parts
          c.args.self.now.strays c.args.units.items c.self.inside.bridges.items c.self.inside.settled
          c.self.inside.strays.items c.args.course (ap (λ b. b.kept) c.self.view_is)
          (ap (λ b. b.parts) c.self.view_is)
          (ap (λ b. b.strays) c.self.view_is) c.self.invariant c.requires.applies
          (λ q. c.carried_list_law.ensures.same c.args.mods.now c.args.before.now q) c.carried_law.ensures
          c.requires.old
          c.requires.strays c.requires.course
          c.give_over.new.bridges.items c.requires.units c.requires.new c.requires.same
          (c.in_ok-give_over.ensures.given (mods_of c.args.buffer c.args.mods.now) c.args.before.now
          (course_places (mods_of c.args.buffer c.args.mods.now) c.args.before.now c.args.self.now.kept
          c.self.inside.bridges.items c.args.course.places.items (ap (λ b. b.kept) c.self.view_is)
          c.requires.course.places));
      units = subst AreUnits (sym units) c.requires.units;
      settled = λ e. cc;
      strays =
          received_strays c.args.buffer c.args.mods.now c.args.before.now c.args.self.now.kept c.args.self.now.parts
          c.args.self.now.strays c.args.units.items c.self.inside.bridges.items c.self.inside.settled
          c.self.inside.strays.items c.args.course (ap (λ b. b.kept) c.self.view_is)
          (ap (λ b. b.parts) c.self.view_is)
          (ap (λ b. b.strays) c.self.view_is) c.self.invariant c.requires.applies
          (λ q. c.carried_list_law.ensures.same c.args.mods.now c.args.before.now q) c.carried_law.ensures
          c.requires.old
          c.requires.strays c.requires.course
          c.give_over.new.strays.items c.in_ok-give_over.ensures.strays _ units;
      tidy =
          received_tidy c.args.buffer c.args.mods.now c.args.before.now c.args.self.now.kept c.args.self.now.parts
          c.args.self.now.strays c.args.units.items c.self.inside.bridges.items c.self.inside.settled
          c.self.inside.strays.items c.args.course (ap (λ b. b.kept) c.self.view_is)
          (ap (λ b. b.parts) c.self.view_is)
          (ap (λ b. b.strays) c.self.view_is) c.self.invariant c.requires.applies
          (λ q. c.carried_list_law.ensures.same c.args.mods.now c.args.before.now q) c.carried_law.ensures
          c.requires.old
          c.requires.strays c.requires.course
          c.give_over.new.strays.items c.in_ok-give_over.ensures.strays;
    }
