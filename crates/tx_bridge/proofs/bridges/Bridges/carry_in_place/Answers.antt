use Rattle.std.proofs.Common.{◌≡◌, ◌∙◌, ◌++◌, ◌<◌, length, take, drop, sym, ap, subst, arith}
use Rattle.std.proofs.lemmas.Grind.{common_steps}
use Rattle.std.specs.Prelude.{slice_get}
use Rattle.tx_units.specs.Units.{units_with}
use Rattle.tx_bridge.specs.Entries.{units_of}
use Rattle.tx_bridge.specs.Names.{CarryTraces, CarryWithin, CarryParts, PartMoves, Sources, StraysBeside}
use Rattle.tx_bridge.specs.Others.{put_from, done_parts_of}
use Rattle.tx_bridge.specs.Sound.{entries_of, stored_parts_in, layers_in}
use Rattle.tx_bridge.specs.Strays.{AreStrays, AreTidy, StandAside, is_beside, strays_in, kept_strays}
use Rattle.tx_bridge.proofs.Arrived.{parts_hold_all}
use Rattle.tx_bridge.proofs.CarriedInPlace.{many_parts, parts_in_place, strays_in_place}
use Rattle.tx_bridge.proofs.Aside.{strays_seen, are_beside, beside_seen, tidy_beside, stay_beside, stand_beside}
use Rattle.tx_bridge.proofs.Changing.{in_place, is_within, changed_right, layers_changed}
use Rattle.tx_bridge.proofs.ChangedParts.{moved_hold, parts_moved, now_is}
use Rattle.tx_bridge.proofs.bridges.Bridges.carry_in_place.Goals as goal
use Rattle.tx_bridge.proofs.bridges.Bridges.carry_in_place.Goals.{then-self, else-self}

pub change_one-silent-requires : goal.change_one-silent-requires
change_one-silent-requires c =
    subst (λ n. c.args.changed < n) (ap length (sym c.deref_mut.ensures.value))
    (is_within c.args.changed c.args.mods.now c.self.inside.bridges.items c.args.self.now.kept
    (ap (λ b. b.kept) c.self.view_is) c.requires.changed)

pub invariant_of-self : goal.invariant_of-self
invariant_of-self c =
    let whole : take c.self.inside.bridges.len (c.change_one-silent.new.bridges
    ++ drop (length c.change_one-silent.new.bridges) c.self.inside.bridges.items) ≡ c.change_one-silent.new.bridges =
    grind (arith, common_steps) in
    let now = whole ∙ now_is c.args.changed c.args.tree c.args.moved.items c.self.inside.bridges.items _
    c.change_one-silent.new.bridges c.deref_mut.ensures.value c.change_one-silent.ensures.changed in
    changed_right c.args.changed c.args.tree
    (put_from 0 c.args.moved.items (done_parts_of c.args.changed c.self.inside.bridges.items))
    c.self.inside.bridges.items _ c.self.inside.settled c.if-self.self c.self.inside.strays.items
    c.keep_beside.new.strays.items now
    (moved_hold c.args.changed c.args.mods.now c.args.before.now c.args.moved.items c.self.inside.bridges.items
    c.args.self.now.kept c.args.self.now.parts (ap (λ b. b.kept) c.self.view_is) (ap (λ b. b.parts) c.self.view_is)
    c.requires.moved c.carried_list_law.ensures.same c.carried_law.ensures c.args.tree c.requires.applies
    c.self.invariant.sound c.requires.changed c.requires.old c.requires.new)
    c.self.invariant
    (λ e. elim c.if-self.branch [
      | then-self w ↦ (
        w.if-self.true,
        λ b at. c.change_one-silent.ensures.silent (sym w.self-is ∙ e) b
            (ap (λ bs. slice_get bs c.args.changed) c.deref_mut.ensures.value ∙ at),
      )
      | else-self w ↦ cc
    ])
    (λ h. subst (AreStrays (units_with c.args.changed c.args.tree (units_of (entries_of c.self.inside.bridges.items))))
    (sym (ap strays_in c.keep_beside.ensures
    ∙ beside_seen c.index.result.now.unit.path c.self.inside.strays.items))
    (are_beside c.args.changed c.args.tree (units_of (entries_of c.self.inside.bridges.items))
    (λ s. is_beside c.index.result.now.unit.path s.kept.path) (strays_in c.self.inside.strays.items) h))
    (λ h. subst AreTidy (sym c.keep_beside.ensures)
    (tidy_beside c.index.result.now.unit.path c.self.inside.strays.items h))

pub returns-clause-beside : goal.returns-clause-beside
unfolding StraysBeside
returns-clause-beside c =
    stay_beside c.args.changed c.args.mods.now c.self.inside.bridges.items c.args.self.now.kept
    c.self.inside.strays.items c.keep_beside.new.strays.items c.args.self.now.strays c.index.result.now
    (ap (λ b. b.kept) c.self.view_is) (ap (λ b. b.strays) c.self.view_is) c.requires.changed c.index.ensures
    c.keep_beside.ensures

pub returns-clause-stand : goal.returns-clause-stand
returns-clause-stand c = λ u made.
    subst (StandAside u)
    (sym (stay_beside c.args.changed c.args.mods.now c.self.inside.bridges.items c.args.self.now.kept
    c.self.inside.strays.items c.keep_beside.new.strays.items c.args.self.now.strays c.index.result.now
    (ap (λ b. b.kept) c.self.view_is) (ap (λ b. b.strays) c.self.view_is) c.requires.changed c.index.ensures
    c.keep_beside.ensures))
    (stand_beside c.args.mods.now c.args.before.now u (units_of c.args.self.now.kept) c.args.changed
    c.requires.changed made (λ q. c.carried_list_law.ensures.same c.args.mods.now c.args.before.now q)
    c.args.self.now.strays c.requires.strays
    (strays_seen c.self.inside.bridges.items c.args.self.now.kept c.self.inside.strays.items c.args.self.now.strays
    (ap (λ b. b.kept) c.self.view_is) (ap (λ b. b.strays) c.self.view_is) c.self.invariant.strays).outside)

pub returns-clause-carried : goal.returns-clause-carried
unfolding CarryTraces
returns-clause-carried c =
    let whole : take c.self.inside.bridges.len (c.change_one-silent.new.bridges
    ++ drop (length c.change_one-silent.new.bridges) c.self.inside.bridges.items) ≡ c.change_one-silent.new.bridges =
    grind (arith, common_steps) in
    let now = whole ∙ now_is c.args.changed c.args.tree c.args.moved.items c.self.inside.bridges.items _
    c.change_one-silent.new.bridges c.deref_mut.ensures.value c.change_one-silent.ensures.changed in
    (in_place c.args.changed c.args.mods.now c.args.before.now c.args.tree
    (put_from 0 c.args.moved.items (done_parts_of c.args.changed c.self.inside.bridges.items))
    c.self.inside.bridges.items c.requires.applies c.self.invariant.sound c.args.self.now.kept _
    (ap (λ b. b.kept) c.self.view_is) c.requires.units c.requires.changed now).entries

pub returns-clause-within : goal.returns-clause-within
unfolding CarryWithin
returns-clause-within c =
    let whole : take c.self.inside.bridges.len (c.change_one-silent.new.bridges
    ++ drop (length c.change_one-silent.new.bridges) c.self.inside.bridges.items) ≡ c.change_one-silent.new.bridges =
    grind (arith, common_steps) in
    let now = whole ∙ now_is c.args.changed c.args.tree c.args.moved.items c.self.inside.bridges.items _
    c.change_one-silent.new.bridges c.deref_mut.ensures.value c.change_one-silent.ensures.changed in
    ap stored_parts_in now
    ∙ parts_moved c.args.changed c.args.mods.now c.args.before.now c.args.moved.items c.self.inside.bridges.items
    c.args.self.now.kept c.args.self.now.parts (ap (λ b. b.kept) c.self.view_is) (ap (λ b. b.parts) c.self.view_is)
    c.requires.moved c.args.tree

pub returns-clause-layers : goal.returns-clause-layers
returns-clause-layers c =
    let whole : take c.self.inside.bridges.len (c.change_one-silent.new.bridges
    ++ drop (length c.change_one-silent.new.bridges) c.self.inside.bridges.items) ≡ c.change_one-silent.new.bridges =
    grind (arith, common_steps) in
    let now = whole ∙ now_is c.args.changed c.args.tree c.args.moved.items c.self.inside.bridges.items _
    c.change_one-silent.new.bridges c.deref_mut.ensures.value c.change_one-silent.ensures.changed in
    ap layers_in now
    ∙ layers_changed c.args.changed c.args.tree
    (put_from 0 c.args.moved.items (done_parts_of c.args.changed c.self.inside.bridges.items))
    c.self.inside.bridges.items
    ∙ ap (λ b. b.layers) c.self.view_is

pub returns-clause-sources : goal.returns-clause-sources
unfolding Sources
returns-clause-sources c =
    let whole : take c.self.inside.bridges.len (c.change_one-silent.new.bridges
    ++ drop (length c.change_one-silent.new.bridges) c.self.inside.bridges.items) ≡ c.change_one-silent.new.bridges =
    grind (arith, common_steps) in
    let now = whole ∙ now_is c.args.changed c.args.tree c.args.moved.items c.self.inside.bridges.items _
    c.change_one-silent.new.bridges c.deref_mut.ensures.value c.change_one-silent.ensures.changed in
    (in_place c.args.changed c.args.mods.now c.args.before.now c.args.tree
    (put_from 0 c.args.moved.items (done_parts_of c.args.changed c.self.inside.bridges.items))
    c.self.inside.bridges.items c.requires.applies c.self.invariant.sound c.args.self.now.kept _
    (ap (λ b. b.kept) c.self.view_is) c.requires.units c.requires.changed now).sources

pub returns-clause-once : goal.returns-clause-once
returns-clause-once c =
    let whole : take c.self.inside.bridges.len (c.change_one-silent.new.bridges
    ++ drop (length c.change_one-silent.new.bridges) c.self.inside.bridges.items) ≡ c.change_one-silent.new.bridges =
    grind (arith, common_steps) in
    let now = whole ∙ now_is c.args.changed c.args.tree c.args.moved.items c.self.inside.bridges.items _
    c.change_one-silent.new.bridges c.deref_mut.ensures.value c.change_one-silent.ensures.changed in
    (in_place c.args.changed c.args.mods.now c.args.before.now c.args.tree
    (put_from 0 c.args.moved.items (done_parts_of c.args.changed c.self.inside.bridges.items))
    c.self.inside.bridges.items c.requires.applies c.self.invariant.sound c.args.self.now.kept _
    (ap (λ b. b.kept) c.self.view_is) c.requires.units c.requires.changed now).once

pub returns-clause-numbers : goal.returns-clause-numbers
returns-clause-numbers c =
    let whole : take c.self.inside.bridges.len (c.change_one-silent.new.bridges
    ++ drop (length c.change_one-silent.new.bridges) c.self.inside.bridges.items) ≡ c.change_one-silent.new.bridges =
    grind (arith, common_steps) in
    let now = whole ∙ now_is c.args.changed c.args.tree c.args.moved.items c.self.inside.bridges.items _
    c.change_one-silent.new.bridges c.deref_mut.ensures.value c.change_one-silent.ensures.changed in
    (in_place c.args.changed c.args.mods.now c.args.before.now c.args.tree
    (put_from 0 c.args.moved.items (done_parts_of c.args.changed c.self.inside.bridges.items))
    c.self.inside.bridges.items c.requires.applies c.self.invariant.sound c.args.self.now.kept _
    (ap (λ b. b.kept) c.self.view_is) c.requires.units c.requires.changed now).numbers

pub returns-clause-units : goal.returns-clause-units
returns-clause-units c =
    let whole : take c.self.inside.bridges.len (c.change_one-silent.new.bridges
    ++ drop (length c.change_one-silent.new.bridges) c.self.inside.bridges.items) ≡ c.change_one-silent.new.bridges =
    grind (arith, common_steps) in
    let now = whole ∙ now_is c.args.changed c.args.tree c.args.moved.items c.self.inside.bridges.items _
    c.change_one-silent.new.bridges c.deref_mut.ensures.value c.change_one-silent.ensures.changed in
    (in_place c.args.changed c.args.mods.now c.args.before.now c.args.tree
    (put_from 0 c.args.moved.items (done_parts_of c.args.changed c.self.inside.bridges.items))
    c.self.inside.bridges.items c.requires.applies c.self.invariant.sound c.args.self.now.kept _
    (ap (λ b. b.kept) c.self.view_is) c.requires.units c.requires.changed now).units

pub returns-clause-parts : goal.returns-clause-parts
returns-clause-parts c =
    returns-clause-within c
    ∙ parts_in_place c.args.changed c.args.mods.now c.args.before.now c.requires.applies.0 c.args.tree
    (units_of c.args.self.now.kept) c.args.self.now.parts c.args.self.now.strays c.requires.applies.1
    c.requires.units c.requires.changed
    (many_parts c.args.self.now.kept c.args.self.now.parts (parts_hold_all c.self.inside.bridges.items
    c.args.self.now.kept c.args.self.now.parts (ap (λ b. b.kept) c.self.view_is) (ap (λ b. b.parts) c.self.view_is)
    c.self.invariant.sound))
    (strays_seen c.self.inside.bridges.items c.args.self.now.kept c.self.inside.strays.items c.args.self.now.strays
    (ap (λ b. b.kept) c.self.view_is) (ap (λ b. b.strays) c.self.view_is) c.self.invariant.strays).outside
    ∙ ap (CarryParts c.args.self.now.parts
    (PartMoves 0 c.args.mods.now c.args.before.now (units_of c.args.self.now.kept) c.args.self.now.parts
    (kept_strays c.args.self.now.strays) (units_with c.args.changed c.args.tree (units_of c.args.self.now.kept))))
    (sym (returns-clause-sources c))

pub returns-clause-strays : goal.returns-clause-strays
returns-clause-strays c =
    ap kept_strays (returns-clause-beside c)
    ∙ strays_in_place c.args.changed c.args.mods.now c.args.before.now c.requires.applies.0 c.args.tree
    (units_of c.args.self.now.kept) c.args.self.now.parts c.args.self.now.strays c.requires.applies.1
    c.requires.units c.requires.changed
    (many_parts c.args.self.now.kept c.args.self.now.parts (parts_hold_all c.self.inside.bridges.items
    c.args.self.now.kept c.args.self.now.parts (ap (λ b. b.kept) c.self.view_is) (ap (λ b. b.parts) c.self.view_is)
    c.self.invariant.sound))
    (strays_seen c.self.inside.bridges.items c.args.self.now.kept c.self.inside.strays.items c.args.self.now.strays
    (ap (λ b. b.kept) c.self.view_is) (ap (λ b. b.strays) c.self.view_is) c.self.invariant.strays).outside
