use Rattle.std.proofs.Common.{◌≡◌, ◌+◌, ◌<◌, ◌≤◌, ◌++◌, [], ◌∷◌, ◌∙◌, length, reverse, ap, sym, refl, subst, arith}
use Rattle.std.specs.Prelude.{Some}
use Rattle.std.proofs.lemmas.List.{append-nil}
use Rattle.std.specs.Vec.{vec_len, vec_capacity}
use Rattle.tx_part_layout.specs.Slots.{AreRising, placed_by}
use Rattle.tx_part_layout.specs.declared.slots.Slot.TheVariants.{Again, Anew}
use Rattle.tx_part_layout.proofs.Stacking.{rising_to, again_put, anew_put, taken_is, one_less}
use Rattle.tx_part_layout.proofs.slots.from_last.Goals as goal

pub loop-slot-init : goal.loop-slot-init
loop-slot-init c = record {
  rising = c.requires.rising;
  enough = let none = c.requires.no_length in let room = c.requires.enough in omega (arith, none, room);
  going =
      ap (λ xs. placed_by c.args.former.items c.args.told.items ++ reverse xs) c.requires.nothing
      ∙ append-nil (placed_by c.args.former.items c.args.told.items);
}

pub overflow_add-i : goal.overflow_add-i
overflow_add-i c =
    let last = c.in-Some.ensures.items ∙ ap (λ s. c.pop.new.self.items ++ s ∷ []) c.in-Again.is in
    let few = (rising_to (length c.loop-slot.old.items) 0 c.in-Again.i c.in-Again.above c.pop.new.self.items
    (subst (AreRising (length c.loop-slot.old.items) 0) last c.loop-slot.invariant.rising)).1 in
    let count = c.loop-slot.old.ok in
    let small = c.loop-slot.old.small in omega (arith, few, count.0, count.1, small)

pub unreachable-requires : goal.unreachable-requires
unreachable-requires c =
    let last = c.in-Some.ensures.items ∙ ap (λ s. c.pop.new.self.items ++ s ∷ []) c.in-Again.is in
    let few = (rising_to (length c.loop-slot.old.items) 0 c.in-Again.i c.in-Again.above c.pop.new.self.items
    (subst (AreRising (length c.loop-slot.old.items) 0) last c.loop-slot.invariant.rising)).1 in
    let count = c.loop-slot.old.ok in
    let left = c.truncate.ensures.len in
    let none = c.in_default-pop.ensures.cases in omega (arith, few, count.0, left, none.0)

pub loop-slot-preserved-in-Again : goal.loop-slot-preserved-in-Again
loop-slot-preserved-in-Again c =
    let last = c.in-Some.ensures.items ∙ ap (λ s. c.pop.new.self.items ++ s ∷ []) c.in-Again.is in
    let rising = c.loop-slot.invariant.rising in
    let few = (rising_to (length c.loop-slot.old.items) 0 c.in-Again.i c.in-Again.above c.pop.new.self.items
    (subst (AreRising (length c.loop-slot.old.items) 0) last rising)).1 in
    let step = again_put c.loop-slot.old.items c.pop-in-Again.new.self.items c.in-Again.i c.in-Again.above
    c.in-Some-pop.part c.put_below.new.self c.loop-slot.slots.items c.pop.new.self.items
    c.loop-slot.all.items c.push_reserved.new.self.items _ rising last
    (taken_is c.loop-slot.old.items c.truncate.new.self.items c.pop-in-Again.new.self.items c.in-Again.i
    c.in-Some-pop.part c.truncate.ensures.items c.in-Some-pop.ensures.items few)
    c.put_below.ensures c.push_reserved.ensures.items c.loop-slot.invariant.going in
    record {
      rising = step.0;
      enough =
          one_less c.pop.new.self.items c.in-Some.slot _ _ _ _
          (subst (λ ss. vec_len c.loop-slot.all + length ss ≤ vec_capacity c.loop-slot.all) c.in-Some.ensures.items
          c.loop-slot.invariant.enough) c.push_reserved.ensures.len c.push_reserved.ensures.capacity;
      going = step.1;
    }

pub loop-slot-preserved : goal.loop-slot-preserved
loop-slot-preserved c =
    let last = c.in-Some.ensures.items ∙ ap (λ s. c.pop.new.self.items ++ s ∷ []) c.in-Anew.is in
    let step = anew_put c.loop-slot.old.items (Anew c.in-Anew.part) c.into_inner.result c.loop-slot.slots.items
    c.pop.new.self.items c.loop-slot.all.items c.push_reserved-in-Anew.new.self.items _
    c.loop-slot.invariant.rising last (ap Some (sym c.into_inner.ensures))
    c.push_reserved-in-Anew.ensures.items c.loop-slot.invariant.going in
    record {
      rising = step.0;
      enough =
          one_less c.pop.new.self.items c.in-Some.slot _ _ _ _
          (subst (λ ss. vec_len c.loop-slot.all + length ss ≤ vec_capacity c.loop-slot.all) c.in-Some.ensures.items
          c.loop-slot.invariant.enough) c.push_reserved-in-Anew.ensures.len c.push_reserved-in-Anew.ensures.capacity;
      going = step.1;
    }
