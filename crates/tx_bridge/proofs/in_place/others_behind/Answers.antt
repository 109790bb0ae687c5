use Rattle.std.proofs.Common.{◌≡◌, ◌∙◌, sym, ap, map, arith}
use Rattle.std.proofs.lemmas.Grind.{common_steps}
use Rattle.std.proofs.lemmas.List.{nil_from_length}
use Rattle.std.specs.List.{All}
use Rattle.std.specs.Prelude.{IfSome, Some}
use Rattle.tx_units.specs.declared.kinds.Unit.{Unit as DocUnit}
use Rattle.tx_walk.specs.Walked.{IsTidy}
use Rattle.tx_walk.proofs.Settled.{both_ok}
use Rattle.tx_bridge.specs.HeldParts.{kept_parts}
use Rattle.tx_bridge.specs.MovedParts.{AreMovedParts}
use Rattle.tx_bridge.specs.Others.{path_of_part, stored_of, kept_others}
use Rattle.tx_bridge.proofs.OtherParts.{moved_are, none_moved, others_lead}
use Rattle.tx_bridge.proofs.in_place.others_behind.Goals as goal

pub returns-then-is_empty-clause-moved : goal.returns-then-is_empty-clause-moved
returns-then-is_empty-clause-moved g c =
    none_moved c.args.mods.now c.args.before.now c.requires.applies.0 c.args.path.now c.requires.applies.1
    c.args.parts.now c.new.result.items
    (sym c.in_ok-numbers.ensures ∙ nil_from_length c.in_ok-numbers.numbers.items (grind (arith, common_steps)))
    c.new.ensures.items

pub places_left-requires-clause-lead : goal.places_left-requires-clause-lead
places_left-requires-clause-lead g c =
    others_lead c.args.before.now c.requires.stands.0 c.args.path.now c.requires.stands.1 c.args.parts.now
    c.deref.result.now c.in_ok-paths.paths.items c.in_ok-paths.ensures c.requires.stands.2

pub returns-clause-moved : goal.returns-clause-moved
returns-clause-moved g c =
    both_ok c.others_at.result
    (λ os. stored_of os.items
    ≡ kept_others c.args.path.now c.args.parts.now c.deref-3.result.now c.deref-2.result.now)
    (λ os. All (λ o. IfSome o.1 IsTidy) os.items)
    (λ os. (u : DocUnit) → u.path ≡ Some c.args.path.now
    → AreMovedParts c.args.mods.now c.args.before.now u (kept_parts c.args.parts.now) os.items)
    (λ os h tidy. moved_are c.args.mods.now c.args.before.now c.requires.applies.0 c.args.path.now
    c.requires.applies.1 c.args.parts.now os.items c.deref-3.result.now c.in_ok-paths.paths.items c.deref-2.result.now
    (c.deref-3.ensures.value ∙ c.in_ok-numbers.ensures)
    (c.in_ok-paths.ensures
    ∙ ap (map (path_of_part c.args.path.now c.args.parts.now)) (c.deref.ensures.value ∙ sym c.deref-3.ensures.value))
    (c.deref-2.ensures.value ∙ c.in_ok-places.ensures.ok) h tidy)
    c.others_at.ensures.parts c.others_at.ensures.tidy
