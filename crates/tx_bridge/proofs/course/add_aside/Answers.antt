use Rattle.std.proofs.Common.{◌∙◌, sym, ap, subst, map, length, Some, None}
use Rattle.std.proofs.lemmas.List.Elements.{All-push}
use Rattle.std.specs.List.{All}
use Rattle.std.specs.Prelude.{if◌then◌else◌}
use Rattle.tx_walk.specs.Walked.{IsTidy}
use Rattle.tx_bridge.specs.declared.course.PartMove.{PartMove}
use Rattle.tx_bridge.specs.Courses.{HasTree}
use Rattle.tx_bridge.specs.HeldParts.{kept_part}
use Rattle.tx_bridge.specs.PartMoves.{move_to, move_aside, seen_move}
use Rattle.tx_bridge.specs.Strays.{StandAside}
use Rattle.tx_bridge.proofs.Gathering.{no_more, one_more, is_seen, aside_tree, stray_supports}
use Rattle.tx_bridge.proofs.course.add_aside.Goals as goal

pub returns-then-not-is_outside-clause-moves : goal.returns-then-not-is_outside-clause-moves
returns-then-not-is_outside-clause-moves c =
    no_more _ _
    (ap (λ b. if b
    then Some (move_to c.args.i c.args.k (kept_part c.args.stray.now.part)
    (length c.args.units.now, c.args.stray.now.part.path)) else None)
    (sym c.is_outside.ensures ∙ c.if-not-is_outside.true))

pub returns-clause-moves : goal.returns-clause-moves
returns-clause-moves c =
    ap (map seen_move) c.in_ok-push.ensures.items
    ∙ one_more c.args.moves.now.items _
    (move_aside c.args.units.now c.args.i c.args.k (kept_part c.args.stray.now.part))
    (ap (λ b. if b
    then Some (move_to c.args.i c.args.k (kept_part c.args.stray.now.part)
    (length c.args.units.now, c.args.stray.now.part.path)) else None)
    (sym c.is_outside.ensures ∙ c.if-not-is_outside.false)
    ∙ ap (λ z. Some z)
    (is_seen c.args.i c.args.k (length c.args.units.now) c.args.stray.now.part c.in_ok-moved.field-0
    c.args.stray.now.part.path c.in_ok-share.field-0 (c.in_ok-moved.ensures.path ∙ c.in_ok-path.ensures)
    c.in_ok-moved.ensures.trace))

pub returns-clause-tidy : goal.returns-clause-tidy
returns-clause-tidy c = λ all.
    subst (All (λ (m : PartMove). IsTidy m.part)) (sym c.in_ok-push.ensures.items)
    (All-push (λ (m : PartMove). IsTidy m.part) c.args.moves.now.items _ all c.in_ok-moved.ensures.tidy)

pub returns-clause-trees : goal.returns-clause-trees
returns-clause-trees c = λ all stand before.
    subst (All (HasTree (λ u. StandAside u all) (length c.args.units.now))) (sym c.in_ok-push.ensures.items)
    (All-push (HasTree (λ u. StandAside u all) (length c.args.units.now)) c.args.moves.now.items _ before
    (aside_tree c.args.stray.now all (length c.args.units.now) _ (stray_supports c.args.stray.now c.requires.holds)
    stand (c.in_ok-moved.ensures.path ∙ c.in_ok-path.ensures) c.in_ok-moved.ensures.trace c.in_ok-share.ensures))
