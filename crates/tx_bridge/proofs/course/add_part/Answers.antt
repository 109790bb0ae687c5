use Rattle.std.proofs.Common.{◌≡◌, ◌∙◌, ◌++◌, [], ap, rules, map}
use Rattle.std.proofs.lemmas.Result.{on_ok_weaker}
use Rattle.std.specs.List.{cons_option}
use Rattle.tx_bridge.specs.HeldParts.{kept_part}
use Rattle.tx_bridge.specs.PartMoves.{move_from, seen_move}
use Rattle.tx_bridge.proofs.Gathering.{part_at}
use Rattle.tx_bridge.proofs.course.add_part.Goals as goal

pub add_move-requires-clause-passage : goal.add_move-requires-clause-passage
add_move-requires-clause-passage c =
    let whole : c.in_ok-whole-in-Some.whole ≡ c.args.path.now ++ c.args.part.now.path = search rules in (
      c.requires.passage.0,
      c.requires.passage.1,
      part_at c.requires.passage.0 c.args.tree.now c.in-Some.there.now c.args.path.now c.args.part.now.path
          c.in_ok-whole-in-Some.whole c.requires.passage.2 whole c.in-Some.ensures,
    )

pub returns-clause-moves : goal.returns-clause-moves
returns-clause-moves c =
    let whole : c.in_ok-whole-in-Some.whole ≡ c.args.path.now ++ c.args.part.now.path = search rules in
    on_ok_weaker c.add_move.result
    (λ h t p at.
    h t p
    (part_at t c.args.tree.now c.in-Some.there.now c.args.path.now c.args.part.now.path
    c.in_ok-whole-in-Some.whole at whole c.in-Some.ensures)
    ∙ ap (λ q. map seen_move c.args.moves.now.items
    ++ cons_option (move_from c.args.mods.now t c.args.units.now c.args.i c.args.k q (kept_part c.args.part.now)) [])
    whole) c.add_move.ensures.moves

pub returns-clause-trees : goal.returns-clause-trees
returns-clause-trees c =
    let whole : c.in_ok-whole-in-Some.whole ≡ c.args.path.now ++ c.args.part.now.path = search rules in
    on_ok_weaker c.add_move.result
    (λ h t p at.
    h t p
    (part_at t c.args.tree.now c.in-Some.there.now c.args.path.now c.args.part.now.path
    c.in_ok-whole-in-Some.whole at whole c.in-Some.ensures)) c.add_move.ensures.trees
