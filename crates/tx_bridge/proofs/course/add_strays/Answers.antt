use Rattle.std.proofs.Common.{◌≡◌, ◌∙◌, ◌++◌, [], arith, ap, map, Some}
use Rattle.std.specs.List.{cons_option}
use Rattle.tx_tree.specs.Paths.{subtree}
use Rattle.tx_bridge.specs.HeldParts.{kept_part}
use Rattle.tx_bridge.specs.PartMoves.{move_from, seen_move}
use Rattle.tx_bridge.specs.Strays.{HoldsStray}
use Rattle.tx_bridge.proofs.Gathering.{strays_next, each_stray, each_tidy, stray_supports}
use Rattle.tx_bridge.proofs.course.add_strays.Goals as goal

pub add_move-requires-clause-passage : goal.add_move-requires-clause-passage
add_move-requires-clause-passage c = (
  c.requires.passage.0,
  c.requires.passage.1,
  ap (subtree c.requires.passage.0) c.in_ok-path.ensures
      ∙ each_stray c.args.strays.now c.loop-k.k (omega arith) c.index-strays-k.result c.index-strays-k.is
      (λ x. subtree c.requires.passage.0 x.kept.path ≡ Some x.tree) c.requires.passage.2,
)

pub add_move-requires-clause-supports : goal.add_move-requires-clause-supports
add_move-requires-clause-supports c =
    stray_supports c.index-strays-k.result
    (each_stray c.args.strays.now c.loop-k.k (omega arith) c.index-strays-k.result c.index-strays-k.is HoldsStray
    c.requires.hold)

pub add_move-requires-clause-tidy : goal.add_move-requires-clause-tidy
add_move-requires-clause-tidy c =
    each_tidy c.args.strays.now c.loop-k.k (omega arith) c.index-strays-k.result c.index-strays-k.is c.requires.tidy

pub loop-k-preserved : goal.loop-k-preserved
loop-k-preserved c = (
  (λ t h stand.
      strays_next c.args.strays.now c.loop-k.k (omega arith) c.index-strays-k.result c.index-strays-k.is
      c.args.mods.now t c.args.units.now c.args.i (map seen_move c.loop-k.moves.items)
      (map seen_move c.add_move.new.moves.items) _
      (c.in_ok-hint.ensures.moves t h
      (ap (subtree t) c.in_ok-path.ensures
      ∙ each_stray c.args.strays.now c.loop-k.k (omega arith) c.index-strays-k.result c.index-strays-k.is
      (λ x. subtree t x.kept.path ≡ Some x.tree) stand)
      ∙ ap (λ q. map seen_move c.loop-k.moves.items
      ++ cons_option (move_from c.args.mods.now t c.args.units.now c.args.i c.loop-k.k q
      (kept_part c.index-strays-k.result.part)) []) c.in_ok-path.ensures)
      (c.loop-k.invariant.0 t h stand)),
  (λ all. c.in_ok-hint.ensures.tidy (c.loop-k.invariant.1 all)),
  (λ t h stand all.
      c.in_ok-hint.ensures.trees t h
      (ap (subtree t) c.in_ok-path.ensures
      ∙ each_stray c.args.strays.now c.loop-k.k (omega arith) c.index-strays-k.result c.index-strays-k.is
      (λ x. subtree t x.kept.path ≡ Some x.tree) stand) (c.loop-k.invariant.2 t h stand all)),
)
