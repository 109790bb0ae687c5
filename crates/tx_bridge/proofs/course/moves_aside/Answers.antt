use Rattle.std.proofs.Common.{◌≡◌, arith, map, Some}
use Rattle.tx_tree.specs.Paths.{subtree}
use Rattle.tx_bridge.specs.PartMoves.{seen_move}
use Rattle.tx_bridge.specs.Strays.{HoldsStray, strays_in}
use Rattle.tx_bridge.proofs.Gathering.{aside_next, each_stray, each_tidy}
use Rattle.tx_bridge.proofs.course.moves_aside.Goals as goal

pub add_aside-requires-clause-holds : goal.add_aside-requires-clause-holds
add_aside-requires-clause-holds c =
    each_stray c.args.strays.now c.loop-k.k (omega arith) c.index-strays-k.result c.index-strays-k.is HoldsStray
    c.requires.hold

pub add_aside-requires-clause-tidy : goal.add_aside-requires-clause-tidy
add_aside-requires-clause-tidy c =
    each_tidy c.args.strays.now c.loop-k.k (omega arith) c.index-strays-k.result c.index-strays-k.is c.requires.tidy

pub loop-k-preserved : goal.loop-k-preserved
loop-k-preserved c = (
  aside_next c.args.strays.now c.loop-k.k (omega arith) c.index-strays-k.result c.index-strays-k.is c.args.units.now
      c.args.i (map seen_move c.loop-k.moves.items) (map seen_move c.add_aside.new.moves.items) _
      c.in_ok-add_aside.ensures.moves c.loop-k.invariant.0,
  c.in_ok-add_aside.ensures.tidy c.loop-k.invariant.1,
  c.in_ok-add_aside.ensures.trees (strays_in c.args.strays.now)
      (λ u stand. each_stray c.args.strays.now c.loop-k.k (omega arith) c.index-strays-k.result c.index-strays-k.is
      (λ x. subtree u x.kept.path ≡ Some x.tree) stand) c.loop-k.invariant.2,
)
