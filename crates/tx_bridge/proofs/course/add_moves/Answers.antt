use Rattle.std.proofs.Common.{arith, map}
use Rattle.tx_bridge.specs.PartMoves.{seen_move}
use Rattle.tx_bridge.proofs.Gathering.{below_next, part_holds}
use Rattle.tx_bridge.proofs.course.add_moves.Goals as goal

pub add_part-requires-clause-holds : goal.add_part-requires-clause-holds
add_part-requires-clause-holds c =
    part_holds c.args.tree.now c.args.parts.now c.loop-k.k c.index-parts-k.result c.requires.hold (omega arith)
    c.index-parts-k.is

pub loop-k-preserved : goal.loop-k-preserved
loop-k-preserved c = (
  (λ t h at.
      below_next c.args.mods.now t c.args.units.now c.args.i c.args.path.now c.args.parts.now c.loop-k.k (omega arith)
      c.index-parts-k.result c.index-parts-k.is (map seen_move c.loop-k.moves.items)
      (map seen_move c.add_part.new.moves.items) _ (c.in_ok-hint.ensures.moves t h at) (c.loop-k.invariant.0 t h at)),
  (λ all. c.in_ok-hint.ensures.tidy (c.loop-k.invariant.1 all)),
  (λ t h at all. c.in_ok-hint.ensures.trees t h at (c.loop-k.invariant.2 t h at all)),
)
