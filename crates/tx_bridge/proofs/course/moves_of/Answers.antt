use Rattle.std.proofs.Common.{arith, map, subst, sym}
use Rattle.tx_bridge.specs.PartMoves.{seen_move}
use Rattle.tx_bridge.specs.Sound.{IsSoundBridge}
use Rattle.tx_bridge.proofs.Gathering.{units_next, unit_stands, place_here}
use Rattle.tx_bridge.proofs.course.moves_of.Goals as goal

pub add_unit_moves-requires-clause-passage : goal.add_unit_moves-requires-clause-passage
add_unit_moves-requires-clause-passage c = (
  c.requires.passage.0,
  c.requires.passage.1,
  unit_stands c.args.mods.now c.requires.passage.0 c.args.units.now c.args.bridges.now c.loop-i.i (omega arith)
      c.index-bridges-i.result c.index-bridges-i.is c.requires.passage.2,
  place_here c.args.mods.now c.requires.passage.0 c.args.units.now c.args.bridges.now c.loop-i.i (omega arith)
      c.index-bridges-i.result c.index-bridges-i.is c.args.places.now c.index-places-i.result c.requires.passage.3
      c.index-places-i.is,
)

pub add_unit_moves-requires-clause-sound : goal.add_unit_moves-requires-clause-sound
add_unit_moves-requires-clause-sound c =
    subst IsSoundBridge (sym c.index-bridges-i.is) (c.requires.sound c.loop-i.i c.index-bridges-i.result (omega arith))

pub loop-i-preserved : goal.loop-i-preserved
loop-i-preserved c = (
  (λ t h stand places.
      units_next c.args.mods.now t c.args.units.now c.args.bridges.now c.loop-i.i (omega arith) c.index-bridges-i.result
      c.index-bridges-i.is (map seen_move c.loop-i.moves.items) (map seen_move c.add_unit_moves.new.moves.items) _
      (c.in_ok-hint.ensures.moves t h
      (unit_stands c.args.mods.now t c.args.units.now c.args.bridges.now c.loop-i.i (omega arith)
      c.index-bridges-i.result c.index-bridges-i.is stand)
      (place_here c.args.mods.now t c.args.units.now c.args.bridges.now c.loop-i.i (omega arith)
      c.index-bridges-i.result c.index-bridges-i.is c.args.places.now c.index-places-i.result places
      c.index-places-i.is)) (c.loop-i.invariant.0 t h stand places)),
  c.in_ok-hint.ensures.tidy c.loop-i.invariant.1,
  (λ t h stand.
      c.in_ok-hint.ensures.trees t h
      (unit_stands c.args.mods.now t c.args.units.now c.args.bridges.now c.loop-i.i (omega arith)
      c.index-bridges-i.result c.index-bridges-i.is stand) (c.loop-i.invariant.2 t h stand)),
)
