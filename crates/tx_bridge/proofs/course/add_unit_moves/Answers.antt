use Rattle.std.proofs.Common.{subst, sym}
use Rattle.std.specs.List.{AllByRecursion}
use Rattle.tx_bridge.specs.HeldParts.{HoldsPart}
use Rattle.tx_bridge.proofs.course.add_unit_moves.Goals as goal

pub add_moves-requires-clause-passage : goal.add_moves-requires-clause-passage
add_moves-requires-clause-passage c = (
  c.requires.passage.0,
  c.requires.passage.1,
  c.requires.passage.2 c.in-Some.path c.in-Some.is,
)

pub add_moves-requires-clause-hold : goal.add_moves-requires-clause-hold
add_moves-requires-clause-hold c =
    subst (AllByRecursion (HoldsPart c.args.bridge.now.unit.tagged.tree)) (sym c.all.ensures)
    c.requires.sound.parts.hold

pub returns-clause-trees : goal.returns-clause-trees
returns-clause-trees c = λ t h stand all.
    c.in_ok-add_moves.ensures.trees t h (stand c.in-Some.path c.in-Some.is) all
