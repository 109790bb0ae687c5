use Rattle.std.proofs.Common.{◌≡◌, List, [], map, take}
use Rattle.tx_units.specs.declared.kinds.Unit.{Unit as DocUnit}
use Rattle.tx_bridge.specs.PartMoves.{seen_move}
use Rattle.tx_view.specs.Laid.{AreBlank, HaveArrived, placed_in}
use Rattle.tx_view.proofs.arriving.put_all.Given as goal

abbrev pub invariant-loop-m : goal.invariant-loop-m
invariant-loop-m l = (us : List DocUnit) → AreBlank us l.fn.new → l.fn.new_strays ≡ []
    → HaveArrived (placed_in l.old l.strays) (map seen_move (take l.m-index l.moves)) us l.new l.new_strays
