use Rattle.std.proofs.Common.{◌≡◌, ◌<◌, ℕ, None, Some}
use Rattle.std.specs.Prelude.{slice_get}
use Rattle.tx_units.specs.declared.kinds.Unit.{Unit as DocUnit}
use Rattle.tx_bridge.specs.PartMoves.{rest_in}
use Rattle.tx_bridge.proofs.course.searched_above.Given as goal

abbrev pub invariant-loop-i : goal.invariant-loop-i
invariant-loop-i l =
    (k : ℕ) (u : DocUnit) → k < l.i → slice_get l.units k ≡ Some u → rest_in u l.place ≡ None
