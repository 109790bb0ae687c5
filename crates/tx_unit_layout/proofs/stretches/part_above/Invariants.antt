use Rattle.std.proofs.Common.{◌≡◌, ◌-◌, ◌≤◌, ◌<◌, length, Some, slice_get}
use Rattle.tx_part_layout.specs.declared.laid.PlacedPart.{PlacedPart}
use Rattle.tx_unit_layout.proofs.stretches.part_above.Given as goal

abbrev pub invariant-loop-high : goal.invariant-loop-high
invariant-loop-high l = record {
  ordered : l.low < l.high;
  within : l.high ≤ length l.parts;
  begins : (p : PlacedPart) → slice_get l.parts l.low ≡ Some p → p.above ≤ l.line;
  next : (p : PlacedPart) → slice_get l.parts l.high ≡ Some p → l.line < p.above;
}

abbrev pub decreases-loop-high : goal.decreases-loop-high
decreases-loop-high l = l.high - l.low
