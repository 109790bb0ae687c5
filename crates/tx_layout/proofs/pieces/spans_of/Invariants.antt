use Rattle.std.proofs.Common.{◌+◌, ◌-◌, ◌<◌, ◌≤◌, ◌++◌, List, length}
use Rattle.std.specs.Prelude.{slice_range, All}
use Rattle.tx_layout.specs.Words.{Solid, Blank, SpansFrom}
use Rattle.tx_layout.specs.declared.pieces.Span.{Span}
use Rattle.tx_layout.proofs.pieces.spans_of.Given as goal

abbrev pub invariant-loop-from : goal.invariant-loop-from
invariant-loop-from l = record {
  so_far : (rest : List Span) → SpansFrom l.least l.items l.at rest
      → SpansFrom l.least l.items 0 (l.spans.items ++ rest);
  onward : l.at ≤ l.from;
  within : l.from ≤ length l.items;
  blank : All Blank (slice_range l.items l.at l.from);
  begins : l.from < length l.items → All Solid (slice_range l.items l.from (l.from + 1));
}

abbrev pub decreases-loop-from : goal.decreases-loop-from
decreases-loop-from l = length l.items - l.from
