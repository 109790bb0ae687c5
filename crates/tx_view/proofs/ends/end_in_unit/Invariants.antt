use Rattle.std.proofs.Common.{◌≡◌, [], length, take, drop}
use Rattle.std.specs.Option.{option_map}
use Rattle.tx_unit_layout.specs.Stretches.{stretches}
use Rattle.tx_view.specs.Ends.{end_on_lines}
use Rattle.tx_view.proofs.EndsFound.{further, lines_in}
use Rattle.tx_view.proofs.EndsUnder.{place_after}
use Rattle.tx_view.proofs.ends.end_in_unit.Given as goal

abbrev pub invariant-loop-k : goal.invariant-loop-k
invariant-loop-k l = record {
  many : l.above ≡ length (lines_in (take l.k (stretches l.unit)));
  found : end_on_lines l.end [] (place_after l.steps l.offset) (lines_in (stretches l.unit))
      ≡ option_map (further l.above)
      (end_on_lines l.end [] (place_after l.steps l.offset) (lines_in (drop l.k (stretches l.unit))));
}
