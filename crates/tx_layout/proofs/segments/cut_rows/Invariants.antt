use Rattle.std.proofs.Common.{◌≡◌, ◌++◌, drop, length, ℕ}
use Rattle.tx_lines.specs.Cuts.{Partitions}
use Rattle.tx_layout.specs.Rows.{rows_at}
use Rattle.tx_layout.proofs.segments.cut_rows.Given as goal

abbrev pub invariant-loop-cut : goal.invariant-loop-cut
invariant-loop-cut l = record {
  so_far : l.rows.items ++ rows_at l.frame l.first l.start l.segment l.spans (drop l.cut-index l.cuts)
      ≡ rows_at l.frame l.is_first l.start l.segment l.spans l.cuts;
  left : l.left ≡ length (drop l.cut-index l.cuts);
  rest : (at : ℕ) × Partitions (drop l.cut-index l.cuts) at (length l.spans);
}
