use Rattle.std.proofs.Common.{◌≡◌, ◌-◌, ◌≤◌, length}
use Rattle.tx_lines.specs.FirstFit.{width_of}
use Rattle.tx_lines.proofs.Filling.{FillsTo}
use Rattle.tx_lines.proofs.first_fit.fill.Given as goal

-- the lines so far are first-fit, and the next line has the width that is at hand
abbrev pub invariant-loop-from : goal.invariant-loop-from
invariant-loop-from l = record {
  filled : FillsTo l.pieces l.first l.later l.from l.lines.items;
  within : l.from ≤ length l.pieces;
  next_width : l.width ≡ width_of l.first l.later (length l.lines.items);
}

abbrev pub decreases-loop-from : goal.decreases-loop-from
decreases-loop-from l = length l.pieces - l.from
