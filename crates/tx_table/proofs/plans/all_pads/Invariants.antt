use Rattle.std.proofs.Common.{◌≡◌, ◌++◌, drop}
use Rattle.tx_table.specs.Columns.{left_pad, right_pad, all_pads}
use Rattle.tx_table.proofs.plans.all_pads.Given as goal

abbrev pub invariant-loop-i : goal.invariant-loop-i
invariant-loop-i l = record {
  left : l.left.items ++ all_pads left_pad l.columns (drop l.i l.sides) (drop l.i l.widths)
      ≡ all_pads left_pad l.columns l.sides l.widths;
  right : l.right.items ++ all_pads right_pad l.columns (drop l.i l.sides) (drop l.i l.widths)
      ≡ all_pads right_pad l.columns l.sides l.widths;
}
