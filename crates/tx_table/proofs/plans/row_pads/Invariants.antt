use Rattle.std.proofs.Common.{◌≡◌, ◌++◌, drop}
use Rattle.tx_table.specs.Columns.{left_pad, right_pad, row_pads}
use Rattle.tx_table.proofs.plans.row_pads.Given as goal

abbrev pub invariant-loop-i : goal.invariant-loop-i
invariant-loop-i l = record {
  left : l.left.items ++ row_pads left_pad (drop l.i l.columns) (drop l.i l.sides) (drop l.i l.widths)
      ≡ row_pads left_pad l.columns l.sides l.widths;
  right : l.right.items ++ row_pads right_pad (drop l.i l.columns) (drop l.i l.sides) (drop l.i l.widths)
      ≡ row_pads right_pad l.columns l.sides l.widths;
}
