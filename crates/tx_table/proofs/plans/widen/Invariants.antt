use Rattle.std.proofs.Common.{◌≡◌, take}
use Rattle.tx_table.specs.Columns.{wider}
use Rattle.tx_table.proofs.plans.widen.Given as goal

abbrev pub invariant-loop-i : goal.invariant-loop-i
invariant-loop-i l = l.columns.items ≡ wider l.fn.columns.items (take l.i l.row)
