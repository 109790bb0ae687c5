use Rattle.std.proofs.Common.{◌≡◌, ◌++◌, drop, map, length}
use Rattle.std.specs.List.{enumerate_from}
use Rattle.tx_table.specs.Settings.{row_sides}
use Rattle.tx_table.proofs.sides.sides_of.Given as goal

abbrev pub invariant-loop-i : goal.invariant-loop-i
invariant-loop-i l =
    l.sides.items
    ++ map (λ row. row_sides l.settings row.0 (length row.1)) (enumerate_from l.i (drop l.i l.rows))
    ≡ map (λ row. row_sides l.settings row.0 (length row.1)) (enumerate_from 0 l.rows)
