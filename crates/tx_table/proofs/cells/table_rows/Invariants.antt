use Rattle.std.proofs.Common.{◌≡◌, ◌++◌, drop, map}
use Rattle.std.specs.Option.{option_map}
use Rattle.tx_table.specs.Grids.{all_some, row_cells}
use Rattle.tx_table.proofs.cells.table_rows.Given as goal

abbrev pub invariant-loop-part : goal.invariant-loop-part
invariant-loop-part l =
    all_some (map row_cells l.parts)
    ≡ option_map (λ zs. l.rows.items ++ zs) (all_some (map row_cells (drop l.part-index l.parts)))
