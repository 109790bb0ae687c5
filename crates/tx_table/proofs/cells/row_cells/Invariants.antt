use Rattle.std.proofs.Common.{◌≡◌, ◌++◌, drop, map}
use Rattle.std.specs.Option.{option_map}
use Rattle.tx_table.specs.Grids.{all_some, cell_value}
use Rattle.tx_table.proofs.cells.row_cells.Given as goal

abbrev pub invariant-loop-part : goal.invariant-loop-part
invariant-loop-part l =
    all_some (map cell_value l.parts)
    ≡ option_map (λ zs. l.cells.items ++ zs) (all_some (map cell_value (drop l.part-index l.parts)))
