-- The code by which proofs tell lists of placed parts apart.
use Rattle.std.specs.Prelude.{List}
use Rattle.std.specs.Coded.{Coded, coded_list}
use Rattle.tx_part_layout.specs.contracts.laid.PlacedPart as one_part
use Rattle.tx_part_layout.specs.declared.laid.PlacedPart.{PlacedPart}

abbrev pub coded_placed_parts : Coded (List PlacedPart)
coded_placed_parts = coded_list one_part.the_row.coded
