-- Lists of parts, as contracts see them.
use Rattle.std.specs.Prelude.{List}
use Rattle.std.specs.Coded.{Coded, coded_list}
use Rattle.tx_walk.specs.declared.part.Part.{Part as DonePart}
use Rattle.tx_walk.specs.contracts.part.Part as one_part

-- the code by which proofs tell lists of parts apart
abbrev pub coded_Parts : Coded (List DonePart)
coded_Parts = coded_list one_part.the_row.coded
