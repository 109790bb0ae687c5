use Rattle.std.proofs.Common.{All, take}
use Rattle.tx_layout.specs.Paging.{Unmarked}
use Rattle.tx_part_layout.specs.LaidParts.{placed_lines}
use Rattle.tx_unit_layout.proofs.laid_parts.are_marked.Given as goal

abbrev pub invariant-loop-part : goal.invariant-loop-part
invariant-loop-part l = All Unmarked (placed_lines (take l.part-index l.parts))
