use Rattle.std.proofs.Common.{All, take}
use Rattle.tx_layout.specs.Paging.{Unmarked}
use Rattle.tx_part_layout.proofs.line_list.is_marked.Given as goal

abbrev pub invariant-loop-line : goal.invariant-loop-line
invariant-loop-line l = All Unmarked (take l.line-index l.lines)
