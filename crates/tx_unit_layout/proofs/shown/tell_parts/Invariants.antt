use Rattle.std.proofs.Common.{ℕ, List, ◌++◌, take}
use Rattle.tx_layout.specs.declared.layout.Line.{Line as Shape}
use Rattle.tx_layout.specs.Told.{HasTold}
use Rattle.tx_part_layout.specs.LaidParts.{placed_lines}
use Rattle.tx_unit_layout.proofs.shown.tell_parts.Given as goal

abbrev pub invariant-loop-part : goal.invariant-loop-part
invariant-loop-part l =
    (before : List Shape) (height : ℕ) → HasTold before height l.fn.paginator
    → HasTold (before ++ placed_lines (take l.part-index l.parts)) height l.paginator
