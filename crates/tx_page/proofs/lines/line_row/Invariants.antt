use Rattle.std.proofs.Common.{◌≡◌, ◌++◌, take}
use Rattle.std.specs.List.{flat_map}
use Rattle.tx_terminal.specs.Inks.{plain}
use Rattle.tx_page.specs.Clusters.{blanks}
use Rattle.tx_page.specs.Lines.{item_characters}
use Rattle.tx_page.proofs.lines.line_row.Given as goal

abbrev pub invariant-loop-item : goal.invariant-loop-item
invariant-loop-item l =
    l.row.items ≡ blanks l.line.indent plain ++ flat_map item_characters (take l.item-index l.item-items)
