-- Lines of values under a path: their items have their origins under it.
use Rattle.std.specs.Prelude.{ℕ, List, map}
use Rattle.tx_part_items.specs.ItemsUnder.{item_under}
use Rattle.tx_layout.specs.declared.layout.Line.{Line}

abbrev pub line_under : List ℕ → Line → Line
line_under base line = record line { items = map (item_under base) line.items }
