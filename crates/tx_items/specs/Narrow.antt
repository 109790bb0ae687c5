-- Items whose clusters are at most 2 cells wide.
use Rattle.std.specs.Prelude.{◌≤◌}
use Rattle.tx_items.specs.declared.drawing.Item.{Item}
use Rattle.tx_items.specs.declared.drawing.Item.TheVariants.{Glyph, Space, Chance, Gap, Break, PageEnd, Down}

abbrev pub IsNarrow : Item → Type 0
IsNarrow (Glyph d) = d.cluster.cells ≤ 2
IsNarrow (Space d) = d.cluster.cells ≤ 2
IsNarrow (Chance d) = d.cluster.cells ≤ 2
IsNarrow (Gap n) = Unit {0}
IsNarrow Break = Unit {0}
IsNarrow PageEnd = Unit {0}
IsNarrow (Down n) = Unit {0}
