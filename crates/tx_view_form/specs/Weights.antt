-- How many lines paragraphs have at most.
use Rattle.std.specs.Prelude.{ℕ, ◌+◌, List}
use Rattle.std.specs.List.{sum_by}
use Rattle.tx_items.specs.declared.drawing.Item.{Item}
use Rattle.tx_items.specs.declared.drawing.Item.TheVariants.{Glyph, Space, Chance, Gap, Break, PageEnd, Down}
use Rattle.tx_items.specs.declared.drawing.Paragraph.{Paragraph}

-- each item may be on a line of its own, or end one, and has its empty lines
abbrev pub item_weight : Item → ℕ
item_weight (Glyph d) = 1
item_weight (Space d) = 1
item_weight (Chance d) = 1
item_weight (Gap n) = 1
item_weight Break = 1
item_weight PageEnd = 1
item_weight (Down n) = 1 + n

abbrev pub items_weight : List Item → ℕ
items_weight items = sum_by item_weight items

-- a paragraph without items has a line
abbrev pub weight_of : List Paragraph → ℕ
weight_of ps = sum_by (λ p. 1 + items_weight p.items) ps
