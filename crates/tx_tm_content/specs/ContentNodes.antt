-- The nodes that have been made of content.
use Rattle.std.specs.Prelude.{ℕ, ◌+◌, List, map}
use Rattle.tx_tree.specs.WideTree.{WideTree, forest, total_nodes}
use Rattle.tx_tm_form.specs.declared.places.Stage.{Stage}
use Rattle.tx_tm_form.specs.declared.places.Stage.TheVariants.{Empty, Alone, Ordinary}
use Rattle.tx_tm_form.specs.Growing.{Inline, Block, Tags, tree_of_entry, Content, inline, blocks, collecting}

abbrev pub nodes_in : List WideTree → ℕ
nodes_in ts = total_nodes (forest ts)

abbrev pub line_nodes : Inline → ℕ
line_nodes g = nodes_in g.done

abbrev pub block_nodes_at : Stage → Block → ℕ
block_nodes_at Empty b = 0
block_nodes_at Alone b = line_nodes b.now
block_nodes_at Ordinary b = nodes_in b.full + line_nodes b.now

abbrev pub block_nodes : Block → ℕ
block_nodes b = block_nodes_at b.stage b

abbrev pub tags_nodes : Tags → ℕ
tags_nodes x = nodes_in (map tree_of_entry x.entries)

abbrev pub content_nodes : Content → ℕ
content_nodes (inline p g) = line_nodes g
content_nodes (blocks b) = block_nodes b
content_nodes (collecting x) = tags_nodes x
