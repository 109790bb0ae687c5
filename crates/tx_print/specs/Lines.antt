-- Lines, and how those of pages are printed.
use Rattle.std.specs.Prelude.{ℕ, List, [], ◌∷◌, ◌++◌, replicate}
use Rattle.std.specs.List.{flat_map}
use Rattle.tx_items.specs.declared.drawing.Item.{Item}
use Rattle.tx_items.specs.declared.drawing.Item.TheVariants.{Glyph, Space, Chance, Gap, Break, PageEnd, Down}
use Rattle.tx_layout.specs.declared.layout.Line.{Line}
use Rattle.tx_text.specs.Clusters.{items_of}
use Rattle.tx_text.specs.Displays.{display_text}

-- a line ends with byte 10
abbrev pub line : List ℕ → List ℕ
line text = text ++ 10 ∷ []

abbrev pub spaces : ℕ → List ℕ
spaces n = replicate n 32

-- the display text of a text
abbrev pub shown : List ℕ → List ℕ
shown text = display_text (items_of text)

-- a cluster is printed as its characters, and a gap as a space for each of its cells
abbrev pub printed_item : Item → List ℕ
printed_item (Glyph d) = d.cluster.glyphs
printed_item (Space d) = d.cluster.glyphs
printed_item (Chance d) = []
printed_item (Gap n) = spaces n
printed_item Break = []
printed_item PageEnd = []
printed_item (Down n) = []

-- a line of a page: its indent in spaces, and its items
abbrev pub line_text : Line → List ℕ
line_text l = line (spaces l.indent ++ flat_map printed_item l.items)
