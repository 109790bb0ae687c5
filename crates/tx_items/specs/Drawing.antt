-- Clusters as items, and items as a paragraph.
use Rattle.std.specs.Prelude.{ℕ, Bool, List, [], ◌∷◌, map, Option, if◌then◌else◌, codes}
use Rattle.std.specs.Str.{bytes_eq}
use Rattle.tx_text.specs.declared.cutting.Cluster.{Cluster}
use Rattle.tx_text.specs.Clusters.{items_of, clusters_of}
use Rattle.tx_items.specs.declared.attributes.Attrs.{Attrs}
use Rattle.tx_items.specs.Looks.{WideLook}
use Rattle.tx_items.specs.declared.drawing.Item.{Item}
use Rattle.tx_items.specs.declared.drawing.Item.TheVariants.{Glyph, Space, Chance}
use Rattle.tx_items.specs.declared.drawing.Paragraph.{Paragraph}

-- one space
abbrev pub is_space : List ℕ → Bool
is_space glyphs = bytes_eq glyphs (codes " ")

-- the bytes of a zero-width space, U+200B
abbrev pub is_chance : List ℕ → Bool
is_chance glyphs = bytes_eq glyphs (0xE2 ∷ 0x80 ∷ 0x8B ∷ [])

-- how a text with an origin, or without, looks
abbrev pub look_of : Attrs → Option (List ℕ) → WideLook
look_of a at = record { at = at; series = a.series; shape = a.shape; color = a.color }

abbrev pub item_of : WideLook → Cluster → Item
item_of look cluster =
    if is_space cluster.glyphs then Space (record { cluster = cluster; look = look })
    else if is_chance cluster.glyphs then Chance (record { cluster = cluster; look = look })
    else Glyph (record { cluster = cluster; look = look })

-- a text gives its clusters
abbrev pub drawn : Attrs → Option (List ℕ) → List ℕ → List Item
drawn a at words = map (item_of (look_of a at)) (clusters_of (items_of words))

abbrev pub paragraph : List Item → Attrs → Paragraph
paragraph items a = record { items = items; mode = a.mode; left = a.left; right = a.right; first = a.first }
