-- The clusters of a text: its display text cut into extended grapheme clusters, each with the part of the text that
-- shows as it.
use Rattle.std.specs.Prelude.{◌≡◌, ℕ, ◌+◌, ◌-◌, ◌≤◌, ◌<◌, ◌==◌, nat_lt, min, false, true, List, [], ◌∷◌, ◌++◌, map}
use Rattle.std.specs.Prelude.{length, take, drop, chars, Option, Some, None, if◌then◌else◌}
use Rattle.std.specs.List.{flat_map}
use Rattle.tx_tree.specs.Texts.{Item, byte, symbol, item_bytes}
use Rattle.unicode_segmentation.specs.Grapheme.{graphemes}
use Rattle.unicode_segmentation.specs.Segments.{with_offsets}
use Rattle.unicode_width.specs.Width.{str_width}
use Rattle.tx_text.specs.Displays.{item_text, display_text}
use Rattle.tx_text.specs.declared.cutting.Cluster.{Cluster}

-- the items that bytes spell, after what has been read of a symbol's name, if one has begun
abbrev pub items_behind : Option (List ℕ) → List ℕ → List Item
items_behind None [] = []
items_behind (Some name) [] = []
items_behind None (b ∷ bs) = if b == 60 then items_behind (Some []) bs else byte b ∷ items_behind None bs
items_behind (Some name) (b ∷ bs) =
    if b == 62 then symbol name ∷ items_behind None bs else items_behind (Some (name ++ b ∷ [])) bs

-- the items of a text
abbrev pub items_of : List ℕ → List Item
items_of bytes = items_behind None bytes

-- The items begin at this byte of a text. Here the item begins that holds byte n of their display text.
abbrev pub item_start : ℕ → List Item → ℕ → ℕ
item_start from [] n = from
item_start from (item ∷ items) n =
    if nat_lt n (length (item_text item)) then from
    else item_start (from + length (item_bytes item)) items (n - length (item_text item))

-- where that item ends
abbrev pub item_end : ℕ → List Item → ℕ → ℕ
item_end from [] n = from
item_end from (item ∷ items) n =
    if nat_lt n (length (item_text item)) then from + length (item_bytes item)
    else item_end (from + length (item_bytes item)) items (n - length (item_text item))

-- One of the items holds byte n of their display text. It begins and ends at these bytes of the text.
pub record HoldsByte (items : List Item) (n start stop : ℕ) : Type 0 where
  pub before : List Item
  pub item : Item
  pub after : List Item
  pub are : items ≡ before ++ item ∷ after
  pub starts : start ≡ length (flat_map item_bytes before)
  pub stops : stop ≡ start + length (item_bytes item)
  pub not_before : length (display_text before) ≤ n
  pub not_after : n < length (display_text before) + length (item_text item)

-- A cluster of the display text of items, by where it begins there and its characters. It shows the text from the start
-- of the item of its first byte to the end of the item of its last byte.
abbrev pub cluster_of : List Item → ℕ × List ℕ → Cluster
cluster_of items (n, glyphs) =
    record {
      glyphs = glyphs;
      cells = min 2 (str_width false (chars glyphs));
      start = item_start 0 items n;
      len = item_end 0 items (n + length glyphs - 1) - item_start 0 items n;
    }

-- the clusters of items
abbrev pub clusters_of : List Item → List Cluster
clusters_of items = map (cluster_of items) (with_offsets 0 (graphemes true (display_text items)))

-- the item that begins at a cut of a text, alone, or none at the end of the text
abbrev pub item_beginning_at : List ℕ → ℕ → List Item
item_beginning_at bytes at = take 1 (items_of (drop at bytes))
