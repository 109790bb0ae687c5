-- Where the bytes of a display text come from, byte by byte, and clusters of plain bytes.
use Rattle.std.specs.Int.{is_in_range}
use Rattle.std.specs.Prelude.{ℕ, Bool, not, ◌&&◌, ◌+◌, ◌-◌, ◌==◌, min, false, List, [], ◌∷◌, ◌++◌, length, get_or}
use Rattle.std.specs.Prelude.{replicate, chars}
use Rattle.tx_tree.specs.Texts.{Item, item_bytes}
use Rattle.unicode_width.specs.Width.{str_width}
use Rattle.tx_text.specs.Displays.{item_text}
use Rattle.tx_text.specs.declared.cutting.Stretch.{Stretch}
use Rattle.tx_text.specs.declared.cutting.Cluster.{Cluster}

-- for each byte of the display text of items that begin at a place, where the byte's item begins and ends
abbrev pub spread : ℕ → List Item → List Stretch
spread at [] = []
spread at (item ∷ items) =
    replicate (length (item_text item)) (record { from = at; to = at + length (item_bytes item) })
    ++ spread (at + length (item_bytes item)) items

abbrev pub nowhere : Stretch
nowhere = record { from = 0; to = 0 }

-- a cluster that begins at a place of a display text whose bytes come from these stretches
abbrev pub cluster_at : List Stretch → ℕ × List ℕ → Cluster
cluster_at places (at, glyphs) =
    record {
      glyphs = glyphs;
      cells = min 2 (str_width false (chars glyphs));
      start = (get_or places at nowhere).from;
      len = (get_or places (at + length glyphs - 1) nowhere).to - (get_or places at nowhere).from;
    }

-- a byte that shows as itself and is a cluster alone beside others of its kind
abbrev pub is_plain_byte : ℕ → Bool
is_plain_byte b = is_in_range 32 126 b && not (b == 60)

-- the cluster of such a byte at a place
abbrev pub plain_cluster : ℕ → ℕ → Cluster
plain_cluster at b = record { glyphs = b ∷ []; cells = 1; start = at; len = 1 }

-- the clusters of such bytes, the first of them at a place
abbrev pub plain_clusters : ℕ → List ℕ → List Cluster
plain_clusters at [] = []
plain_clusters at (b ∷ bs) = plain_cluster at b ∷ plain_clusters (at + 1) bs
