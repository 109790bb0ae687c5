-- The words of a segment, cut into pieces no wider than the least width, by places.
use Rattle.std.specs.Prelude.{◌≡◌, ℕ, ◌+◌, ◌-◌, ◌<◌, ◌≤◌, ◌⊎◌, min, Bool, true, false, List, [], ◌∷◌, length, drop}
use Rattle.std.specs.Prelude.{All, slice_range}
use Rattle.tx_items.specs.declared.drawing.Item.{Item}
use Rattle.tx_items.specs.declared.drawing.Item.TheVariants.{Glyph, Space, Chance, Gap, Break, PageEnd, Down}
use Rattle.tx_items.specs.Cells.{cells_across}
use Rattle.tx_layout.specs.declared.pieces.Span.{Span}

-- a gap counts as at most the least width
abbrev pub capped_item : ℕ → Item → Item
capped_item least (Glyph d) = Glyph d
capped_item least (Space d) = Space d
capped_item least (Chance d) = Chance d
capped_item least (Gap n) = Gap (min n least)
capped_item least Break = Break
capped_item least PageEnd = PageEnd
capped_item least (Down n) = Down n

abbrev pub is_blank_item : Item → Bool
is_blank_item (Glyph d) = false
is_blank_item (Space d) = true
is_blank_item (Chance d) = false
is_blank_item (Gap n) = false
is_blank_item Break = false
is_blank_item PageEnd = false
is_blank_item (Down n) = false

abbrev pub Blank : Item → Type 0
Blank item = is_blank_item item ≡ true

abbrev pub Solid : Item → Type 0
Solid item = is_blank_item item ≡ false

abbrev pub is_chance_item : Item → Bool
is_chance_item (Glyph d) = false
is_chance_item (Space d) = false
is_chance_item (Chance d) = true
is_chance_item (Gap n) = false
is_chance_item Break = false
is_chance_item PageEnd = false
is_chance_item (Down n) = false

-- a line may end after the item
abbrev pub Breakable : Item → Type 0
Breakable item = is_chance_item item ≡ true

abbrev pub Unbreakable : Item → Type 0
Unbreakable item = is_chance_item item ≡ false

-- Spaces, which may be none, and a piece of a word after them, in which only the last item may be a chance. The piece
-- ends at a space, at the end of the items, after a chance, or where one item more would make it too wide.
pub record IsSpan (least : ℕ) (items : List Item) (s : Span) : Type 0 where
  pub onward : s.spaces ≤ s.from
  pub some : s.from < s.to
  pub within : s.to ≤ length items
  pub blank : All Blank (slice_range items s.spaces s.from)
  pub solid : All Solid (slice_range items s.from s.to)
  pub unbroken : All Unbreakable (slice_range items s.from (s.to - 1))
  pub narrow : cells_across (slice_range items s.from s.to) ≤ least
  pub greatest : s.to < length items →
      All Blank (slice_range items s.to (s.to + 1)) ⊎ All Breakable (slice_range items (s.to - 1) s.to)
      ⊎ (least < cells_across (slice_range items s.from (s.to + 1)))

-- from a place on the items are these pieces, in order, and spaces
abbrev pub SpansFrom : ℕ → List Item → ℕ → List Span → Type 0
SpansFrom least items at [] = All Blank (drop at items)
SpansFrom least items at (s ∷ ss) = (s.spaces ≡ at) × IsSpan least items s × SpansFrom least items s.to ss
