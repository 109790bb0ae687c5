-- Bounds of what is counted of the bytes that were read. They rise by at most 3 for each 2 bytes.
use Rattle.std.specs.Prelude.{ℕ, ◌+◌, ◌^◌, ◌<◌, max, min, List, [], ◌∷◌, Option, Some, None}
use Rattle.tx_tm_form.specs.declared.bytes.White.{White}
use Rattle.tx_tm_form.specs.declared.places.TagPlace.{TagPlace}
use Rattle.tx_tm_form.specs.declared.places.TagPlace.TheVariants.{InHeader}
use Rattle.tx_tm_form.specs.declared.measures.Sums.{Sums}
use Rattle.tx_tm_form.specs.declared.measures.LineSums.{LineSums}
use Rattle.tx_tm_form.specs.declared.measures.BlockSums.{BlockSums}
use Rattle.tx_tm_form.specs.declared.measures.ContentSums.{ContentSums}
use Rattle.tx_tm_form.specs.declared.measures.ContentSums.TheVariants.{Argument, Block, Tags}
use Rattle.tx_tm_form.specs.declared.measures.PartSums.{PartSums}
use Rattle.tx_tm_form.specs.declared.measures.PartSums.TheVariants.{Gap, Text, Tag}
use Rattle.tx_tm_form.specs.declared.measures.OpenSums.{OpenSums}
use Rattle.tx_tm_form.specs.declared.measures.Within.{Within}
use Rattle.tx_tm_form.specs.declared.measures.Within.TheVariants.{Parts, Symbol, Digits}
use Rattle.tx_tm_form.specs.Measures.{Gauge}

-- numbers of 64 bits hold it, and one more
abbrev pub IsSmallCount : ℕ → Type 0
IsSmallCount n = n + 1 < 2 ^ 64

-- the greatest of the numbers that are added up
abbrev pub most_of : Sums → ℕ
most_of s = max s.count (max s.depth s.size)

-- the bound for the tree of a line: its trees, the text after them as a leaf, and a node of both
abbrev pub most_in_line : LineSums → ℕ
most_in_line g = most_of g.done + g.length + min 1 g.done.count + 1

-- what a part adds
abbrev pub most_in_part : PartSums → ℕ
most_in_part (Gap w) = 1
most_in_part (Text n) = n
most_in_part (Tag c s) = most_of s + 2

-- a run becomes a byte of text, or begins a paragraph
abbrev pub of_run : Option White → ℕ
of_run None = 0
of_run (Some w) = 1

-- the bound for the tree of a block
abbrev pub most_in_block : BlockSums → ℕ
most_in_block b = most_of b.full + most_in_line b.now + of_run b.run + 1

-- a block follows a header
abbrev pub of_place : TagPlace → ℕ
of_place InHeader = 1
of_place p = 0

-- the bound for the tags, or for what they are as an ordinary block
abbrev pub most_in_content : ContentSums → ℕ
most_in_content (Argument p g) = most_in_line g + of_place p
most_in_content (Block b) = most_in_block b
most_in_content (Tags s b) = max (most_of s) (most_in_block b)

-- the bound for a tag, as a part of what is before it
abbrev pub most_in_open : OpenSums → ℕ
most_in_open o = most_in_content o.before + most_of o.children + 2

-- the bound for all open tags
abbrev pub most_in_opens : List OpenSums → ℕ
most_in_opens [] = 0
most_in_opens (o ∷ os) = most_in_open o + most_in_opens os

-- the bound for a symbol, or for raw data
abbrev pub most_within : Within → ℕ
most_within Parts = 0
most_within (Symbol n) = n + 2
most_within (Digits n) = n + 3

-- the bound for the innermost content and the tags round it
abbrev pub most_at : ContentSums → List OpenSums → ℕ
most_at here os = most_in_content here + most_in_opens os

abbrev pub most_in : Gauge → ℕ
most_in g = most_within g.within + most_at g.here g.opens

-- a token more adds 4 at most
abbrev pub HasRoom : ContentSums → List OpenSums → Type 0
HasRoom here os = IsSmallCount (most_at here os + 4)
