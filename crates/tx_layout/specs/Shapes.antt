-- The lines of a paragraph: those of its segments, and what the cuts between them add.
use Rattle.std.specs.Prelude.{◌≡◌, ℕ, Bool, true, false, not, ◌&&◌, List, [], ◌∷◌, ◌++◌, map, replicate, All}
use Rattle.std.specs.Prelude.{if◌then◌else◌}
use Rattle.tx_items.specs.declared.drawing.Item.{Item}
use Rattle.tx_items.specs.declared.drawing.Item.TheVariants.{Glyph, Space, Chance, Gap, Break, PageEnd, Down}
use Rattle.tx_items.specs.declared.drawing.Paragraph.{Paragraph}
use Rattle.tx_layout.specs.declared.measures.Frame.{Frame}
use Rattle.tx_layout.specs.declared.layout.Line.{Line}
use Rattle.tx_layout.specs.Frames.{line_frame, least_width}
use Rattle.tx_layout.specs.Words.{capped_item}
use Rattle.tx_layout.specs.Segments.{HasWords}

-- what cuts a paragraph into segments
abbrev pub is_break : Item → Bool
is_break (Glyph d) = false
is_break (Space d) = false
is_break (Chance d) = false
is_break (Gap n) = false
is_break Break = true
is_break PageEnd = true
is_break (Down n) = true

abbrev pub Cutting : Item → Type 0
Cutting item = is_break item ≡ true

abbrev pub Whole : Item → Type 0
Whole item = is_break item ≡ false

abbrev pub empty_line : Line
empty_line = record { indent = 0; items = []; page_end = false }

abbrev pub page_ending : Line → Line
page_ending line = record line { page_end = true }

-- the last element is changed
abbrev pub with_last : {X : Type 0} → (X → X) → List X → List X
with_last change [] = []
with_last change (x ∷ []) = change x ∷ []
with_last change (x ∷ (y ∷ ys)) = x ∷ with_last change (y ∷ ys)

-- what a cut makes of the lines of the segment before it, by what marks a line and an empty line
abbrev pub behind_cut_by : {X : Type 0} → (X → X) → X → Item → List X → List X
behind_cut_by mark empty (Glyph d) lines = lines
behind_cut_by mark empty (Space d) lines = lines
behind_cut_by mark empty (Chance d) lines = lines
behind_cut_by mark empty (Gap n) lines = lines
behind_cut_by mark empty Break lines = lines
behind_cut_by mark empty PageEnd lines = with_last mark lines
behind_cut_by mark empty (Down n) lines = lines ++ replicate n empty

abbrev pub behind_cut : Item → List Line → List Line
behind_cut cut lines = behind_cut_by page_ending empty_line cut lines

-- a segment without a word gives an empty line, but none where it is the last, after a cut
abbrev pub or_single : {X : Type 0} → X → Bool → Bool → List X → List X
or_single empty is_first is_last [] = if is_last && not is_first then [] else empty ∷ []
or_single empty is_first is_last (line ∷ lines) = line ∷ lines

abbrev pub or_empty : Bool → Bool → List Line → List Line
or_empty is_first is_last lines = or_single empty_line is_first is_last lines

-- the lines of the first segment of a paragraph and those after it, or of later ones alone
pub data HasLines (frame : Frame) : Bool → List Item → List Line → Type 0 where
  last_segment : (is_first : Bool) (segment : List Item) (words : List Line) → All Whole segment
      → HasWords frame is_first segment words → HasLines frame is_first segment (or_empty is_first true words)
  then_cut : (is_first : Bool) (items segment : List Item) (cut : Item) (rest : List Item) (words others : List Line)
      → items ≡ segment ++ cut ∷ rest → All Whole segment → is_break cut ≡ true → HasWords frame is_first segment words
      → HasLines frame false rest others
      → HasLines frame is_first items (behind_cut cut (or_empty is_first false words) ++ others)

-- what is on a line wherever the line ends
abbrev pub is_ink : Item → Bool
is_ink (Glyph d) = true
is_ink (Space d) = false
is_ink (Chance d) = true
is_ink (Gap n) = true
is_ink Break = false
is_ink PageEnd = false
is_ink (Down n) = false

-- the clusters among it
abbrev pub is_ink_cluster : Item → Bool
is_ink_cluster (Glyph d) = true
is_ink_cluster (Space d) = false
is_ink_cluster (Chance d) = true
is_ink_cluster (Gap n) = false
is_ink_cluster Break = false
is_ink_cluster PageEnd = false
is_ink_cluster (Down n) = false

-- the items of a paragraph as they are on lines
abbrev pub items_shown : Paragraph → ℕ → List Item
items_shown p width = map (capped_item (least_width (line_frame p width))) p.items

-- these are the lines of the paragraph on a page of this width
abbrev pub IsShape : Paragraph → ℕ → List Line → Type 0
IsShape p width lines = HasLines (line_frame p width) true (items_shown p width) lines
