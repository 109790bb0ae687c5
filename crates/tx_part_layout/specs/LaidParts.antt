-- The layouts of the parts of a nested paragraph, each by itself, and that of the paragraph by them.
use Rattle.std.specs.Prelude.{◌≡◌, ℕ, ◌+◌, Bool, false, not, ◌&&◌, if◌then◌else◌, List, [], ◌∷◌, ◌++◌, map, length}
use Rattle.std.specs.Prelude.{Option, Some, None}
use Rattle.std.specs.List.{All, flat_map, sum_by}
use Rattle.std.specs.Ordering.{int_eq}
use Rattle.std.specs.Str.{bytes_eq}
use Rattle.tx_tree.specs.WideTree.{WideTree}
use Rattle.tx_exec_form.specs.declared.TheConstants.{MOST_LEVELS}
use Rattle.tx_origin.specs.Values.{WideValue}
use Rattle.tx_walk.specs.declared.part.Part.{Part as DonePart}
use Rattle.tx_items.specs.declared.attributes.Attrs.{Attrs}
use Rattle.tx_items.specs.declared.drawing.Paragraph.{Paragraph}
use Rattle.tx_items.specs.Shows.{show, is_blank, part_paragraphs, shown_paragraphs}
use Rattle.tx_layout.specs.declared.layout.Line.{Line}
use Rattle.tx_view_form.specs.Views.{AreLines}
use Rattle.tx_part_items.specs.ItemsUnder.{paragraph_under}
use Rattle.tx_part_items.specs.ShownParts.{PartValue, ShownPart, PartsShown, own_paragraphs}
use Rattle.tx_part_items.specs.ShownParts.{paragraphs_by_parts, errors_by_parts, parts_shown}
use Rattle.tx_part_layout.specs.LinesUnder.{line_under}
use Rattle.tx_part_layout.specs.declared.laid.LaidPart.{LaidPart}
use Rattle.tx_part_layout.specs.declared.laid.PlacedPart.{PlacedPart}
use Rattle.tx_part_layout.specs.declared.laid.LaidUnit.{LaidUnit}

-- ---- a part

-- The layout of a part is what its value shows, by itself. As a paragraph without an item it has some attributes,
-- here `end`.
pub record IsLaidPart (width : ℕ) (p : LaidPart) : Type 0 where
  pub end : Attrs
  pub paragraphs : p.paragraphs.items ≡ part_paragraphs (show p.before p.value).form end
  pub errors : p.errors.items ≡ (show p.before p.value).errors
  pub after : p.after ≡ (show p.before p.value).after
  pub blank : p.blank ≡ is_blank (show p.before p.value).form
  pub lines : AreLines width p.paragraphs.items p.lines

-- what a part is laid out from: its path, its value alone, and the attributes before it
pub record LaidFrom : Type 0 where
  pub path : List ℕ
  pub value : WideValue
  pub before : Attrs

abbrev pub laid_from : PlacedPart → LaidFrom
laid_from p = record { path = p.path; value = p.laid.value.value; before = p.laid.value.before }

abbrev pub shown_from : ShownPart → LaidFrom
shown_from p = record { path = p.path; value = p.value; before = p.before }

-- a part's path, and its value alone
abbrev pub done_value : DonePart → PartValue
done_value p = record { path = p.path; value = p.trace.value }

-- ---- parts in their places

-- the part at another path
abbrev pub put_to : List ℕ → PlacedPart → PlacedPart
put_to path p = record p { path = path }

abbrev pub laid_paragraphs : PlacedPart → List Paragraph
laid_paragraphs p = p.laid.value.paragraphs.items

-- with their origins in the unit
abbrev pub paragraphs_placed : PlacedPart → List Paragraph
paragraphs_placed p = map (paragraph_under p.path) (laid_paragraphs p)

abbrev pub lines_placed : PlacedPart → List Line
lines_placed p = map (line_under p.path) p.laid.value.lines

abbrev pub placed_paragraphs : List PlacedPart → List Paragraph
placed_paragraphs ps = flat_map paragraphs_placed ps

abbrev pub placed_lines : List PlacedPart → List Line
placed_lines ps = flat_map lines_placed ps

-- each part has the number of lines of its unit above it, where so many are above the first
abbrev pub AreBelow : ℕ → List PlacedPart → Type 0
AreBelow n [] = Unit {0}
AreBelow n (p ∷ ps) = (p.above ≡ n) × AreBelow (n + length p.laid.value.lines) ps

-- ---- former layouts

abbrev pub laid_paths : List PlacedPart → List (List ℕ)
laid_paths ps = map (λ p. p.path) ps

-- the former layout of the part, unless it was renewed, is of its value
abbrev pub IsOfValue : PlacedPart → DonePart → Type 0
IsOfValue p d = p.path ≡ d.path → d.renewed ≡ false → p.laid.value.value ≡ d.trace.value

abbrev pub same_attrs : Attrs → Attrs → Bool
same_attrs a b =
    int_eq a.left b.left && int_eq a.right b.right && int_eq a.first b.first && bytes_eq a.series b.series
    && bytes_eq a.shape b.shape && bytes_eq a.color b.color && bytes_eq a.mode b.mode

-- the attributes before the first former layout at the path
abbrev pub before_at : List PlacedPart → List ℕ → Option Attrs
before_at [] path = None
before_at (p ∷ ps) path = if bytes_eq p.path path then Some p.laid.value.before else before_at ps path

abbrev pub is_before : Option Attrs → Attrs → Bool
is_before None a = false
is_before (Some b) a = same_attrs b a

-- the former layout of a part is reused, where these are the attributes before it
abbrev pub is_reused : List PlacedPart → DonePart → Attrs → Bool
is_reused old d a = not d.renewed && is_before (before_at old d.path) a

-- how many items paragraphs have
abbrev pub items_in : List Paragraph → ℕ
items_in ps = sum_by (λ p. length p.items) ps

-- the items of the parts that are laid out anew
abbrev pub items_anew : List PlacedPart → List DonePart → List ShownPart → ℕ
items_anew old [] ps = 0
items_anew old (d ∷ ds) [] = 0
items_anew old (d ∷ ds) (p ∷ ps) =
    (if is_reused old d p.before then 0 else items_in (own_paragraphs p)) + items_anew old ds ps

-- ---- a unit

-- what the parts of a unit show, by their values
abbrev pub whole_shown : Attrs → List DonePart → WideTree → PartsShown
whole_shown a ds t = parts_shown MOST_LEVELS (λ b. b) a (map done_value ds) t

-- The layout of a unit whose parts show this. What it has besides its parts comes after them.
pub record IsLaidUnit (width : ℕ) (s : PartsShown) (u : LaidUnit) : Type 0 where
  pub parts : map laid_from u.parts.items ≡ map shown_from s.each
  pub each : All (λ p. IsLaidPart width p.laid.value) u.parts.items
  pub below : AreBelow 0 u.parts.items
  pub paragraphs : placed_paragraphs u.parts.items ++ u.paragraphs.items ≡ paragraphs_by_parts s
  pub errors : u.errors.items ≡ errors_by_parts s
  pub lines : AreLines width (placed_paragraphs u.parts.items ++ u.paragraphs.items)
      (placed_lines u.parts.items ++ u.lines)

-- The layout of a unit with this value and these parts.
pub record ShowsValue (width : ℕ) (a : Attrs) (v : WideValue) (ds : List DonePart) (u : LaidUnit) : Type 0 where
  pub paths : map (λ p. p.path) u.parts.items ≡ map (λ d. d.path) ds
  pub values : map (λ p. p.laid.value.value) u.parts.items ≡ map (λ d. d.trace.value) ds
  pub paragraphs : placed_paragraphs u.parts.items ++ u.paragraphs.items ≡ shown_paragraphs a v
  pub errors : u.errors.items ≡ (show a v).errors
  pub lines : AreLines width (placed_paragraphs u.parts.items ++ u.paragraphs.items)
      (placed_lines u.parts.items ++ u.lines)
