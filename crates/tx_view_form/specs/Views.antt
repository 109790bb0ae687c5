-- The view of buffers from nothing: what each unit shows, and the pages.
use Rattle.std.specs.Prelude.{◌≡◌, ℕ, List, [], ◌∷◌, ◌++◌, Option, Some, None}
use Rattle.std.specs.List.{flat_map}
use Rattle.tx_origin.specs.TaggedTrees.{tagged_of}
use Rattle.tx_origin.specs.Values.{WideValue}
use Rattle.tx_doc.specs.declared.buffer.Buffer.{Buffer}
use Rattle.tx_units.specs.declared.kinds.Unit.{Unit as DocUnit}
use Rattle.tx_units.specs.Units.{units}
use Rattle.tx_items.specs.declared.attributes.Attrs.{Attrs}
use Rattle.tx_items.specs.declared.drawing.Paragraph.{Paragraph}
use Rattle.tx_items.specs.declared.drawing.ErrorAt.{ErrorAt}
use Rattle.tx_items.specs.Shows.{show, shown_paragraphs}
use Rattle.tx_lines.specs.declared.cut.Cut.{Cut}
use Rattle.tx_layout.specs.declared.layout.Line.{Line}
use Rattle.tx_layout.specs.Shapes.{IsShape}
use Rattle.tx_layout.specs.Paging.{PagesFrom}
use Rattle.tx_view_form.specs.Outcomes.{Moment, beginning, outcome, behind, unit_value}
use Rattle.tx_view_form.specs.Started.{attributes_of}

-- what is shown of a unit; one without a path is on no page
pub record UnitView : Type 0 where
  pub path : Option (List ℕ)
  pub errors : List ErrorAt
  pub paragraphs : List Paragraph
  pub lines : List Line

-- the lines of paragraphs on a page of this width, in order
pub data AreLines (width : ℕ) : List Paragraph → List Line → Type 0 where
  no_lines : AreLines width [] []
  lines_then : (p : Paragraph) (ps : List Paragraph) (own others : List Line) → IsShape p width own
      → AreLines width ps others → AreLines width (p ∷ ps) (own ++ others)

-- the paragraphs of a unit that has a path
abbrev pub paragraphs_at : Option (List ℕ) → Attrs → WideValue → List Paragraph
paragraphs_at None a v = []
paragraphs_at (Some path) a v = shown_paragraphs a v

-- what is shown of a unit with this path, where these are the attributes before it and this is its value
pub record IsShown (width : ℕ) (a : Attrs) (v : WideValue) (path : Option (List ℕ)) (x : UnitView) : Type 0 where
  pub path_is : x.path ≡ path
  pub errors : x.errors ≡ (show a v).errors
  pub paragraphs : x.paragraphs ≡ paragraphs_at path a v
  pub lines : AreLines width x.paragraphs x.lines

-- what is shown of units, from this moment on
abbrev pub AreShown : ℕ → Moment → List DocUnit → List UnitView → Type 0
AreShown width m [] [] = Unit {0}
AreShown width m [] (x ∷ xs) = ⊥
AreShown width m (u ∷ us) [] = ⊥
AreShown width m (u ∷ us) (x ∷ xs) =
    IsShown width (attributes_of m.env) (unit_value (outcome (tagged_of u.tagged) m)) u.path x
    × AreShown width (behind m (outcome (tagged_of u.tagged) m)) us xs

-- the lines of all units
abbrev pub lines_of : List UnitView → List Line
lines_of xs = flat_map (λ x. x.lines) xs

pub record WideView : Type 0 where
  pub units : List UnitView
  pub pages : List Cut

-- this is the view of the buffers on pages of this width and height
pub record IsView (buffers : List Buffer) (width height : ℕ) (v : WideView) : Type 0 where
  pub shown : AreShown width beginning (units buffers) v.units
  pub paged : PagesFrom (lines_of v.units) height 0 v.pages
