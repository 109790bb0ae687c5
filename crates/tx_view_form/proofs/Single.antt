-- Buffers have one view.
use Rattle.std.proofs.Common.{◌≡◌, ℕ, List, [], ◌∷◌, ◌++◌, Option, refl, sym, ap, ap₂, ◌∙◌, subst}
use Rattle.tx_doc.specs.declared.buffer.Buffer.{Buffer}
use Rattle.tx_origin.specs.TaggedTrees.{tagged_of}
use Rattle.tx_origin.specs.Values.{WideValue}
use Rattle.tx_units.specs.declared.kinds.Unit.{Unit as DocUnit}
use Rattle.tx_units.specs.Units.{units}
use Rattle.tx_items.specs.declared.attributes.Attrs.{Attrs}
use Rattle.tx_items.specs.declared.drawing.ErrorAt.{ErrorAt}
use Rattle.tx_items.specs.declared.drawing.Paragraph.{Paragraph}
use Rattle.tx_lines.specs.declared.cut.Cut.{Cut}
use Rattle.tx_layout.specs.declared.layout.Line.{Line}
use Rattle.tx_layout.specs.Paging.{PagesFrom}
use Rattle.tx_layout.specs.Shapes.{IsShape}
use Rattle.tx_view_form.specs.Outcomes.{Moment, beginning, outcome, behind, unit_value}
use Rattle.tx_view_form.specs.Started.{attributes_of}
use Rattle.tx_view_form.specs.Views.{UnitView, AreLines, IsShown, AreShown, lines_of, WideView, IsView}
use Rattle.tx_view_form.proofs.Parting.{IsParted, parted}

-- a paragraph has one list of lines
abbrev pub OneShape : Type 0
OneShape = (p : Paragraph) (width : ℕ) (xs ys : List Line) → IsShape p width xs → IsShape p width ys → xs ≡ ys

-- lines have one list of pages
abbrev pub OnePaging : Type 0
OnePaging = (lines : List Line) (height : ℕ) (xs ys : List Cut) → PagesFrom lines height 0 xs
    → PagesFrom lines height 0 ys → xs ≡ ys

module _ (one_shape : OneShape) (one_paging : OnePaging) where
  lines_once : (width : ℕ) (ps : List Paragraph) (xs ys : List Line) → AreLines width ps xs → AreLines width ps ys
      → xs ≡ ys
  lines_once width [] xs ys h k =
      let one : xs ≡ [] = parted width [] xs h in
      let other : ys ≡ [] = parted width [] ys k in
      one ∙ sym other
  lines_once width (p ∷ ps) xs ys h k =
      let x : IsParted width p ps xs = parted width (p ∷ ps) xs h in
      let y : IsParted width p ps ys = parted width (p ∷ ps) ys k in
      let own : x.own ≡ y.own = one_shape p width x.own y.own x.shape y.shape in
      let others : x.others ≡ y.others = lines_once width ps x.others y.others x.behind y.behind in
      x.is ∙ ap₂ (λ front rest. front ++ rest) own others ∙ sym y.is

  unit_once : (width : ℕ) (a : Attrs) (v : WideValue) (path : Option (List ℕ)) (x y : UnitView)
      → IsShown width a v path x → IsShown width a v path y → x ≡ y
  unit_once width a v path x y h k =
      let made : Option (List ℕ) → List ErrorAt → List Paragraph → List Line → UnitView =
      λ at es ps ls. record { path = at; errors = es; paragraphs = ps; lines = ls } in
      let paths : x.path ≡ y.path = h.path_is ∙ sym k.path_is in
      let errors : x.errors ≡ y.errors = h.errors ∙ sym k.errors in
      let paragraphs : x.paragraphs ≡ y.paragraphs = h.paragraphs ∙ sym k.paragraphs in
      let lines : x.lines ≡ y.lines =
      lines_once width x.paragraphs x.lines y.lines h.lines
      (subst (λ ps. AreLines width ps y.lines) (sym paragraphs) k.lines) in
      ap (λ at. made at x.errors x.paragraphs x.lines) paths
      ∙ ap (λ es. made y.path es x.paragraphs x.lines) errors
      ∙ ap₂ (λ ps ls. made y.path y.errors ps ls) paragraphs lines

  shown_once : (width : ℕ) (m : Moment) (us : List DocUnit) (xs ys : List UnitView) → AreShown width m us xs
      → AreShown width m us ys → xs ≡ ys
  shown_once width m [] [] [] h k = refl
  shown_once width m [] [] (y ∷ ys) h k = absurd k
  shown_once width m [] (x ∷ xs) ys h k = absurd h
  shown_once width m (u ∷ us) [] ys h k = absurd h
  shown_once width m (u ∷ us) (x ∷ xs) [] h k = absurd k
  shown_once width m (u ∷ us) (x ∷ xs) (y ∷ ys) h k =
      ap₂ (λ z zs. z ∷ zs)
      (unit_once width (attributes_of m.env) (unit_value (outcome (tagged_of u.tagged) m)) u.path x y h.0 k.0)
      (shown_once width (behind m (outcome (tagged_of u.tagged) m)) us xs ys h.1 k.1)

  pub views_once : (buffers : List Buffer) (width height : ℕ) (v w : WideView) → IsView buffers width height v
      → IsView buffers width height w → v ≡ w
  views_once buffers width height v w h k =
      let made : List UnitView → List Cut → WideView = λ us ps. record { units = us; pages = ps } in
      let same : v.units ≡ w.units = shown_once width beginning (units buffers) v.units w.units h.shown k.shown in
      let pages : v.pages ≡ w.pages =
      one_paging (lines_of v.units) height v.pages w.pages h.paged
      (subst (λ us. PagesFrom (lines_of us) height 0 w.pages) (sym same) k.paged) in
      ap₂ (λ us ps. made us ps) same pages
