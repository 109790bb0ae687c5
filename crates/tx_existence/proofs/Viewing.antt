-- Buffers have a view.
use Rattle.std.proofs.Common.{ℕ, ◌<◌, ◌≤◌, List, [], ◌∷◌, ◌++◌, Option, Some, None, refl}
use Rattle.std.specs.Prelude.{All}
use Rattle.std.proofs.lemmas.List.Elements.{All-nil, All-head, All-tail}
use Rattle.tx_doc.specs.declared.buffer.Buffer.{Buffer}
use Rattle.tx_origin.specs.TaggedTrees.{tagged_of}
use Rattle.tx_origin.specs.Values.{WideValue}
use Rattle.tx_units.specs.declared.kinds.Unit.{Unit as DocUnit}
use Rattle.tx_units.specs.Units.{units}
use Rattle.tx_items.specs.declared.attributes.Attrs.{Attrs}
use Rattle.tx_items.specs.declared.drawing.Paragraph.{Paragraph}
use Rattle.tx_items.specs.Narrow.{IsNarrow}
use Rattle.tx_items.specs.Shows.{show}
use Rattle.tx_layout.specs.declared.layout.Line.{Line}
use Rattle.tx_view_form.specs.Outcomes.{Moment, beginning, outcome, behind, unit_value}
use Rattle.tx_view_form.specs.Started.{attributes_of}
use Rattle.tx_view_form.specs.Views.{UnitView, AreLines, no_lines, lines_then, paragraphs_at, IsShown, AreShown}
use Rattle.tx_view_form.specs.Views.{lines_of, WideView, IsView}
use Rattle.tx_existence.proofs.Narrow.{shown_narrow}
use Rattle.tx_existence.proofs.Shaping.{some_shape}
use Rattle.tx_existence.proofs.Paging.{some_paging}

abbrev AreNarrow : Paragraph → Type 0
AreNarrow p = All IsNarrow p.items

narrow_at : (path : Option (List ℕ)) (a : Attrs) (v : WideValue) → All AreNarrow (paragraphs_at path a v)
narrow_at None a v = All-nil AreNarrow
narrow_at (Some path) a v = shown_narrow a v

some_lines : (width : ℕ) (ps : List Paragraph) → 20 ≤ width → All AreNarrow ps
    → (lines : List Line) × AreLines width ps lines
some_lines width [] wide narrow = ([], no_lines)
some_lines width (p ∷ ps) wide narrow =
    let own = some_shape p width wide (All-head AreNarrow p ps narrow) in
    let others = some_lines width ps wide (All-tail AreNarrow p ps narrow) in
    (own.0 ++ others.0, lines_then p ps own.0 others.0 own.1 others.1)

some_unit : (width : ℕ) (a : Attrs) (v : WideValue) (path : Option (List ℕ)) → 20 ≤ width
    → (x : UnitView) × IsShown width a v path x
some_unit width a v path wide =
    let ps : List Paragraph = paragraphs_at path a v in
    let lines = some_lines width ps wide (narrow_at path a v) in (
      record { path = path; errors = (show a v).errors; paragraphs = ps; lines = lines.0 },
      record { path_is = refl; errors = refl; paragraphs = refl; lines = lines.1 },
    )

some_units : (width : ℕ) (m : Moment) (us : List DocUnit) → 20 ≤ width
    → (xs : List UnitView) × AreShown width m us xs
some_units width m [] wide = ([], tt)
some_units width m (u ∷ us) wide =
    let own =
    some_unit width (attributes_of m.env) (unit_value (outcome (tagged_of u.tagged) m)) u.path wide in
    let others = some_units width (behind m (outcome (tagged_of u.tagged) m)) us wide in
    (own.0 ∷ others.0, (own.1, others.1))

pub some_view : (buffers : List Buffer) (width height : ℕ) → 20 ≤ width → 0 < height
    → (v : WideView) × IsView buffers width height v
some_view buffers width height wide high =
    let shown = some_units width beginning (units buffers) wide in
    let pages = some_paging (lines_of shown.0) height high in
    (record { units = shown.0; pages = pages.0 }, record { shown = shown.1; paged = pages.1 })
