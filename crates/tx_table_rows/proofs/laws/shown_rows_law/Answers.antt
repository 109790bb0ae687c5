use Rattle.std.proofs.Common.{◌≡◌, ℕ, ◌+◌, ◌-◌, List, [], ◌∷◌, ◌++◌, Option, Some, take, drop, get_or}
use Rattle.std.proofs.Common.{ap, ◌∙◌, refl, sym, subst, arith}
use Rattle.std.specs.Prelude.{option_and_then}
use Rattle.tx_table.specs.declared.settings.Side.TheVariants.{Left}
use Rattle.tx_table.specs.Columns.{left_pad}
use Rattle.tx_origin.specs.TaggedTrees.{tagged_of}
use Rattle.tx_origin.specs.Values.{WideValue}
use Rattle.tx_units.specs.Units.{units}
use Rattle.tx_items.specs.declared.attributes.Attrs.{Attrs}
use Rattle.tx_items.specs.declared.drawing.Paragraph.{Paragraph}
use Rattle.tx_items.specs.Cells.{cells_across}
use Rattle.tx_items.specs.RowPlaces.{column_start}
use Rattle.tx_layout.specs.declared.layout.Line.{Line}
use Rattle.tx_view_form.specs.Cells.{drawn_at}
use Rattle.tx_view_form.specs.Outcomes.{Moment, beginning, outcome, unit_value}
use Rattle.tx_view_form.specs.Positions.{start_of}
use Rattle.tx_view_form.specs.Started.{attributes_of}
use Rattle.tx_view_form.specs.Views.{UnitView, IsShown}
use Rattle.tx_table_rows.specs.GridRows.{columns_of, sides_at, cells_at, row_shown, all_rows}
use Rattle.tx_table_rows.specs.RowLines.{row_line, AreBetween}
use Rattle.tx_table_rows.proofs.Showing.{table_shown}
use Rattle.tx_table_rows.proofs.Fitting.{row_full}
use Rattle.tx_table_rows.proofs.Filling.{is_row, shape_between, line_between, lines_alone, first_lines, unit_rows}
use Rattle.tx_table_rows.proofs.Filling.{row_filled}
use Rattle.tx_table_rows.proofs.Standing.{line_there, line_on_page, in_row, position_there}
use Rattle.tx_table_rows.proofs.Standing.{rows_split, page_row, unit_there}
use Rattle.tx_table_rows.proofs.laws.shown_rows_law.Goals as goal

pub returns-clause-shown : goal.returns-clause-shown
returns-clause-shown c = table_shown

pub returns-clause-rows : goal.returns-clause-rows
returns-clause-rows c = unit_rows

pub returns-clause-row : goal.returns-clause-row
returns-clause-row c = row_full c.row_law.ensures.across

pub returns-clause-cells : goal.returns-clause-cells
returns-clause-cells c = λ a v g i j cell table h there.
    c.row_law.ensures.places (columns_of a g) (sides_at g i) (cells_at a g i) j cell
    (row_full c.row_law.ensures.across a v g i table h).fits there

pub returns-clause-lines : goal.returns-clause-lines
returns-clause-lines c = λ a v g width i before after lines table h room are.
    line_between width before after (row_shown a g i) (before ++ row_shown a g i ∷ after) lines
    (λ own shape.
    c.table_place_law.ensures.line (row_shown a g i) width (columns_of a g) (sides_at g i) (cells_at a g i) own
    (is_row c.row_law.ensures.across a v g width i table h room) shape)
    are refl

pub returns-clause-all : goal.returns-clause-all
returns-clause-all c = lines_alone c.row_law.ensures.across c.table_place_law.ensures.line

pub returns-clause-wide : goal.returns-clause-wide
returns-clause-wide c = λ a v g width i before after lines table h are.
    let p : Paragraph = row_shown a g i in
    let found = shape_between width before after p (before ++ p ∷ after) lines are refl in (
      found.own,
      (found.between, row_filled c.row_law.ensures.across a v g width i found.own table h found.shape),
    )

pub returns-clause-document : goal.returns-clause-document
returns-clause-document c = λ buffers width height w n i path a g view unit h room.
    let Shown : Moment → Attrs → Option (List ℕ) → UnitView → Type 0 = λ m b p x.
    IsShown width b (unit_value (outcome (tagged_of unit.unit.tagged) m)) p x in
    let v : WideValue = unit_value (outcome (tagged_of unit.unit.tagged) unit.moment) in
    let found = unit_there width beginning (units buffers) w.units n unit.unit view.shown unit.there in
    let x : UnitView = found.0 in
    let shown : Shown unit.moment a (Some path) x =
    subst (λ p. Shown unit.moment a p x) unit.has_path
    (subst (λ b. Shown unit.moment b unit.unit.path x) (sym unit.attrs)
    (subst (λ m. Shown m (attributes_of m.env) unit.unit.path x) (sym unit.before) found.1.1)) in
    let rows : List Paragraph = all_rows a g in
    let split : x.paragraphs ≡ take i rows ++ row_shown a g i ∷ drop (i + 1) rows =
    unit_rows a v g width path x unit.table shown ∙ rows_split a g i h in
    let between : AreBetween width (take i rows) (drop (i + 1) rows) (row_line a g width i ∷ []) x.lines =
    line_between width (take i rows) (drop (i + 1) rows) (row_shown a g i) x.paragraphs x.lines
    (λ own shape.
    c.table_place_law.ensures.line (row_shown a g i) width (columns_of a g) (sides_at g i) (cells_at a g i) own
    (is_row c.row_law.ensures.across a v g width i unit.table h room) shape)
    shown.lines split in
    let above : List Line = between.above in
    record {
      above = above;
      before = between.first;
      each_one = first_lines c.row_law.ensures.across c.table_place_law.ensures.line a v g width i above unit.table h
          between.first;
      row = page_row a g width n i path w.units x above between.below found.1.0 shown.path_is between.are h room;
    }

pub returns-clause-drawn : goal.returns-clause-drawn
returns-clause-drawn c = λ a v g width i xs r path j item col table row covers.
    ap (option_and_then (λ line. drawn_at line col))
    (line_there xs r row.unit row.number (row_line a g width i) row.found row.line)
    ∙ c.table_place_law.ensures.drawn (row_shown a g i) width (columns_of a g) (sides_at g i) (cells_at a g i) j item
    col (is_row c.row_law.ensures.across a v g width i table row.within row.room) covers

pub returns-clause-place : goal.returns-clause-place
returns-clause-place c = λ a v g width i xs r path j item col m table row covers marked.
    let p : Paragraph = row_shown a g i in
    let fit = is_row c.row_law.ensures.across a v g width i table row.within row.room in
    let full = row_full c.row_law.ensures.across a v g i table row.within in
    let columns_wide = full.across in
    let start : ℕ =
    column_start (columns_of a g) j
    + left_pad (get_or (sides_at g i) j Left) (get_or (columns_of a g) j 0 - cells_across covers.cell) in
    let inside = in_row p.items covers.cell covers.front covers.back item start
    (c.row_law.ensures.places (columns_of a g) (sides_at g i) (cells_at a g i) j covers.cell full.fits covers.there)
    covers.among in
    let low = covers.from in
    let high = covers.before in
    let room = row.room in
    let page = line_on_page p width (omega arith) (omega arith) in
    position_there xs width r col row.unit row.number path (row_line a g width i) (start_of path m) (omega arith)
    row.found row.has_path row.line
    (c.table_place_law.ensures.place p width (columns_of a g) (sides_at g i) (cells_at a g i) j item col path
    (take row.number row.unit.lines) (drop (row.number + 1) row.unit.lines) m fit covers marked)
