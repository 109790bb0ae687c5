use Rattle.std.proofs.Common.{◌≡◌, sym, ap, ◌∙◌, is_some, List, Option}
use Rattle.tx_layout.specs.declared.layout.Line.{Line}
use Rattle.tx_part_layout.specs.LinesUnder.{line_under}
use Rattle.tx_view_form.specs.Positions.{Mark, marks_of, items_on}
use Rattle.tx_unit_layout.specs.Stretches.{part_or_root}
use Rattle.tx_unit_layout.specs.Views.{unit_view}
use Rattle.tx_unit_layout.proofs.Stretching.{unit_lines}
use Rattle.tx_view.specs.Marks.{first_of}
use Rattle.tx_view.proofs.RowAlone.{marked_indent, empty_indent, first_indent}
use Rattle.tx_view.proofs.moves.bare_indent.Goals as goal

pub returns-then-is_some : goal.returns-then-is_some
returns-then-is_some c =
    let lines : List Line = (unit_view c.args.unit.now).lines in
    let first : first_of (marks_of (items_on lines)) ≡ c.first_from.result =
    ap (λ ls. first_of (marks_of (items_on ls))) (unit_lines c.args.unit.now) ∙ sym c.first_from.ensures in
    marked_indent (marks_of (items_on lines)) lines
    (ap is_some first ∙ sym c.is_some.ensures ∙ c.if-is_some.true)

pub returns : goal.returns
returns c =
    let lines : List Line = (unit_view c.args.unit.now).lines in
    let first : first_of (marks_of (items_on lines)) ≡ c.first_from.result =
    ap (λ ls. first_of (marks_of (items_on ls))) (unit_lines c.args.unit.now) ∙ sym c.first_from.ensures in
    first_indent (marks_of (items_on lines)) lines _
    (ap is_some first ∙ sym c.is_some.ensures ∙ c.if-is_some.false) c.line_in.ensures.line
