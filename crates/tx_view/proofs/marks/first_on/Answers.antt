use Rattle.std.proofs.Common.{List, ℕ, sym, ap, ◌∙◌}
use Rattle.std.specs.Prelude.{Some, None, option_copied}
use Rattle.tx_unit_layout.specs.Stretches.{part_or_root}
use Rattle.tx_view.specs.Marks.{first_of}
use Rattle.tx_view.proofs.Finding.{first_step, marks_on, on_join, one_line}
use Rattle.tx_view.proofs.marks.first_on.Goals as goal

pub returns-in-Some : goal.returns-in-Some
returns-in-Some c =
    let b : List ℕ = part_or_root (option_copied c.args.part) in
    sym (first_step (marks_on b) (on_join b) c.args.lines.now (first_of (marks_on b c.args.lines.now))
    c.loop-line.line-index c.line-item.result (Some c.in-Some.mark) c.loop-line-test.true c.line-item.is
    (sym c.in-Some.is ∙ c.first_mark.ensures
    ∙ ap first_of (one_line b c.line-item.result c.all.result.now c.all.ensures)) c.loop-line.invariant)

pub loop-line-preserved : goal.loop-line-preserved
loop-line-preserved c =
    let b : List ℕ = part_or_root (option_copied c.args.part) in
    first_step (marks_on b) (on_join b) c.args.lines.now (first_of (marks_on b c.args.lines.now))
    c.loop-line.line-index c.line-item.result None c.loop-line-test.true c.line-item.is
    (sym c.in_default.is ∙ c.first_mark.ensures
    ∙ ap first_of (one_line b c.line-item.result c.all.result.now c.all.ensures)) c.loop-line.invariant
