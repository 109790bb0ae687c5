use Rattle.std.proofs.Common.{List, ℕ, sym, ap, ◌∙◌, arith}
use Rattle.std.specs.Prelude.{Some, None, option_copied}
use Rattle.tx_layout.specs.declared.layout.Line.{Line}
use Rattle.tx_unit_layout.specs.Stretches.{part_or_root}
use Rattle.tx_view.specs.Marks.{last_of}
use Rattle.tx_view.proofs.Finding.{last_step, marks_on, on_join, one_line}
use Rattle.tx_view.proofs.marks.last_on.Goals as goal

pub returns-in-Some : goal.returns-in-Some
returns-in-Some c =
    let b : List ℕ = part_or_root (option_copied c.args.part) in
    sym (last_step (marks_on b) (on_join b) c.args.lines.now (last_of (marks_on b c.args.lines.now))
    c.loop-end.end c.index-lines-end.result (Some c.in-Some.mark) c.loop-end-test.true c.loop-end.invariant.within
    c.index-lines-end.is
    (sym c.in-Some.is ∙ c.last_mark.ensures
    ∙ ap last_of (one_line b c.index-lines-end.result c.all.result.now
    (c.all.ensures ∙ ap (λ (x : Line). x.items) (sym c.index-lines-end.is)))) c.loop-end.invariant.last)

pub loop-end-preserved : goal.loop-end-preserved
loop-end-preserved c =
    let b : List ℕ = part_or_root (option_copied c.args.part) in record {
      within = omega arith;
      last =
          last_step (marks_on b) (on_join b) c.args.lines.now (last_of (marks_on b c.args.lines.now))
          c.loop-end.end c.index-lines-end.result None c.loop-end-test.true c.loop-end.invariant.within
          c.index-lines-end.is
          (sym c.in_default.is ∙ c.last_mark.ensures
          ∙ ap last_of (one_line b c.index-lines-end.result c.all.result.now
          (c.all.ensures ∙ ap (λ (x : Line). x.items) (sym c.index-lines-end.is)))) c.loop-end.invariant.last;
    }
