use Rattle.std.proofs.Common.{List, ℕ, sym, ◌∙◌, arith}
use Rattle.std.specs.Prelude.{Some, None, option_copied}
use Rattle.tx_unit_layout.specs.Stretches.{part_or_root}
use Rattle.tx_view.specs.Marks.{last_of}
use Rattle.tx_view.proofs.Finding.{last_step, marks_under, items_join, last_item}
use Rattle.tx_view.proofs.marks.last_mark.Goals as goal

pub returns-in-Some : goal.returns-in-Some
returns-in-Some c =
    let b : List ℕ = part_or_root (option_copied c.args.part) in
    sym (last_step (marks_under b) (items_join b) c.args.items.now (last_of (marks_under b c.args.items.now))
    c.loop-end.end c.index-items-end.result (Some c.in-Some.mark) c.loop-end-test.true c.loop-end.invariant.within
    c.index-items-end.is (sym c.in-Some.is ∙ c.mark_of.ensures ∙ last_item b c.index-items-end.result)
    c.loop-end.invariant.last)

pub loop-end-preserved : goal.loop-end-preserved
loop-end-preserved c =
    let b : List ℕ = part_or_root (option_copied c.args.part) in record {
      within = omega arith;
      last =
          last_step (marks_under b) (items_join b) c.args.items.now (last_of (marks_under b c.args.items.now))
          c.loop-end.end c.index-items-end.result None c.loop-end-test.true c.loop-end.invariant.within
          c.index-items-end.is (sym c.in_default.is ∙ c.mark_of.ensures ∙ last_item b c.index-items-end.result)
          c.loop-end.invariant.last;
    }
