use Rattle.std.proofs.Common.{◌≡◌, ◌++◌, List, [], sym, subst, arith, rules}
use Rattle.tx_layout.specs.declared.layout.Line.{Line}
use Rattle.tx_view_form.specs.Views.{AreLines, no_lines}
use Rattle.tx_part_layout.proofs.Lining.{lines_next}
use Rattle.tx_part_layout.proofs.Few.{items_next}
use Rattle.tx_part_layout.proofs.part.lines_of.Goals as goal

pub loop-paragraph-init : goal.loop-paragraph-init
loop-paragraph-init g c = record {
  lines = subst (λ (ls : List Line). AreLines c.args.width [] ls) (sym c.in_ok-all.ensures.items) no_lines;
  counted = omega arith;
}

pub loop-paragraph-preserved : goal.loop-paragraph-preserved
loop-paragraph-preserved g c =
    let e : c.append.new.self.items ≡ c.loop-paragraph.all.items ++ c.in_ok-own.own.items =
    search (rules, c.in_ok-append.ensures) in record {
      lines =
          lines_next c.args.width c.args.paragraphs.now c.loop-paragraph.paragraph-index c.paragraph-item.result
          c.loop-paragraph.all.items
          c.in_ok-own.own.items c.append.new.self.items c.loop-paragraph-test.true c.paragraph-item.is
          c.loop-paragraph.invariant.lines
          c.in_ok-own.ensures.shape e;
      counted =
          omega (
            arith,
            items_next c.args.paragraphs.now c.loop-paragraph.paragraph-index c.paragraph-item.result
                c.loop-paragraph-test.true c.paragraph-item.is,
            c.in_ok-own.ensures.steps,
            c.loop-paragraph.invariant.counted,
          );
    }
