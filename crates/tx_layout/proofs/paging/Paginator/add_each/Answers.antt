use Rattle.std.proofs.Common.{◌++◌, List, take, ◌∙◌, subst, arith, take_all}
use Rattle.tx_layout.specs.declared.layout.Line.{Line}
use Rattle.tx_layout.specs.Told.{HasTold}
use Rattle.tx_layout.proofs.Telling.{more_lines, begins_still}
use Rattle.tx_layout.proofs.paging.Paginator.add_each.Goals as goal

pub loop-line-preserved : goal.loop-line-preserved
loop-line-preserved c =
    let h = c.loop-line.invariant in
    record {
      told = λ before height told.
          subst (λ (ls : List Line). HasTold ls height c.add_line.new.self)
          (more_lines before c.args.lines.now c.loop-line.line-index c.line-item.result c.loop-line-test.true
          c.line-item.is)
          (c.in_ok-add_line.ensures.told (before ++ take c.loop-line.line-index c.args.lines.now) height
          (h.told before height told));
      number = omega (arith, c.in_ok-add_line.ensures.number, h.number);
      ended =
          begins_still c.args.self.now.ended.items c.loop-line.self.ended.items c.add_line.new.self.ended.items h.ended
          c.in_ok-add_line.ensures.ended;
      height = c.in_ok-add_line.ensures.height ∙ h.height;
    }

pub returns-clause-told : goal.returns-clause-told
returns-clause-told c = λ before height told.
    subst (λ (ls : List Line). HasTold (before ++ ls) height c.loop-line.self)
    (take_all c.loop-line.line-index c.args.lines.now (omega (arith, c.loop-line-test.false)))
    (c.loop-line.invariant.told before height told)
