use Rattle.std.proofs.Common.{List, ◌++◌, take, length, ap, sym, subst, arith, length-append, append_assoc, take_all}
use Rattle.tx_layout.specs.declared.layout.Line.{Line}
use Rattle.tx_layout.specs.Told.{HasTold}
use Rattle.tx_part_layout.specs.LaidParts.{placed_lines}
use Rattle.tx_unit_layout.proofs.Below.{placed_more, placed_fit}
use Rattle.tx_unit_layout.proofs.shown.tell_parts.Goals as goal

pub tell-requires : goal.tell-requires
tell-requires c =
    let b = c.requires.begun in
    let so_far : List Line = placed_lines (take c.loop-part.part-index c.args.parts.now) in
    record {
      few =
          omega (
            arith,
            (c.loop-part.invariant b.0 b.1 b.2).number,
            b.2.number,
            length-append b.0 so_far,
            placed_fit c.args.parts.now c.loop-part.part-index c.part-item.result c.loop-part-test.true c.part-item.is,
            ap (λ l. length l.lines) c.deref.ensures,
            c.requires.few,
          );
    }

pub loop-part-preserved : goal.loop-part-preserved
loop-part-preserved c = λ before height told.
    let so_far : List Line = placed_lines (take c.loop-part.part-index c.args.parts.now) in
    let own : List Line = c.part-item.result.laid.value.lines in
    let lines : List Line = c.deref.result.now.lines in
    subst (λ (ls : List Line). HasTold (before ++ ls) height c.tell.new.paginator)
    (sym (placed_more c.args.parts.now c.loop-part.part-index c.part-item.result c.loop-part-test.true c.part-item.is))
    (subst (λ (ls : List Line). HasTold ls height c.tell.new.paginator)
    (append_assoc before so_far _)
    (c.lines_under_law.ensures.told c.part-item.result.path (before ++ so_far) own height c.tell.new.paginator
    (subst (λ (ls : List Line). HasTold ((before ++ so_far) ++ ls) height c.tell.new.paginator)
    (ap (λ l. l.lines) c.deref.ensures)
    (c.in_ok-tell.ensures.told (before ++ so_far) height (c.loop-part.invariant before height told)))))

pub returns : goal.returns
returns c = record {
  told = λ before height told.
      subst (λ ps. HasTold (before ++ placed_lines ps) height c.loop-part.paginator)
      (take_all c.loop-part.part-index c.args.parts.now (omega (arith, c.loop-part-test.false)))
      (c.loop-part.invariant before height told);
}
