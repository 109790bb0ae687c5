use Rattle.std.proofs.Common.{length}
use Rattle.std.proofs.lemmas.Result.{IfOk-weaker}
use Rattle.tx_layout.proofs.Marks.{shape_more, shape_done, within_more, within_done}
use Rattle.tx_layout.proofs.shapes.shape.Goals as goal

pub loop-end-preserved : goal.loop-end-preserved
loop-end-preserved c =
    let h = c.loop-end.invariant in
    let next = c.cut_place-end-in-loop-end.ensures in
    record {
      so_far = shape_more c.args.frame c.args.items.now c.loop-end.is_first c.loop-end.start c.loop-end.end
          c.loop-end.rows.items c.append.new.self.items c.in_ok-own.own.items c.add_cut.new.own.items
          c.index-items-end.result h.onward c.loop-end-test.true h.whole (h.cut c.loop-end-test.true)
          c.index-items-end.is c.in_ok-own.ensures.lines c.in_ok-add_cut.ensures c.in_ok-append.ensures.items h.so_far;
      inside = within_more (length c.args.items.now) c.index-items-end.result c.loop-end.rows.items
          c.append.new.self.items c.in_ok-own.own.items c.add_cut.new.own.items h.inside c.in_ok-own.ensures.within
          c.in_ok-add_cut.ensures c.in_ok-append.ensures.items;
      onward = next.onward;
      within = next.within;
      whole = next.whole;
      cut = next.cut;
    }

pub returns-clause-lines : goal.returns-clause-lines
returns-clause-lines c =
    let h = c.loop-end.invariant in
    IfOk-weaker c.joined.result _ _
    (λ all is. shape_done c.args.frame c.args.items.now c.loop-end.is_first c.loop-end.start c.loop-end.end
    c.loop-end.rows.items all.items c.in_ok-own-2.own.items h.onward h.within c.loop-end-test.false h.whole
    c.in_ok-own-2.ensures.lines is h.so_far)
    c.joined.ensures

pub returns-clause-within : goal.returns-clause-within
returns-clause-within c =
    IfOk-weaker c.joined.result _ _
    (λ all is. within_done (length c.args.items.now) c.loop-end.rows.items all.items c.in_ok-own-2.own.items
    c.loop-end.invariant.inside c.in_ok-own-2.ensures.within is)
    c.joined.ensures
