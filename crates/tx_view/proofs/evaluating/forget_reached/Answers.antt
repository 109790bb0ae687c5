use Rattle.std.proofs.Common.{◌∙◌, ap, sym, slice_index_or, arith}
use Rattle.tx_view.specs.Laid.{unlaid}
use Rattle.tx_view.proofs.Forgetting.{without_next, without_end}
use Rattle.tx_view.proofs.Renewed.{alone_next}
use Rattle.tx_view.proofs.evaluating.forget_reached.Goals as goal

pub loop-i-preserved : goal.loop-i-preserved
loop-i-preserved c = record {
  shown =
      without_next c.args.bridges.now.reached c.loop-i.units c.loop-i.i c.index-units-i.result c.forget.new.shown
      (omega arith)
      (c.forget.ensures ∙ ap (λ f. unlaid f (slice_index_or c.loop-i.units c.loop-i.i c.index-units-i.result))
      c.reached-reached.ensures)
      ∙ c.loop-i.invariant.shown;
  alone =
      alone_next c.args.lone c.loop-i.i c.args.bridges.now.reached c.loop-i.alone c.still_alone-alone.result
      c.reached-reached.result c.loop-i.invariant.alone c.still_alone-alone.ensures.before
      c.still_alone-alone.ensures.here c.reached-reached.ensures;
}

pub returns-clause-shown : goal.returns-clause-shown
returns-clause-shown c =
    sym (without_end c.args.bridges.now.reached c.loop-i.units c.loop-i.i (omega arith)) ∙ c.loop-i.invariant.shown
