use Rattle.std.proofs.Common.{◌∙◌, arith}
use Rattle.tx_items.proofs.Pairs.{pairs_next}
use Rattle.tx_items.proofs.showing.Showing.set_pairs.Goals as goal

pub loop-at-preserved : goal.loop-at-preserved
loop-at-preserved c = record {
  pairs = pairs_next _ _ _ c.args.parts.now c.loop-at.at c.index-parts-at.result c.index-parts-at-in-loop-at.result
      (omega arith) c.index-parts-at.is c.index-parts-at-in-loop-at.is c.in_ok-set.ensures.attrs_are
      c.loop-at.invariant.pairs;
  run = c.in_ok-set.ensures.run ∙ c.loop-at.invariant.run;
  paragraphs = c.in_ok-set.ensures.paragraphs ∙ c.loop-at.invariant.paragraphs;
  errors = c.in_ok-set.ensures.errors ∙ c.loop-at.invariant.errors;
  within = omega arith;
}
