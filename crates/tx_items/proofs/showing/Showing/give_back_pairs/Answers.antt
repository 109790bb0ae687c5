use Rattle.std.proofs.Common.{◌∙◌, ◌≤◌, arith}
use Rattle.tx_items.proofs.Pairs.{back_next}
use Rattle.tx_items.proofs.showing.Showing.give_back_pairs.Goals as goal

pub loop-at-preserved : goal.loop-at-preserved
loop-at-preserved c =
    let even = c.loop-at.invariant.even in
    let two : 2 ≤ c.loop-at.at = omega arith in
    record {
      back = back_next _ _ _ _ c.args.parts.now c.loop-at.at c.index-parts-at.result two c.loop-at.invariant.within
          c.index-parts-at.is c.in_ok-give_back.ensures.attrs_are c.loop-at.invariant.back;
      run = c.in_ok-give_back.ensures.run ∙ c.loop-at.invariant.run;
      paragraphs = c.in_ok-give_back.ensures.paragraphs ∙ c.loop-at.invariant.paragraphs;
      errors = c.in_ok-give_back.ensures.errors ∙ c.loop-at.invariant.errors;
      even = omega arith;
      within = omega arith;
    }
