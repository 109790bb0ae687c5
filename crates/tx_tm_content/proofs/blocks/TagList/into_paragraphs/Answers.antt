use Rattle.std.proofs.Common.{arith, ap, [], ◌∷◌}
use Rattle.std.proofs.lemmas.List.{length-append}
use Rattle.tx_tm_content.specs.Blocks.{block_of}
use Rattle.tx_tm_content.specs.ContentCredits.{line_credit}
use Rattle.tx_tm_content.proofs.Paying.{behind_credit}
use Rattle.tx_tm_content.proofs.Replay.{replayed_more, replay_stuck}
use Rattle.tx_tm_content.proofs.blocks.TagList.into_paragraphs.Goals as goal

pub returns-in-None-2-clause-next : goal.returns-in-None-2-clause-next
returns-in-None-2-clause-next g c =
    let next = rw c.in-None-2.is at c.in_ok-with_tag.ensures.next in
    replay_stuck _ _ c.args.self _ _ _ c.in-Some.entry (block_of c.loop-entry.block) (block_of c.behind-behind.result)
    c.loop-entry.invariant.replayed c.in-Some.ensures.steps.0 c.behind-behind.ensures next

pub loop-entry-preserved : goal.loop-entry-preserved
loop-entry-preserved g c =
    let next = rw c.in-Some-2.is at c.in_ok-with_tag.ensures.next in
    let counted = rw c.in-Some-2.is at c.in_ok-with_tag.ensures.counted in
    let bounded = rw c.in-Some-2.is at c.in_ok-with_tag.ensures.bounded in
    record {
      replayed = replayed_more _ _ _ _ _ _ _ c.in-Some.entry (block_of c.loop-entry.block)
          (block_of c.behind-behind.result) (block_of c.in-Some-2.next) c.loop-entry.invariant.replayed
          c.in-Some.ensures.steps.0 c.behind-behind.ensures next counted;
      bounded = omega (
        arith,
        c.loop-entry.invariant.bounded,
        bounded,
        ap (λ b. line_credit b.now) c.behind-behind.ensures,
        behind_credit (block_of c.loop-entry.block) c.in-Some.entry.before,
        length-append c.loop-entry.yielded (c.in-Some.entry ∷ []),
      );
      rises = omega (arith, c.loop-entry.invariant.rises, c.in_ok-with_tag.ensures.rises);
    }
