use Rattle.std.proofs.Common.{◌≤◌, ◌+◌, length}
use Rattle.tx_tm_content.specs.Blocks.{block_of}
use Rattle.tx_tm_content.specs.ContentCredits.{line_credit}
use Rattle.tx_tm_content.proofs.Replay.{IsReplayed}
use Rattle.tx_tm_content.proofs.blocks.TagList.into_paragraphs.Given as goal

abbrev pub invariant-loop-entry : goal.invariant-loop-entry
invariant-loop-entry g l =
    record {
      replayed : IsReplayed l.fn.steps l.steps l.fn.self.entries l.yielded l.entry-iterator.rest.items
          (block_of l.block);
      bounded : l.steps + line_credit l.block.now ≤ l.fn.steps + length l.yielded;
      rises : l.fn.steps ≤ l.steps;
    }
