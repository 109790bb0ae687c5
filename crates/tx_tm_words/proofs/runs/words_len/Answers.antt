use Rattle.std.proofs.Common.{◌+◌, get_or, refl, arith}
use Rattle.tx_tm_words.proofs.WordRuns.{word_next, word_behind_space}
use Rattle.tx_tm_words.proofs.Stopping.{space_is_no_text}
use Rattle.tx_tm_words.proofs.runs.words_len.Goals as goal

pub words-preserved-then-is_no_space : goal.words-preserved-then-is_no_space
words-preserved-then-is_no_space c =
    record {
      within = omega arith;
      words = λ n.
          word_next c.args.bytes.now c.words.end (get_or c.args.bytes.now c.words.end 0) c.words.invariant.words
          (omega (arith, c.words.invariant.most_within)) refl
          (c.words.invariant.plain c.words.end (omega arith) c.if-is_no_space.ensures.other);
      most_within = c.words.invariant.most_within;
      plain = c.words.invariant.plain;
      stop = c.words.invariant.stop;
    }

pub words-preserved : goal.words-preserved
words-preserved c =
    record {
      within = omega (arith, c.if-is_spaced.ensures.there);
      words = λ n.
          word_behind_space c.args.bytes.now c.words.end (get_or c.args.bytes.now (c.words.end + 1) 0)
          (c.words.invariant.words (omega arith))
          (omega (arith, c.if-is_spaced.ensures.there, c.words.invariant.most_within)) c.if-is_spaced.ensures.space refl
          (c.words.invariant.plain (c.words.end + 1) c.if-is_spaced.ensures.there c.if-is_spaced.ensures.behind);
      most_within = c.words.invariant.most_within;
      plain = c.words.invariant.plain;
      stop = c.words.invariant.stop;
    }

pub returns-else-end-gt0-clause-stop : goal.returns-else-end-gt0-clause-stop
returns-else-end-gt0-clause-stop c =
    λ n m h.
    space_is_no_text (get_or c.args.bytes.now c.words.end 0) (c.is_no_space.ensures.space c.if-is_no_space.false)
