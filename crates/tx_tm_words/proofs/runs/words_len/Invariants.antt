use Rattle.std.proofs.Common.{◌≡◌, ◌≢◌, ◌≤◌, ◌<◌, ◌-◌, ℕ, true, false, length, take, slice_index}
use Rattle.tx_tm_form.specs.Bytes.{kind_of, is_plain}
use Rattle.tx_tm_words.specs.declared.runs.TheConstants.{MOST_RUN}
use Rattle.tx_tm_words.specs.Runs.{AreWords}
use Rattle.tx_tm_words.proofs.runs.words_len.Given as goal

abbrev pub invariant-words : goal.invariant-words
invariant-words l =
    record {
      within : l.end ≤ l.most;
      words : 0 < l.end → AreWords (take l.end l.bytes);
      most_within : l.most ≤ length l.bytes;
      plain : (k : ℕ) → k < l.most → slice_index l.bytes k ≢ 32 → is_plain (kind_of (slice_index l.bytes k)) ≡ true;
      stop : l.most < length l.bytes → l.most < MOST_RUN → 32 ≤ slice_index l.bytes l.most
          → is_plain (kind_of (slice_index l.bytes l.most)) ≡ false;
    }

abbrev pub decreases-words : goal.decreases-words
decreases-words l = l.most - l.end
