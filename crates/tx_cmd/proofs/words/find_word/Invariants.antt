use Rattle.std.proofs.Common.{◌≡◌, drop, find}
use Rattle.std.specs.Str.{bytes_eq}
use Rattle.tx_cmd.specs.Words.{word_text}
use Rattle.tx_cmd.proofs.words.find_word.Given as goal

abbrev pub invariant-loop-word : goal.invariant-loop-word
invariant-loop-word l =
    find (λ w. bytes_eq (word_text w) l.bytes) l.all
    ≡ find (λ w. bytes_eq (word_text w) l.bytes) (drop l.word-index l.all)
