use Rattle.std.proofs.Common.{◌≡◌, ◌++◌, map, take}
use Rattle.tx_words.specs.Words.{named_file}
use Rattle.tx_words.specs.Seen.{named_of}
use Rattle.tx_words.proofs.reading.push_all.Given as goal

abbrev pub invariant-loop-word : goal.invariant-loop-word
invariant-loop-word l =
    map named_of l.files.items
    ≡ map named_of l.fn.files.items ++ map named_file (map (λ w. w.now) (take l.word-index l.words))
