use Rattle.std.proofs.Common.{◌↔◌, map, drop}
use Rattle.tx_words.specs.Words.{HaveNames}
use Rattle.tx_words.specs.Seen.{named_of}
use Rattle.tx_words.proofs.reading.have_names.Given as goal

abbrev pub invariant-loop-file : goal.invariant-loop-file
invariant-loop-file l = HaveNames (map named_of (drop l.file-index l.files)) ↔ HaveNames (map named_of l.files)
