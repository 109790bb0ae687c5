use Rattle.std.proofs.Common.{◌↔◌, map, drop}
use Rattle.tx_words.specs.Words.{AreNamedApart}
use Rattle.tx_words.specs.Seen.{named_of}
use Rattle.tx_words.proofs.reading.names_differ.Given as goal

abbrev pub invariant-loop-i : goal.invariant-loop-i
invariant-loop-i l = AreNamedApart (map named_of (drop l.i l.files)) ↔ AreNamedApart (map named_of l.files)
