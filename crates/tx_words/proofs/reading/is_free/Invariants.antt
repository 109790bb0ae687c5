use Rattle.std.proofs.Common.{◌≢◌, ◌↔◌, ℕ, List, map, drop}
use Rattle.std.specs.List.{AllByRecursion}
use Rattle.tx_words.specs.Words.{Named}
use Rattle.tx_words.specs.Seen.{named_of}
use Rattle.tx_words.proofs.reading.is_free.Given as goal

abbrev AreOthers : List ℕ → List Named → Type 0
AreOthers name = AllByRecursion (λ other. other.name ≢ name)

abbrev pub invariant-loop-other : goal.invariant-loop-other
invariant-loop-other l =
    AreOthers l.name (map named_of (drop l.other-index l.files)) ↔ AreOthers l.name (map named_of l.files)
