-- A count that stops at its greatest value, 2^64 - 1. Private clauses cite it.
use Rattle.std.specs.Prelude.{ℕ, min}

abbrev pub capped : ℕ → ℕ
capped n = min n 18446744073709551615
