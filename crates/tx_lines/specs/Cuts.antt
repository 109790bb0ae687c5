-- Cuts of a list.
use Rattle.std.specs.Prelude.{◌≡◌, ℕ, ◌<◌, List, [], ◌∷◌}
use Rattle.tx_lines.specs.declared.cut.Cut.{Cut}

-- the cuts lead from one place to another: each begins where the one before it ends, and none is empty
abbrev pub Partitions : List Cut → ℕ → ℕ → Type 0
Partitions [] from to = from ≡ to
Partitions (cut ∷ rest) from to = (cut.from ≡ from) × (from < cut.to) × Partitions rest cut.to to
