-- Counts of what went wrong: numbers up to 2 ^ 64 - 1 that never fall.
use Rattle.std.specs.Prelude.{◌≡◌, ℕ, ◌+◌, ◌-◌, ◌^◌, ◌<◌, ◌≤◌, ◌⊎◌, min}

-- the count rose: it is above its first value, or is the last value that a counter has
abbrev pub Rose : ℕ → ℕ → Type 0
Rose old new = (old < new) ⊎ (new ≡ 2 ^ 64 - 1)

-- the count hasn't fallen, and hasn't passed the last value that a counter has
pub record NeverFalls (old new : ℕ) : Type 0 where
  pub kept : old ≤ new
  pub within : old ≤ 2 ^ 64 - 1 → new ≤ 2 ^ 64 - 1

-- one more, up to the last value
abbrev pub raised : ℕ → ℕ
raised n = min (n + 1) (2 ^ 64 - 1)
