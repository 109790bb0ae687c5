-- What a walk has spent.
use Rattle.std.specs.Prelude.{◌≡◌, ◌≤◌, ◌-◌, ◌^◌, ℕ, min}

-- a counter of 64 bits that is raised to n: it saturates at its greatest value
abbrev pub capped : ℕ → ℕ
capped n = min n (2 ^ 64 - 1)

-- `spent` is by how much the steps have risen since the start, up to a counter's greatest value
abbrev pub IsSpentSince : ℕ → ℕ → ℕ → Type 0
IsSpentSince start steps spent = (start ≤ steps) × (spent ≡ capped (steps - start))

-- from the first two to the last two what is spent rises as the steps do, whatever these were at the start
pub record RisesAlike (steps spent steps1 spent1 : ℕ) : Type 0 where
  pub since : (start : ℕ) → IsSpentSince start steps spent → IsSpentSince start steps1 spent1
