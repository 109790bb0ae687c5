-- How far bytes can be the beginning of something. P says which whole byte strings are meant.
use Rattle.std.specs.Prelude.{ℕ, ◌≤◌, List, ◌++◌, length, take}

-- the first n bytes can be continued
abbrev pub IsFront : (List ℕ → Type 0) → List ℕ → ℕ → Type 0
IsFront P bytes n = (n ≤ length bytes) × ((more : List ℕ) × P (take n bytes ++ more))

-- the first n bytes can be continued, and no more of them can
pub record IsLongestFront (P : List ℕ → Type 0) (bytes : List ℕ) (n : ℕ) : Type 0 where
  pub front : IsFront P bytes n
  pub longest : (m : ℕ) → IsFront P bytes m → m ≤ n
