-- A history as two lists of entries, the newest last.
use Rattle.std.specs.Prelude.{ℕ, zero, suc, ◌-◌, List, length, drop, reverse, slice_get, Option, None}

pub record Lists (E : Type 0) : Type 0 where
  pub past : List E
  pub future : List E
  pub depth : ℕ

-- the newest entries, at most so many
abbrev pub newest : {E : Type 0} → ℕ → List E → List E
newest depth entries = drop (length entries - depth) entries

-- the newest entry, if there is one
abbrev pub last : {E : Type 0} → List E → Option E
last entries = slice_get entries (length entries - 1)

-- the k-th newest entry, the newest being the first
abbrev pub kth_newest : {E : Type 0} → ℕ → List E → Option E
kth_newest zero entries = None
kth_newest (suc k) entries = slice_get (reverse entries) k
