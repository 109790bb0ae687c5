-- What ends a run of plain bytes, and where.
use Rattle.std.specs.Prelude.{ℕ, ◌+◌, Bool, ◌||◌, List, drop, ◌==◌, nat_lt}
use Rattle.std.specs.List.{list_any, position_or_len}

-- a stop is a byte of the set, or a control byte: one below the space, 32
abbrev pub is_stop : List ℕ → ℕ → Bool
is_stop set b = nat_lt b 32 || list_any (λ s. s == b) set

-- the least place at or after `from` that holds a stop, or the length where none does
abbrev pub first_stop_from : List ℕ → List ℕ → ℕ → ℕ
first_stop_from set bytes from = from + position_or_len (is_stop set) (drop from bytes)
