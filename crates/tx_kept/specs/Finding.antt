-- Tests of paths.
use Rattle.std.specs.Prelude.{ℕ, Bool, List, is_some}
use Rattle.std.specs.Ordering.{is_lt, nat_cmp}
use Rattle.std.specs.Cmp.Lexicographic.{slice_cmp}
use Rattle.tx_mod.specs.Moves.{rest_behind}

-- whether the first path is before the other one
abbrev pub is_before : List ℕ → List ℕ → Bool
is_before p q = is_lt (slice_cmp nat_cmp p q)

-- whether the second path is the first one, or leads to a tree in that one's
abbrev pub is_below : List ℕ → List ℕ → Bool
is_below p q = is_some (rest_behind p q)
