-- The numbers of control sequences.
use Rattle.std.specs.Prelude.{ℕ, ◌+◌, ◌-◌, ◌*◌, ◌==◌, ◌&&◌, not, nat_le, Bool, List, [], ◌∷◌, length, Option}
use Rattle.std.specs.Prelude.{Some, None, if◌then◌else◌}

-- a number after which these digits came
abbrev pub number_after : ℕ → List ℕ → ℕ
number_after n [] = n
number_after n (d ∷ ds) = number_after (n * 10 + (d - 48)) ds

-- `?` may stand after `CSI`, and after zeros alone
abbrev pub may_ask : Bool → List ℕ → ℕ → Bool
may_ask asked done last = not asked && (length done == 0 && (last == 0))

-- the number from 0 of one of these rows or columns, which are counted from 1
abbrev pub index_of : ℕ → ℕ → Option ℕ
index_of n most = if nat_le 1 n && nat_le n most then Some (n - 1) else None

abbrev pub place_of : Option ℕ → Option ℕ → Option (ℕ × ℕ)
place_of None c = None
place_of (Some r) None = None
place_of (Some r) (Some c) = Some (r, c)
