-- Which places modifications are found to leave as they are, by their paths and numbers alone.
use Rattle.std.specs.Prelude.{ℕ, nat_lt, Bool, true, false, not, ◌&&◌, ◌||◌, ◌==◌, is_some, List, [], ◌∷◌}
use Rattle.std.specs.Option.{option_map_or}
use Rattle.std.specs.List.{list_all}
use Rattle.tx_mod.specs.declared.mods.Mod.{Mod}
use Rattle.tx_mod.specs.declared.mods.Mod.TheVariants.{Assign, Insert, Remove, Split, Join}
use Rattle.tx_mod.specs.declared.mods.Mod.TheVariants.{AssignNode, InsertNode, RemoveNode}
use Rattle.tx_mod.specs.Mods.{path_of}
use Rattle.tx_mod.specs.Moves.{rest_behind}

-- The tables below say whether the place r is found to be unchanged. It is seen from the path of the modification.

-- it is below
abbrev pub is_below : List ℕ → Bool
is_below [] = false
is_below (k ∷ u) = true

-- it is in a child before child i, or is one
abbrev pub stands_before : ℕ → List ℕ → Bool
stands_before i [] = false
stands_before i (k ∷ u) = nat_lt k i

-- unchanged by a split of child i at j: a place in a child before child i, or in child i and there in a child before
-- child j
abbrev pub keeps_by_split : ℕ → ℕ → List ℕ → Bool
keeps_by_split i j [] = false
keeps_by_split i j (k ∷ u) = nat_lt k i || k == i && stands_before j u

-- unchanged by a join of child i and the next one: a place in a child before child i, or below child i
abbrev pub keeps_by_join : ℕ → List ℕ → Bool
keeps_by_join i [] = false
keeps_by_join i (k ∷ u) = nat_lt k i || k == i && is_below u

abbrev pub keeps_at : Mod → List ℕ → Bool
keeps_at (Assign p x) r = false
keeps_at (Insert p i x) r = stands_before i r
keeps_at (Remove p i n) r = stands_before i r
keeps_at (Split p i j) r = keeps_by_split i j r
keeps_at (Join p i) r = keeps_by_join i r
keeps_at (AssignNode p l) r = is_below r
keeps_at (InsertNode p i x) r = false
keeps_at (RemoveNode p i) r = false

-- Whether the place q is found to be unchanged by the modification: below its path by the table, beside its path
-- always, and above it never.
abbrev pub keeps_place : Mod → List ℕ → Bool
keeps_place m q =
    option_map_or (keeps_at m) (rest_behind (path_of m) q) (not (is_some (rest_behind q (path_of m))))

-- whether the place q is found to be unchanged by all of them
abbrev pub all_keep_place : List Mod → List ℕ → Bool
all_keep_place ms q = list_all (λ m. keeps_place m q) ms
