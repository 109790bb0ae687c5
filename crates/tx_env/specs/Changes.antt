-- The changes that were made in open scopes, and the maps to which they lead back. No contract outside this crate cites
-- them.
use Rattle.std.specs.Prelude.{◌≡◌, ℕ, zero, suc, ◌<◌, ◌≤◌, nat_le, if◌then◌else◌, List, [], ◌∷◌, ◌++◌, Option, Some}
use Rattle.std.specs.Prelude.{None, IsSome, min}
use Rattle.std.specs.FinMap.{empty, insert, remove}
use Rattle.tx_tree.specs.WideTree.{WideTree}
use Rattle.tx_env.specs.Pairs.{Name, Pairs, find, listed, put}
use Rattle.tx_env.specs.Environments.{NameMap}

-- the number of the scope in which a name was changed, the name, and what it had before
abbrev pub Change : Type 0
Change = ℕ × (Name × Option WideTree)

-- the map of the pairs, where the first pair of a name says what the name has
abbrev pub with_pair : Name → Option WideTree → NameMap → NameMap
with_pair x None m = remove m x
with_pair x (Some t) m = insert m x t

abbrev pub map_of : Pairs → NameMap
map_of [] = empty
map_of (p ∷ ps) = with_pair p.0 p.1 (map_of ps)

-- the pairs before the changes in the scopes from number k on, of which the last is taken back first
abbrev pub undone : ℕ → Pairs → List Change → Pairs
undone k ps [] = ps
undone k ps (c ∷ cs) = if nat_le k c.0 then put c.1.0 c.1.1 (undone k ps cs) else undone k ps cs

-- the maps to which the scopes of numbers below n go back
abbrev pub maps_below : ℕ → Pairs → List Change → List NameMap
maps_below zero ps cs = []
maps_below (suc n) ps cs = maps_below n ps cs ++ map_of (undone n ps cs) ∷ []

-- each change is of a listed name, in a scope of a number below n, and no scope comes before an earlier one
abbrev pub AreFrom : ℕ → ℕ → Pairs → List Change → Type 0
AreFrom k n ps [] = Unit {0}
AreFrom k n ps (c ∷ cs) = (k ≤ c.0) × (c.0 < n) × IsSome (listed c.1.0 ps) × AreFrom c.0 n ps cs

-- each name has the same in both
abbrev pub AreSame : Pairs → Pairs → Type 0
AreSame ps qs = (y : Name) → find y ps ≡ find y qs

-- the changes, where those in scopes after number n count as made in scope n
abbrev pub capped_changes : ℕ → List Change → List Change
capped_changes n [] = []
capped_changes n (c ∷ cs) = (min c.0 n, c.1) ∷ capped_changes n cs
