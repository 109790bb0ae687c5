-- Entries by paths, in the order of the document.
use Rattle.std.specs.Prelude.{◌≡◌, ℕ, ◌<◌, ◌≤◌, ◌↔◌, List, [], ◌∷◌, Some, None, slice_get, slice_set}
use Rattle.std.specs.Option.{option_map_or, IsSome}
use Rattle.std.specs.List.{AllByRecursion, Contains}
use Rattle.tx_tree.specs.Paths.{subtree}
use Rattle.tx_tree.specs.WideTree.{WideTree}
use Rattle.tx_mod.specs.Orders.{IsBefore}
use Rattle.tx_kept.specs.declared.path_map.Entry.{Entry}

-- all entries are after the path
abbrev pub AllAfter : {X : Type 0} → List ℕ → List (Entry X) → Type 0
AllAfter p [] = Unit {0}
AllAfter p (x ∷ xs) = IsBefore p x.path × AllAfter p xs

-- each entry is before those that follow it, so no two have one path
abbrev pub IsInOrder : {X : Type 0} → List (Entry X) → Type 0
IsInOrder [] = Unit {0}
IsInOrder (x ∷ xs) = AllAfter x.path xs × IsInOrder xs

-- ---- one entry

-- the entry of this number is at the path
pub record IsAt {X : Type 0} (path : List ℕ) (xs : List (Entry X)) (i : ℕ) : Type 0 where
  pub entry : Entry X
  pub there : slice_get xs i ≡ Some entry
  pub stands : entry.path ≡ path

-- no entry is at the path
abbrev pub NoneAt : {X : Type 0} → List ℕ → List (Entry X) → Type 0
NoneAt {X} path xs = (i : ℕ) (x : Entry X) → slice_get xs i ≡ Some x → x.path ≡ path → ⊥

-- the list with another value at number i
abbrev pub with_value : {X : Type 0} → List (Entry X) → ℕ → X → List (Entry X)
with_value xs i value =
    option_map_or (λ x. slice_set xs i (record { path = x.path; value = value })) (slice_get xs i) xs

-- ---- the trees at the paths

-- each path leads to a tree
abbrev pub AllLead : {X : Type 0} → WideTree → List (Entry X) → Type 0
AllLead t xs = AllByRecursion (λ x. IsSome (subtree t x.path)) xs

-- the path leads to a tree, and P is true of that and of the value
pub record Holds {X : Type 0} (P : WideTree → X → Type 0) (t : WideTree) (x : Entry X) : Type 0 where
  pub there : WideTree
  pub leads : subtree t x.path ≡ Some there
  pub holds : P there x.value

-- P is true of each value and of the tree at its path
abbrev pub AllHold : {X : Type 0} → (WideTree → X → Type 0) → WideTree → List (Entry X) → Type 0
AllHold P t xs = AllByRecursion (Holds P t) xs

-- some entry has this value, and its path leads to this tree
pub record IsOf {X : Type 0} (t : WideTree) (xs : List (Entry X)) (there : WideTree) (value : X) : Type 0 where
  pub entry : Entry X
  pub among : Contains xs entry
  pub leads : subtree t entry.path ≡ Some there
  pub same : entry.value ≡ value
