-- Places: a path, and an offset in the subtree that it leads to.
use Rattle.std.specs.Prelude.{◌≡◌, ℕ, ◌≤◌, ◌<◌, List, length, IsSomeAnd, MatchOption}
use Rattle.tx_tree.specs.Texts.{IsCut}
use Rattle.tx_tree.specs.WideTree.{WideTree, leaf, node}
use Rattle.tx_tree.specs.Paths.{subtree, leading}
use Rattle.tx_tree.specs.declared.faults.PlaceFault.{PlaceFault}
use Rattle.tx_tree.specs.declared.faults.PlaceFault.TheVariants.{NoPath, BadPlace, CutsSymbol}

-- the offset after a tree: after its text, or after the node
abbrev pub end_of : WideTree → ℕ
end_of (leaf text) = length text
end_of (node label ts) = 1

-- In a leaf an offset is a cut. At a node it is 0, before the node, or 1, after it.
abbrev pub IsOffset : WideTree → ℕ → Type 0
IsOffset (leaf text) o = IsCut text o
IsOffset (node label ts) o = o ≤ 1

-- why an offset is none of the tree: it is past the end, or in a symbol
abbrev pub IsOffsetFault : WideTree → ℕ → PlaceFault → Type 0
IsOffsetFault s o (NoPath n) = ⊥
IsOffsetFault s o (BadPlace n) = (end_of s < o) × (n ≡ end_of s)
IsOffsetFault (leaf text) o (CutsSymbol n) = (o ≤ length text) × (IsCut text o → ⊥) × (n ≡ o)
IsOffsetFault (node label ts) o (CutsSymbol n) = ⊥

-- the path leads to a subtree, and the offset is one of it
abbrev pub IsPlace : WideTree → List ℕ → ℕ → Type 0
IsPlace t path o = IsSomeAnd (subtree t path) (λ s. IsOffset s o)

-- why a path and an offset are no place of the tree: not all numbers of the path lead, or the offset is none of the
-- subtree
abbrev pub IsPlaceFault : WideTree → List ℕ → ℕ → PlaceFault → Type 0
IsPlaceFault t path o fault = MatchOption (subtree t path) (fault ≡ NoPath (leading t path))
    (λ s. IsOffsetFault s o fault)
