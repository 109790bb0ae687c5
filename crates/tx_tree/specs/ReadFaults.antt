-- Why bytes spell no tree within the limits, in any syntax. `Spells` says which bytes spell which wide tree. `IsKind`
-- is the syntax's own table, by what is before the byte at a place.
use Rattle.std.specs.Prelude.{◌≡◌, ℕ, ◌≤◌, ◌<◌, ◌⊎◌, List, length}
use Rattle.tx_base.specs.Fronts.{IsFront, IsLongestFront}
use Rattle.tx_tree.specs.declared.TheConstants.{MOST_TEXT, MOST_ARITY, MOST_DEPTH, MOST_SIZE}
use Rattle.tx_tree.specs.declared.faults.Which.{Which}
use Rattle.tx_tree.specs.declared.faults.Which.TheVariants.{Text, Arity, Depth, Size}
use Rattle.tx_tree.specs.declared.faults.ReadFault.{ReadFault}
use Rattle.tx_tree.specs.declared.faults.ReadFault.TheVariants.{Unclosed, Limit}
use Rattle.tx_tree.specs.WideTree.{WideTree, text_length_of, arity_of, depth_of, size_of}

-- the limit that the tree passes first, in the order text, arity, depth, size, and what the tree has there
abbrev pub IsPassed : WideTree → Which → ℕ → Type 0
IsPassed t Text n = (MOST_TEXT < text_length_of t) × (n ≡ text_length_of t)
IsPassed t Arity n = (text_length_of t ≤ MOST_TEXT) × (MOST_ARITY < arity_of t) × (n ≡ arity_of t)
IsPassed t Depth n = (text_length_of t ≤ MOST_TEXT) × (arity_of t ≤ MOST_ARITY) × (MOST_DEPTH < depth_of t)
    × (n ≡ depth_of t)
IsPassed t Size n =
    (text_length_of t ≤ MOST_TEXT) × (arity_of t ≤ MOST_ARITY) × (depth_of t ≤ MOST_DEPTH) × (MOST_SIZE < size_of t)
    × (n ≡ size_of t)

abbrev pub SpellsSome : (List ℕ → WideTree → Type 0) → List ℕ → Type 0
SpellsSome Spells bytes = (t : WideTree) × Spells bytes t

-- All the bytes are a front and spell no tree, or they spell a tree past a limit, or the byte after the longest front
-- decides.
abbrev pub IsFault : (List ℕ → WideTree → Type 0) → (List ℕ → ℕ → ReadFault → Type 0) → List ℕ → ReadFault → Type 0
IsFault Spells IsKind bytes (Unclosed n) = (n ≡ length bytes) × IsFront (SpellsSome Spells) bytes n
    × (SpellsSome Spells bytes → ⊥)
IsFault Spells IsKind bytes (Limit which number) = (t : WideTree) × Spells bytes t × IsPassed t which number
IsFault Spells IsKind bytes fault = (n : ℕ) × IsLongestFront (SpellsSome Spells) bytes n × (n < length bytes)
    × IsKind bytes n fault

-- a row of a table: where Holds is true, That is true, and else what the rows below say
abbrev pub Row : Type 0 → Type 0 → Type 0 → Type 0
Row Holds That Below = (Holds × That) ⊎ ((Holds → ⊥) × Below)
