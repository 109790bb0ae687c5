-- The names and the trees of buffers.
use Rattle.std.specs.Prelude.{◌≢◌, ℕ, List, [], ◌∷◌, Option, slice_get, slice_set}
use Rattle.std.specs.List.{AllByRecursion, position}
use Rattle.std.specs.Option.{option_map_or}
use Rattle.std.specs.Str.{bytes_eq}
use Rattle.tx_tree.specs.Limits.{IsWellFormed, IsWithinLimits}
use Rattle.tx_tree.specs.WideTree.{WideTree, leaf}
use Rattle.tx_doc.specs.declared.buffer.Buffer.{Buffer}

-- no two buffers have one name
abbrev pub NamesDiffer : List Buffer → Type 0
NamesDiffer [] = Unit {0}
NamesDiffer (buffer ∷ others) = AllByRecursion (λ other. other.name ≢ buffer.name) others × NamesDiffer others

-- the number of the first buffer of this name, if there is one
abbrev pub number_of : List Buffer → List ℕ → Option ℕ
number_of buffers name = position (λ b. bytes_eq b.name name) buffers

-- the tree of buffer k; the empty text where there is no such buffer
abbrev pub tree_of : List Buffer → ℕ → WideTree
tree_of buffers k = option_map_or (λ b. b.tree) (slice_get buffers k) (leaf [])

-- the buffers, buffer k with this tree
abbrev pub with_tree : List Buffer → ℕ → WideTree → List Buffer
with_tree buffers k t =
    option_map_or (λ b. slice_set buffers k (record { name = b.name; tree = t })) (slice_get buffers k) buffers

-- the tree of the document, which is buffer 0
abbrev pub document_of : List Buffer → WideTree
document_of buffers = tree_of buffers 0

-- every buffer's tree is well formed, and within the limits
abbrev pub AreFormed : List Buffer → Type 0
AreFormed = AllByRecursion (λ buffer. IsWellFormed buffer.tree × IsWithinLimits buffer.tree)
