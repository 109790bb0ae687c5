-- Which wide trees are well formed, and which of these are within the limits.
use Rattle.std.specs.Prelude.{◌≤◌, ◌<◌, ℕ, ◌≡◌, List, length}
use Rattle.tx_tree.specs.declared.TheConstants.{MOST_TEXT, MOST_ARITY, MOST_DEPTH, MOST_SIZE}
use Rattle.tx_tree.specs.Texts.{IsText}
use Rattle.tx_tree.specs.Labels.{IsLabel}
use Rattle.tx_tree.specs.WideTree.{WideTree, Forest, leaf, node, nil, cons, size_of, depth_of, arity_of, text_length_of}
use Rattle.tx_tree.specs.WideTree.{forest}
use Rattle.tx_tree.specs.declared.faults.TreeFault.{TreeFault}
use Rattle.tx_tree.specs.declared.faults.TreeFault.TheVariants.{TooWide, TooDeep, TooBig, Memory}

-- each leaf holds a text, and each node has a label
abbrev mutual
  pub IsWellFormed : WideTree → Type 0
  IsWellFormed (leaf text) = IsText text
  IsWellFormed (node label ts) = IsLabel label × AreWellFormed ts

  pub AreWellFormed : Forest → Type 0
  AreWellFormed nil = Unit {0}
  AreWellFormed (cons t ts) = IsWellFormed t × AreWellFormed ts

-- no text, arity, depth or size passes its limit
pub record IsWithinLimits (t : WideTree) : Type 0 where
  pub text : text_length_of t ≤ MOST_TEXT
  pub arity : arity_of t ≤ MOST_ARITY
  pub depth : depth_of t ≤ MOST_DEPTH
  pub size : size_of t ≤ MOST_SIZE

-- why a label and children make no node within the limits: the first limit passed, with the number that passes it
abbrev pub IsTreeFault : List ℕ → List WideTree → TreeFault → Type 0
IsTreeFault label ts (TooWide n) = (MOST_ARITY < length ts) × (n ≡ length ts)
IsTreeFault label ts (TooDeep n) =
    (length ts ≤ MOST_ARITY) × (MOST_DEPTH < depth_of (node label (forest ts)))
    × (n ≡ depth_of (node label (forest ts)))
IsTreeFault label ts (TooBig n) =
    (length ts ≤ MOST_ARITY) × (depth_of (node label (forest ts)) ≤ MOST_DEPTH)
    × (MOST_SIZE < size_of (node label (forest ts)))
    × (n ≡ size_of (node label (forest ts)))
IsTreeFault label ts Memory = ⊥
