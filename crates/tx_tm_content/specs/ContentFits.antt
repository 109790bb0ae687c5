-- Content that can still become a tree within the limits.
use Rattle.std.specs.Prelude.{◌≤◌, ◌+◌, ◌⊎◌, ℕ, List, length, map}
use Rattle.std.specs.List.{AllByRecursion}
use Rattle.tx_tree.specs.declared.TheConstants.{MOST_TEXT, MOST_ARITY, MOST_DEPTH, MOST_SIZE}
use Rattle.tx_tree.specs.WideTree.{WideTree, forest, text_length_of, arity_of, depth_of, size_of, total_size}
use Rattle.tx_tm_form.specs.declared.places.Stage.{Stage}
use Rattle.tx_tm_form.specs.declared.places.Stage.TheVariants.{Empty, Alone, Ordinary}
use Rattle.tx_tm_form.specs.Growing.{Inline, Block, no_paragraphs, CollectionEntry, Tags, tree_of_entry}
use Rattle.tx_tm_form.specs.Growing.{with_entries, Content, inline, blocks, collecting}

-- a tree within the limits, also with so many nodes round it
pub record IsSmallTree (around : ℕ) (t : WideTree) : Type 0 where
  pub text : text_length_of t ≤ MOST_TEXT
  pub arity : arity_of t ≤ MOST_ARITY
  pub depth : depth_of t + around ≤ MOST_DEPTH
  pub size : size_of t ≤ MOST_SIZE

abbrev pub AreSmallTrees : ℕ → List WideTree → Type 0
AreSmallTrees around = AllByRecursion (IsSmallTree around)

-- trees that one node within the limits can have
pub record RowFits (around : ℕ) (ts : List WideTree) : Type 0 where
  pub each : AreSmallTrees around ts
  pub few : length ts ≤ MOST_ARITY
  pub light : total_size (forest ts) ≤ MOST_SIZE

pub record LineFits (around : ℕ) (g : Inline) : Type 0 where
  pub done : RowFits around g.done
  pub short : length g.bytes ≤ MOST_TEXT

abbrev pub BlockFitsAt : Stage → ℕ → Block → Type 0
BlockFitsAt Empty around b = Unit {0}
BlockFitsAt Alone around b = LineFits around b.now
BlockFitsAt Ordinary around b = RowFits around b.full × LineFits around b.now
    × (total_size (forest b.full) + total_size (forest b.now.done) ≤ MOST_SIZE)

abbrev pub BlockFits : ℕ → Block → Type 0
BlockFits around b = BlockFitsAt b.stage around b

-- as the children of a collection, or as an ordinary block
abbrev pub TagRowFits : ℕ → List CollectionEntry → Type 0
TagRowFits around es = RowFits around (map tree_of_entry es) ⊎ BlockFits around (with_entries no_paragraphs es)

abbrev pub TagsFit : ℕ → Tags → Type 0
TagsFit around x = TagRowFits around x.entries

abbrev pub ContentFits : ℕ → Content → Type 0
ContentFits around (inline p g) = LineFits around g
ContentFits around (blocks b) = BlockFits around b
ContentFits around (collecting x) = TagsFit around x
