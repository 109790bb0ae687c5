-- What is known of a tree before it is made.
use Rattle.std.specs.Prelude.{◌≡◌, ℕ, ◌≤◌, ◌<◌, Ok, Err, Result, MatchResult}
use Rattle.tx_tree.specs.declared.TheConstants.{MOST_TEXT, MOST_ARITY}
use Rattle.tx_tree.specs.WideTree.{WideTree, leaf, node, forest, size_of, depth_of, arity_of, text_length_of}
use Rattle.tx_mod.specs.declared.faults.ModFault.{ModFault}
use Rattle.tx_mod.specs.declared.measures.Measure.{Measure}
use Rattle.tx_mod.specs.declared.parts.Parts.{Parts}
use Rattle.tx_mod.specs.declared.parts.Parts.TheVariants.{Leaf, Node}
use Rattle.tx_mod.specs.Changes.{Outcome}

-- the parts of the tree
abbrev pub ArePartsOf : WideTree → Parts → Type 0
ArePartsOf t (Leaf text) = t ≡ leaf text.now
ArePartsOf t (Node label children) = t ≡ node label.now (forest children.now)

-- where n passes the limit it is the peak, and else the peak is within the limit
pub record IsPeak (most n peak : ℕ) : Type 0 where
  pub within : n ≤ most → peak ≤ most
  pub past : most < n → peak ≡ n

-- the outcome is a tree of this measure
pub record HasMeasure (outcome : Outcome) (a : Measure) : Type 0 where
  pub tree : WideTree
  pub is : outcome ≡ Ok tree
  pub text : IsPeak MOST_TEXT a.text (text_length_of tree)
  pub arity : IsPeak MOST_ARITY a.arity (arity_of tree)
  pub depth : a.depth ≡ depth_of tree
  pub size : a.size ≡ size_of tree

-- the measure of the outcome, or its cause
abbrev pub MeasuresOutcome : Outcome → Result Measure ModFault → Type 0
MeasuresOutcome outcome result = MatchResult result (λ a. HasMeasure outcome a) (λ cause. outcome ≡ Err cause)

-- two trees within the limits make no greater depth or size
pub record IsSmallMeasure (a : Measure) : Type 0 where
  pub depth : a.depth ≤ 401
  pub size : a.size ≤ 16000001
