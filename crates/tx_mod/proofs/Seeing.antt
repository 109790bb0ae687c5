-- Leaves, nodes and cuts, by what the calls return.
use Rattle.std.proofs.Common.{◌≡◌, ℕ, ◌<◌, true, false, List, length, Some, refl, ap, ◌∙◌, arith}
use Rattle.tx_tree.specs.Texts.{IsText, IsCut}
use Rattle.tx_tree.specs.Cuts.{is_cut}
use Rattle.tx_tree.specs.WideTree.{WideTree, leaf, node, forest, children_of, label_of}
use Rattle.tx_tree.proofs.Children.{forest_trees}
use Rattle.tx_tree.proofs.Cutting.{cut_test, cut_tested}
use Rattle.tx_tree.proofs.Walks.{leaf_is, leaf_or_node}

pub node_seen : (t : WideTree) (label : List ℕ) (children : List WideTree) → label_of t ≡ Some label
    → children ≡ children_of t → t ≡ node label (forest children)
node_seen (leaf x) label children e f = absurd (cc)
node_seen (node l ts) label children e f = let same : l ≡ label = cc in let whole : forest children ≡ ts =
    ap forest f ∙ forest_trees ts in rw (same, whole) refl

pub ruleset seeing = (leaf_is, node_seen, leaf_or_node)

pub no_cut_past : (text : List ℕ) (n : ℕ) → length text < n → is_cut text n ≡ false
unfolding is_cut
no_cut_past text n lt = grind arith

pub no_cut_is : (text : List ℕ) (n : ℕ) → IsText text → (IsCut text n → ⊥) → is_cut text n ≡ false
no_cut_is text n whole h =
    elim (is_cut text n) as (λ b. is_cut text n ≡ b → b ≡ false) [
      | true ↦ λ e. absurd (h (cut_test text n whole e))
      | false ↦ λ e. refl
    ] refl

pub ruleset cutting = (no_cut_past, cut_tested, no_cut_is)
