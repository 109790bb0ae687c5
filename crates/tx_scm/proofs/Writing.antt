-- The text of a tree by its parts.
use Rattle.std.proofs.Common.{◌≡◌, ℕ, ◌+◌, List, [], ◌∷◌, ◌++◌, length, length-append, take, ap, refl, arith}
use Rattle.std.specs.Prelude.{Some}
use Rattle.std.proofs.lemmas.Grind.{common_steps}
use Rattle.tx_tree.specs.WideTree.{WideTree, forest, children_of, label_of, text_of}
use Rattle.tx_tree.proofs.Walks.{leaf_is, node_is, leaf_or_node, item_shallower}
use Rattle.tx_scm.specs.Spelling.{string_of}
use Rattle.tx_scm.specs.Canonical.{scheme_text, scheme_texts}

pub leaf_text : (t : WideTree) (text : List ℕ) → text_of t ≡ Some text → scheme_text t ≡ string_of text
leaf_text t text e = ap scheme_text (leaf_is t text e)

pub node_text : (t : WideTree) (label : List ℕ) → label_of t ≡ Some label
    → scheme_text t ≡ 40 ∷ (label ++ (scheme_texts (forest (children_of t)) ++ 41 ∷ []))
node_text t label e = ap scheme_text (node_is t label e)

pub node_length : (t : WideTree) (label : List ℕ) → label_of t ≡ Some label
    → length (scheme_text t) ≡ 2 + length label + length (scheme_texts (forest (children_of t)))
node_length t label e =
    let texts = scheme_texts (forest (children_of t)) in
    omega (
      arith,
      ap length (node_text t label e),
      length-append label (texts ++ 41 ∷ []),
      length-append texts (41 ∷ []),
    )

-- what begins a front begins the whole
pub front_kept : (a b whole : List ℕ) → take (length a) b ≡ a → take (length b) whole ≡ b → take (length a) whole ≡ a
front_kept [] b whole e f = refl
front_kept (x ∷ a) [] whole e f = absurd cc
front_kept (x ∷ a) (y ∷ b) [] e f = absurd cc
front_kept (x ∷ a) (y ∷ b) (z ∷ whole) e f =
    let first : z ≡ x = cc in
    let rest : take (length a) whole ≡ a = front_kept a b whole (tails e) (tails f) in
    cc
  where
    tails : {v w : ℕ} {s t : List ℕ} → v ∷ s ≡ w ∷ t → s ≡ t
    tails p = cc

pub ruleset length_rules = (leaf_or_node, item_shallower, leaf_text, node_length, common_steps)

pub ruleset text_rules = (leaf_or_node, item_shallower, leaf_text, node_text, common_steps)
