-- Which form a tree has, by its parts.
use Rattle.std.proofs.Common.{◌≡◌, ℕ, zero, suc, ◌+◌, ◌<◌, Bool, true, false, ◌&&◌, ltb, cond, List, [], ◌∷◌, length}
use Rattle.std.proofs.Common.{drop, get_or, arith, add-one, ap, refl, ◌∙◌}
use Rattle.std.specs.Prelude.{Some, None}
use Rattle.std.proofs.lemmas.Grind.{common_steps}
use Rattle.tx_tree.specs.WideTree.{WideTree, Forest, leaf, node, nil, cons, forest, trees, children_of, label_of}
use Rattle.tx_tree.specs.WideTree.{text_of}
use Rattle.tx_tree.proofs.Walks.{node_is, leaf_is, item_shallower}
use Rattle.tx_tm_form.specs.Parts.{same_bytes, document_label, collection_label, raw_data_label}
use Rattle.tx_tm_write.specs.Shapes.{some, are_nodes, is_block, has_two, is_raw, is_digits, all_digits, digits_of}
use Rattle.tx_tm_write.specs.Shapes.{text_or_empty}

and_false : (b : Bool) → (b && false) ≡ false
and_false true = refl
and_false false = refl

and_true : (b : Bool) → (b && true) ≡ b
and_true true = refl
and_true false = refl

pub no_block : (t : WideTree) → label_of t ≡ None → is_block t ≡ false
no_block (leaf text) e = refl
no_block (node label ts) e = absurd cc

-- the test of a node
pub a_document : (t : WideTree) (label : List ℕ) → label_of t ≡ Some label → same_bytes label document_label ≡ true
    → is_block t ≡ some (forest (children_of t))
a_document t label e h =
    ap is_block (node_is t label e)
    ∙ ap (λ b. cond b (some (forest (children_of t)))
    (same_bytes label collection_label && are_nodes (forest (children_of t)))) h

pub no_document : (t : WideTree) (label : List ℕ) → label_of t ≡ Some label → same_bytes label document_label ≡ false
    → is_block t ≡ (same_bytes label collection_label && are_nodes (forest (children_of t)))
no_document t label e h =
    ap is_block (node_is t label e)
    ∙ ap (λ b. cond b (some (forest (children_of t)))
    (same_bytes label collection_label && are_nodes (forest (children_of t)))) h

-- how many trees there are
pub some_trees : (ts : List WideTree) → some (forest ts) ≡ ltb 0 (length ts)
some_trees [] = refl
some_trees (t ∷ ts) = grind arith

pub two_trees : (ts : List WideTree) → has_two (forest ts) ≡ ltb 1 (length ts)
two_trees [] = refl
two_trees (t ∷ []) = refl
two_trees (t ∷ u ∷ ts) = grind arith

-- raw data
pub not_one : (label : List ℕ) (ts : List WideTree) → (length ts ≡ 1 → ⊥) → is_raw label (forest ts) ≡ false
not_one label [] h = and_false (same_bytes label raw_data_label)
not_one label (t ∷ []) h = absurd (h refl)
not_one label (t ∷ u ∷ ts) h = ap (λ b. same_bytes label raw_data_label && b) (and_false (is_digits t))
    ∙ and_false (same_bytes label raw_data_label)

pub only_one : (label : List ℕ) (ts : List WideTree) (t : WideTree) → length ts ≡ 1 → t ≡ get_or ts 0 t
    → is_raw label (forest ts) ≡ (same_bytes label raw_data_label && is_digits t)
only_one label [] t h e = absurd (omega arith)
only_one label (u ∷ []) t h e = let is : t ≡ u =
    e in rw is (ap (λ b. same_bytes label raw_data_label && b) (and_true (is_digits u)))
only_one label (u ∷ v ∷ ts) t h e = absurd (omega arith)

pub digits_one : (ts : List WideTree) (t : WideTree) → length ts ≡ 1 → t ≡ get_or ts 0 t
    → digits_of (forest ts) ≡ text_or_empty t
digits_one [] t h e = absurd (omega arith)
digits_one (u ∷ ts) t h e = let same : t ≡ u = e in cc

pub digits_leaf : (t : WideTree) (text : List ℕ) → text_of t ≡ Some text → is_digits t ≡ all_digits text
digits_leaf t text e = ap is_digits (leaf_is t text e)

pub text_leaf : (t : WideTree) (text : List ℕ) → text_of t ≡ Some text → text_or_empty t ≡ text
text_leaf t text e = ap text_or_empty (leaf_is t text e)

pub digits_node : (t : WideTree) → text_of t ≡ None → is_digits t ≡ false
digits_node (leaf text) e = absurd cc
digits_node (node label ts) e = refl

-- the i-th tree is the first of what is left
pub drop_tree : (ts : List WideTree) (i : ℕ) (t : WideTree) → i < length ts → t ≡ get_or ts i t
    → forest (drop i ts) ≡ cons t (forest (drop (i + 1) ts))
drop_tree [] i t lt e = absurd (omega arith)
drop_tree (u ∷ ts) zero t lt e = let same : t ≡ u = e in cc
drop_tree (u ∷ ts) (suc i) t lt e =
    let rest : forest (drop i ts) ≡ cons t (forest (drop (i + 1) ts)) = drop_tree ts i t (omega arith) e in
    rw add-one (rw add-one at rest)

pub ruleset child_rules = (item_shallower, drop_tree, common_steps)

pub ruleset shape_rules = (no_block, a_document, no_document, some_trees, common_steps)

pub ruleset digit_rules = (not_one, only_one, digits_one, digits_leaf, text_leaf, digits_node, common_steps)
