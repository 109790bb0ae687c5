-- The text of a tree by its parts.
use Rattle.std.proofs.Common.{◌≡◌, ℕ, zero, suc, ◌+◌, ◌<◌, ◌≤◌, Bool, true, false, ltb, cond, List, [], ◌∷◌, ◌++◌}
use Rattle.std.proofs.Common.{length, take, drop, append_assoc, arith, ap, sym, refl, ◌∙◌}
use Rattle.std.specs.Prelude.{Some, None}
use Rattle.std.proofs.lemmas.Grind.{common_steps}
use Rattle.tx_tree.specs.WideTree.{WideTree, leaf, node, forest, children_of, label_of, text_of}
use Rattle.tx_tree.proofs.Walks.{node_is, leaf_is, leaf_or_node}
use Rattle.tx_tm_form.specs.Parts.{same_bytes, document_label}
use Rattle.tx_tm_write.specs.Shapes.{some, stays_inline, is_raw, is_long, digits_of, IsRaw}
use Rattle.tx_tm_write.specs.Canonical.{opened, items_text, tag_text, part_text, content_text, parts_text}
use Rattle.tx_tm_write.specs.Canonical.{arguments_text, long_text, block_text, paragraphs_text, with_ends, tags_text}
use Rattle.tx_tm_write.proofs.Forms.{some_trees}

-- what begins a beginning begins the whole
pub still_begins : (a b c : List ℕ) → take (length a) b ≡ a → take (length b) c ≡ b → take (length a) c ≡ a
still_begins [] b c e f = refl
still_begins (x ∷ a) [] c e f = absurd cc
still_begins (x ∷ a) (y ∷ b) [] e f = absurd cc
still_begins (x ∷ a) (y ∷ b) (z ∷ c) e f =
    let head : z ≡ x = cc in
    let others : take (length a) c ≡ a = still_begins a b c (without_first e) (without_first f) in
    cc
  where
    without_first : {v w : ℕ} {s t : List ℕ} → v ∷ s ≡ w ∷ t → s ≡ t
    without_first p = cc

-- one part more of what is to be written
pub one_more : (done next part rest whole left : List ℕ) → next ≡ done ++ part → left ≡ part ++ rest
    → done ++ left ≡ whole → next ++ rest ≡ whole
one_more done next part rest whole left e k h = ap (λ x. x ++ rest) e ∙ append_assoc done part rest
    ∙ ap (λ x. done ++ x) (sym k) ∙ h

pub some_behind : (ts : List WideTree) (n : ℕ) → some (forest (drop n ts)) ≡ ltb n (length ts)
some_behind ts zero = some_trees ts
some_behind [] (suc n) = grind arith
some_behind (t ∷ ts) (suc n) = grind (arith, some_behind ts n)

pub leaf_part : (before behind : Bool) (t : WideTree) (text : List ℕ) → text_of t ≡ Some text
    → part_text before behind t ≡ items_text before behind text
leaf_part before behind t text e = ap (part_text before behind) (leaf_is t text e)

node_part : (before behind : Bool) (t : WideTree) (label : List ℕ) → label_of t ≡ Some label
    → part_text before behind t ≡ tag_text label (forest (children_of t)) (long_text label (forest (children_of t)))
    (arguments_text (forest (children_of t)))
node_part before behind t label e = ap (part_text before behind) (node_is t label e)

pub raw_part : (before behind : Bool) (t : WideTree) (label digits : List ℕ) → label_of t ≡ Some label
    → IsRaw label (children_of t) digits
    → part_text before behind t ≡ 60 ∷ 35 ∷ (digits ++ 62 ∷ [])
raw_part before behind t label digits e h =
    node_part before behind t label e
    ∙ ap (λ b. cond b (60 ∷ 35 ∷ (digits_of (forest (children_of t)) ++ 62 ∷ []))
    (cond (is_long label (forest (children_of t))) (opened 92 label ++ long_text label (forest (children_of t)))
    (60 ∷ (label ++ (arguments_text (forest (children_of t)) ++ 62 ∷ []))))) h.raw
    ∙ ap (λ d. 60 ∷ 35 ∷ (d ++ 62 ∷ [])) h.are

pub long_part_of : (before behind : Bool) (t : WideTree) (label : List ℕ) → label_of t ≡ Some label
    → is_raw label (forest (children_of t)) ≡ false
    → is_long label (forest (children_of t)) ≡ true
    → part_text before behind t ≡ opened 92 label ++ long_text label (forest (children_of t))
long_part_of before behind t label e h k =
    node_part before behind t label e
    ∙ ap (λ b. cond b (60 ∷ 35 ∷ (digits_of (forest (children_of t)) ++ 62 ∷ []))
    (cond (is_long label (forest (children_of t))) (opened 92 label ++ long_text label (forest (children_of t)))
    (60 ∷ (label ++ (arguments_text (forest (children_of t)) ++ 62 ∷ []))))) h
    ∙ ap (λ b. cond b (opened 92 label ++ long_text label (forest (children_of t)))
    (60 ∷ (label ++ (arguments_text (forest (children_of t)) ++ 62 ∷ [])))) k

pub short_part : (before behind : Bool) (t : WideTree) (label : List ℕ) → label_of t ≡ Some label
    → is_raw label (forest (children_of t)) ≡ false
    → is_long label (forest (children_of t)) ≡ false
    → part_text before behind t ≡ 60 ∷ (label ++ (arguments_text (forest (children_of t)) ++ 62 ∷ []))
short_part before behind t label e h k =
    node_part before behind t label e
    ∙ ap (λ b. cond b (60 ∷ 35 ∷ (digits_of (forest (children_of t)) ++ 62 ∷ []))
    (cond (is_long label (forest (children_of t))) (opened 92 label ++ long_text label (forest (children_of t)))
    (60 ∷ (label ++ (arguments_text (forest (children_of t)) ++ 62 ∷ []))))) h
    ∙ ap (λ b. cond b (opened 92 label ++ long_text label (forest (children_of t)))
    (60 ∷ (label ++ (arguments_text (forest (children_of t)) ++ 62 ∷ [])))) k

pub inline_content : (t : WideTree) (label : List ℕ) → label_of t ≡ Some label
    → stays_inline label (forest (children_of t)) ≡ true
    → content_text t ≡ parts_text false (forest (children_of t))
inline_content t label e h =
    ap content_text (node_is t label e)
    ∙ ap (λ b. cond b (parts_text false (forest (children_of t)))
    (tag_text label (forest (children_of t)) (long_text label (forest (children_of t)))
    (arguments_text (forest (children_of t))))) h

pub tag_content : (t : WideTree) (label : List ℕ) → label_of t ≡ Some label
    → stays_inline label (forest (children_of t)) ≡ false → content_text t ≡ part_text false false t
tag_content t label e h =
    ap content_text (node_is t label e)
    ∙ ap (λ b. cond b (parts_text false (forest (children_of t)))
    (tag_text label (forest (children_of t)) (long_text label (forest (children_of t)))
    (arguments_text (forest (children_of t))))) h
    ∙ sym (node_part false false t label e)

pub leaf_content : (t : WideTree) → label_of t ≡ None → content_text t ≡ part_text false false t
leaf_content (leaf text) e = refl
leaf_content (node label ts) e = absurd cc

pub document_text : (t : WideTree) (label : List ℕ) → label_of t ≡ Some label → same_bytes label document_label ≡ true
    → block_text t ≡ paragraphs_text (forest (children_of t))
document_text t label e h =
    ap block_text (node_is t label e)
    ∙ ap (λ b. cond b (paragraphs_text (forest (children_of t))) (with_ends (tags_text (forest (children_of t))))) h

pub collection_text : (t : WideTree) (label : List ℕ) → label_of t ≡ Some label
    → same_bytes label document_label ≡ false
    → block_text t ≡ with_ends (tags_text (forest (children_of t)))
collection_text t label e h =
    ap block_text (node_is t label e)
    ∙ ap (λ b. cond b (paragraphs_text (forest (children_of t))) (with_ends (tags_text (forest (children_of t))))) h

pub leaf_block : (t : WideTree) → label_of t ≡ None → block_text t ≡ []
leaf_block (leaf text) e = refl
leaf_block (node label ts) e = absurd cc

pub ruleset part_rules = (leaf_or_node, leaf_part, raw_part, long_part_of, short_part, common_steps)

pub ruleset content_rules = (inline_content, tag_content, leaf_content, common_steps)

pub ruleset block_rules = (document_text, collection_text, leaf_block, common_steps)
