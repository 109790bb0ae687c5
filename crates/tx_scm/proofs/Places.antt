-- The recogniser's loops, place by place.
use Rattle.std.proofs.Common.{◌≡◌, ℕ, ◌+◌, ◌<◌, ◌≤◌, true, false, eqb, cond, List, [], ◌∷◌, length, get_or, drop}
use Rattle.std.proofs.Common.{Option, Some, None, sym, ap, ◌∙◌, arith, length-drop}
use Rattle.std.proofs.lemmas.List.{drop_more, drop_all}
use Rattle.tx_tree.specs.WideTree.{WideTree, forest, children_of, label_of, text_of}
use Rattle.tx_tree.proofs.Walks.{node_is, leaf_is}
use Rattle.tx_tree.specs.Limits.{IsWellFormed}
use Rattle.tx_scm.specs.Spelling.{is_white, string_of, Spells}
use Rattle.tx_scm.specs.Recognising.{behind_white, behind_bytes, and_then, behind_tree, behind_trees}
use Rattle.tx_scm.proofs.Recognised.{spells_from, spells_to}

module _ (bytes : List ℕ) (i : ℕ) (lt : i < length bytes) where
  pub white_more : is_white (get_or bytes i 0) ≡ true → behind_white (drop i bytes) ≡ behind_white (drop (i + 1) bytes)
  white_more e =
      ap behind_white (drop_more bytes i 0 lt)
      ∙ ap (λ c. cond c (behind_white (drop (i + 1) bytes)) (get_or bytes i 0 ∷ drop (i + 1) bytes)) e

  pub white_ends : is_white (get_or bytes i 0) ≡ false → behind_white (drop i bytes) ≡ drop i bytes
  white_ends e =
      ap behind_white (drop_more bytes i 0 lt)
      ∙ ap (λ c. cond c (behind_white (drop (i + 1) bytes)) (get_or bytes i 0 ∷ drop (i + 1) bytes)) e
      ∙ sym (drop_more bytes i 0 lt)

  pub bytes_more : (wanted : List ℕ) (k : ℕ) → k < length wanted → get_or bytes i 0 ≡ get_or wanted k 0
      → behind_bytes (drop k wanted) (drop i bytes) ≡ behind_bytes (drop (k + 1) wanted) (drop (i + 1) bytes)
  bytes_more wanted k kt e =
      ap (λ w. behind_bytes w (drop i bytes)) (drop_more wanted k 0 kt)
      ∙ ap (λ x. behind_bytes (get_or wanted k 0 ∷ drop (k + 1) wanted) x) (drop_more bytes i 0 lt)
      ∙ ap (λ c. cond c (behind_bytes (drop (k + 1) wanted) (drop (i + 1) bytes)) None)
      (same (get_or wanted k 0) (get_or bytes i 0) (sym e))
    where
      same : (a b : ℕ) → a ≡ b → eqb a b ≡ true
      same a b e = grind arith

  pub bytes_differ : (wanted : List ℕ) (k : ℕ) → k < length wanted → (get_or bytes i 0 ≡ get_or wanted k 0 → ⊥)
      → behind_bytes (drop k wanted) (drop i bytes) ≡ None
  bytes_differ wanted k kt n =
      ap (λ w. behind_bytes w (drop i bytes)) (drop_more wanted k 0 kt)
      ∙ ap (λ x. behind_bytes (get_or wanted k 0 ∷ drop (k + 1) wanted) x) (drop_more bytes i 0 lt)
      ∙ ap (λ c. cond c (behind_bytes (drop (k + 1) wanted) (drop (i + 1) bytes)) None)
      (other (get_or wanted k 0) (get_or bytes i 0) n)
    where
      other : (a b : ℕ) → (b ≡ a → ⊥) → eqb a b ≡ false
      other a b n = grind arith

pub white_all : (bytes : List ℕ) (i : ℕ) → length bytes ≤ i → behind_white (drop i bytes) ≡ []
white_all bytes i le = ap behind_white (drop_all i bytes le)

pub bytes_end : (wanted bytes : List ℕ) (k i : ℕ) → k < length wanted → length bytes ≤ i
    → behind_bytes (drop k wanted) (drop i bytes) ≡ None
bytes_end wanted bytes k i kt le = ap (λ w. behind_bytes w (drop i bytes)) (drop_more wanted k 0 kt)
    ∙ ap (λ x. behind_bytes (get_or wanted k 0 ∷ drop (k + 1) wanted) x) (drop_all i bytes le)

pub bytes_found : (wanted bytes : List ℕ) (k i : ℕ) → length wanted ≤ k
    → behind_bytes (drop k wanted) (drop i bytes) ≡ Some (drop i bytes)
bytes_found wanted bytes k i le = ap (λ w. behind_bytes w (drop i bytes)) (drop_all k wanted le)

-- ---- a tree

abbrev pub closing : List ℕ → Option (List ℕ)
closing z = behind_bytes (41 ∷ []) (behind_white z)

pub leaf_at : (t : WideTree) (text x : List ℕ) → text_of t ≡ Some text
    → behind_tree t x ≡ behind_bytes (string_of text) x
leaf_at t text x e = ap (λ t. behind_tree t x) (leaf_is t text e)

module _ (t : WideTree) (label x : List ℕ) (is : label_of t ≡ Some label) where
  node_at : behind_tree t x ≡ and_then (behind_bytes (40 ∷ []) x)
      (λ y. and_then (behind_bytes label (behind_white y))
      (λ z. and_then (behind_trees (forest (children_of t)) z) closing))
  node_at = ap (λ t. behind_tree t x) (node_is t label is)

  pub not_opened : behind_bytes (40 ∷ []) x ≡ None → behind_tree t x ≡ None
  not_opened e =
      node_at ∙ ap
      (λ o. and_then o
      (λ y. and_then (behind_bytes label (behind_white y))
      (λ z. and_then (behind_trees (forest (children_of t)) z) closing))) e

  opened : (y : List ℕ) → behind_bytes (40 ∷ []) x ≡ Some y
      → behind_tree t x ≡ and_then (behind_bytes label (behind_white y))
      (λ z. and_then (behind_trees (forest (children_of t)) z) closing)
  opened y e =
      node_at ∙ ap
      (λ o. and_then o
      (λ y. and_then (behind_bytes label (behind_white y))
      (λ z. and_then (behind_trees (forest (children_of t)) z) closing))) e

  pub not_named : (y w : List ℕ) → behind_bytes (40 ∷ []) x ≡ Some y → w ≡ behind_white y → behind_bytes label w ≡ None
      → behind_tree t x ≡ None
  not_named y w e white n =
      opened y e ∙ ap
      (λ w. and_then (behind_bytes label w) (λ z. and_then (behind_trees (forest (children_of t)) z) closing))
      (sym white) ∙ ap (λ o. and_then o (λ z. and_then (behind_trees (forest (children_of t)) z) closing)) n

  pub named_at : (y w z : List ℕ) → behind_bytes (40 ∷ []) x ≡ Some y → w ≡ behind_white y
      → behind_bytes label w ≡ Some z → behind_tree t x ≡ and_then (behind_trees (forest (children_of t)) z) closing
  named_at y w z e white n =
      opened y e ∙ ap
      (λ w. and_then (behind_bytes label w) (λ z. and_then (behind_trees (forest (children_of t)) z) closing))
      (sym white) ∙ ap (λ o. and_then o (λ z. and_then (behind_trees (forest (children_of t)) z) closing)) n

module _ (items : List WideTree) (i : ℕ) (child : WideTree) (x w : List ℕ) (lt : i < length items)
    (is : child ≡ get_or items i child) (white : w ≡ behind_white x) where
  child_at : and_then (behind_trees (forest (drop i items)) x) closing ≡ and_then
      (and_then (behind_tree child w) (λ y. behind_trees (forest (drop (i + 1) items)) y)) closing
  child_at =
      ap (λ ts. and_then (behind_trees (forest ts) x) closing) (drop_more items i child lt)
      ∙ ap (λ t. and_then
      (and_then (behind_tree t (behind_white x)) (λ y. behind_trees (forest (drop (i + 1) items)) y)) closing)
      (sym is)
      ∙ ap (λ w. and_then (and_then (behind_tree child w) (λ y. behind_trees (forest (drop (i + 1) items)) y)) closing)
      (sym white)

  pub child_none : behind_tree child w ≡ None → and_then (behind_trees (forest (drop i items)) x) closing ≡ None
  child_none e =
      child_at ∙ ap (λ o. and_then (and_then o (λ y. behind_trees (forest (drop (i + 1) items)) y)) closing) e

  pub child_more : (y : List ℕ) → behind_tree child w ≡ Some y
      → and_then (behind_trees (forest (drop i items)) x) closing ≡ and_then
      (behind_trees (forest (drop (i + 1) items)) y) closing
  child_more y e =
      child_at ∙ ap (λ o. and_then (and_then o (λ y. behind_trees (forest (drop (i + 1) items)) y)) closing) e

pub children_end : (items : List WideTree) (i : ℕ) (x w : List ℕ) → length items ≤ i → w ≡ behind_white x
    → and_then (behind_trees (forest (drop i items)) x) closing ≡ behind_bytes (41 ∷ []) w
children_end items i x w le white = ap (λ ts. and_then (behind_trees (forest ts) x) closing) (drop_all i items le)
    ∙ ap (λ w. behind_bytes (41 ∷ []) w) (sym white)

-- ---- the result

pub not_spelled : (bytes w : List ℕ) (t : WideTree) → w ≡ behind_white bytes → behind_tree t w ≡ None → Spells bytes t
    → ⊥
not_spelled bytes w t white e h = let to = spells_to bytes t h in let found =
    sym (ap (behind_tree t) white ∙ to.1) ∙ e in absurd (cc)

drop_empty : (bytes : List ℕ) (end : ℕ) → end ≤ length bytes → drop end bytes ≡ [] → end ≡ length bytes
drop_empty bytes end le e = let size : length (drop end bytes) ≡ 0 = ap length e in omega (arith, length-drop end bytes)

pub spelled_at : (bytes w : List ℕ) (t : WideTree) (end last : ℕ) → IsWellFormed t → w ≡ behind_white bytes
    → behind_tree t w ≡ Some (drop end bytes) → last ≤ length bytes
    → drop last bytes ≡ behind_white (drop end bytes) → last ≡ length bytes → Spells bytes t
spelled_at bytes w t end last f white e le rest all =
    spells_from bytes (drop end bytes) t f (ap (behind_tree t) (sym white) ∙ e)
    (sym rest ∙ drop_all last bytes (omega arith))

pub spelled_ends : (bytes w : List ℕ) (t : WideTree) (end last : ℕ) → w ≡ behind_white bytes
    → behind_tree t w ≡ Some (drop end bytes) → last ≤ length bytes
    → drop last bytes ≡ behind_white (drop end bytes) → Spells bytes t → last ≡ length bytes
spelled_ends bytes w t end last white e le rest h =
    let to = spells_to bytes t h in
    let same : Some (drop end bytes) ≡ Some to.0 = sym e ∙ ap (behind_tree t) white ∙ to.1 in
    let left : drop end bytes ≡ to.0 = cc in
    drop_empty bytes last le (rest ∙ ap behind_white left ∙ to.2)
