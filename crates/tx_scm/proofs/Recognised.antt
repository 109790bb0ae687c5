-- The bytes that are recognised as a tree spell it, and all that spell it are recognised.
use Rattle.std.proofs.Common.{◌≡◌, ℕ, true, false, eqb, cond, List, [], ◌∷◌, ◌++◌, Option, Some, None, refl, sym, ap}
use Rattle.std.proofs.Common.{subst, ◌∙◌, append_assoc, arith}
use Rattle.std.proofs.lemmas.List.{append-nil}
use Rattle.std.proofs.lemmas.Bool.{eqb-true}
use Rattle.tx_tree.specs.Labels.{IsLabel}
use Rattle.tx_tree.specs.Limits.{IsWellFormed, AreWellFormed}
use Rattle.tx_tree.specs.WideTree.{WideTree, Forest, leaf, node, nil, cons}
use Rattle.tx_scm.specs.Spelling.{is_white, AreWhite, string_of, SpellsTree, SpellsTrees, Spells}
use Rattle.tx_scm.proofs.ByteKinds.{white_kind, letter_kind}
use Rattle.tx_scm.proofs.Complete.{node_parts, cons_parts}
use Rattle.tx_scm.specs.Recognising.{behind_white, behind_bytes, and_then, behind_tree, behind_trees}

-- ---- white

-- white, and what comes after it
pub white_parts : (bytes : List ℕ) → (w : List ℕ) × AreWhite w × (bytes ≡ w ++ behind_white bytes)
white_parts [] = ([], tt, refl)
white_parts (b ∷ bytes) =
    elim (is_white b) as
    (λ c. is_white b ≡ c → (w : List ℕ) × AreWhite w × (b ∷ bytes ≡ w ++ cond c (behind_white bytes) (b ∷ bytes))) [
      | true ↦ λ e. let parts = white_parts bytes in (b ∷ parts.0, (e, parts.1), ap (λ x. b ∷ x) parts.2)
      | false ↦ λ e. ([], tt, refl)
    ] refl

-- the first byte, if there is one, is no white
abbrev pub NoWhite : List ℕ → Type 0
NoWhite [] = Unit {0}
NoWhite (b ∷ bytes) = is_white b ≡ false

pub white_skipped : (w y : List ℕ) → AreWhite w → NoWhite y → behind_white (w ++ y) ≡ y
white_skipped [] [] h n = refl
white_skipped [] (b ∷ y) h n = ap (λ c. cond c (behind_white y) (b ∷ y)) n
white_skipped (b ∷ w) y h n = ap (λ c. cond c (behind_white (w ++ y)) (b ∷ (w ++ y))) h.0 ∙ white_skipped w y h.1 n

-- ---- given bytes

pub bytes_parts : (wanted bytes rest : List ℕ) → behind_bytes wanted bytes ≡ Some rest → bytes ≡ wanted ++ rest
bytes_parts [] bytes rest e = cc
bytes_parts (a ∷ wanted) [] rest e = absurd cc
bytes_parts (a ∷ wanted) (b ∷ bytes) rest e =
    elim (eqb a b) as (λ c. eqb a b ≡ c → cond c (behind_bytes wanted bytes) None ≡ Some rest
    → b ∷ bytes ≡ (a ∷ wanted) ++ rest) [
      | true ↦ λ t f. let same : a ≡ b = eqb-true a b t in let others : bytes ≡ wanted ++ rest =
          bytes_parts wanted bytes rest f in cc
      | false ↦ λ t f. absurd cc
    ] refl e

same_byte : (a : ℕ) → eqb a a ≡ true
same_byte a = grind arith

pub bytes_behind : (wanted rest : List ℕ) → behind_bytes wanted (wanted ++ rest) ≡ Some rest
bytes_behind [] rest = refl
bytes_behind (a ∷ wanted) rest = ap (λ c. cond c (behind_bytes wanted (wanted ++ rest)) None) (same_byte a)
    ∙ bytes_behind wanted rest

-- the bytes in between, where both steps found something
then_parts : (o : Option (List ℕ)) (f : List ℕ → Option (List ℕ)) (rest : List ℕ) → and_then o f ≡ Some rest
    → (x : List ℕ) × (o ≡ Some x) × (f x ≡ Some rest)
then_parts None f rest e = absurd cc
then_parts (Some x) f rest e = (x, refl, e)

then_more : (o : Option (List ℕ)) (f : List ℕ → Option (List ℕ)) (x : List ℕ) → o ≡ Some x → and_then o f ≡ f x
then_more o f x e = ap (λ o. and_then o f) e

-- ---- trees

abbrev node_text : List ℕ → List ℕ → List ℕ → List ℕ → List ℕ
node_text w label mid v = 40 ∷ (w ++ (label ++ (mid ++ (v ++ 41 ∷ []))))

node_regroup : (bytes x y z rest w v label mid : List ℕ) → bytes ≡ 40 ∷ x → x ≡ w ++ (label ++ y) → y ≡ mid ++ z
    → z ≡ v ++ 41 ∷ rest
    → bytes ≡ (40 ∷ (w ++ (label ++ (mid ++ (v ++ 41 ∷ []))))) ++ rest
node_regroup bytes x y z rest w v label mid a b c d = rw (a, b, c, d) (simp append_assoc)

regroup : (w a b rest : List ℕ) → w ++ (a ++ (b ++ rest)) ≡ (w ++ (a ++ b)) ++ rest
regroup w a b rest = simp append_assoc

mutual
  pub tree_parts : (t : WideTree) (bytes rest : List ℕ) → IsWellFormed t → behind_tree t bytes ≡ Some rest
      → (first : List ℕ) × SpellsTree first t × (bytes ≡ first ++ rest)
  tree_parts (leaf text) bytes rest h e = (string_of text, (h, refl), bytes_parts (string_of text) bytes rest e)
  tree_parts (node label ts) bytes rest h e =
      let open_part =
      then_parts (behind_bytes (40 ∷ []) bytes)
      (λ x. and_then (behind_bytes label (behind_white x))
      (λ y. and_then (behind_trees ts y) (λ z. behind_bytes (41 ∷ []) (behind_white z)))) rest e in
      let label_part = then_parts (behind_bytes label (behind_white open_part.0))
      (λ y. and_then (behind_trees ts y) (λ z. behind_bytes (41 ∷ []) (behind_white z))) rest open_part.2 in
      let trees_part = then_parts (behind_trees ts label_part.0) (λ z. behind_bytes (41 ∷ []) (behind_white z)) rest
      label_part.2 in
      let w = white_parts open_part.0 in
      let v = white_parts trees_part.0 in
      let mid = trees_parts ts label_part.0 trees_part.0 h.1 trees_part.1 in
      let a : bytes ≡ 40 ∷ open_part.0 = bytes_parts (40 ∷ []) bytes open_part.0 open_part.1 in
      let b : open_part.0 ≡ w.0 ++ (label ++ label_part.0) = w.2
      ∙ ap (λ x. w.0 ++ x) (bytes_parts label (behind_white open_part.0) label_part.0 label_part.1) in
      let d : trees_part.0 ≡ v.0 ++ 41 ∷ rest = v.2
      ∙ ap (λ x. v.0 ++ x) (bytes_parts (41 ∷ []) (behind_white trees_part.0) rest trees_part.2) in (
        node_text w.0 label mid.0 v.0,
        (w.0, mid.0, v.0, w.1, h.0, mid.1, v.1, refl {a = node_text w.0 label mid.0 v.0}),
        node_regroup bytes open_part.0 label_part.0 trees_part.0 rest w.0 v.0 label mid.0 a b mid.2 d,
      )

  pub trees_parts : (ts : Forest) (bytes rest : List ℕ) → AreWellFormed ts → behind_trees ts bytes ≡ Some rest
      → (first : List ℕ) × SpellsTrees first ts × (bytes ≡ first ++ rest)
  trees_parts nil bytes rest h e = ([], refl, cc)
  trees_parts (cons t ts) bytes rest h e =
      let tree_part = then_parts (behind_tree t (behind_white bytes)) (λ x. behind_trees ts x) rest e in
      let w = white_parts bytes in
      let one = tree_parts t (behind_white bytes) tree_part.0 h.0 tree_part.1 in
      let others = trees_parts ts tree_part.0 rest h.1 tree_part.2 in
      let is : bytes ≡ w.0 ++ (one.0 ++ (others.0 ++ rest)) = w.2
      ∙ ap (λ x. w.0 ++ x) (one.2 ∙ ap (λ x. one.0 ++ x) others.2) in (
        w.0 ++ (one.0 ++ others.0),
        (w.0, one.0, others.0, w.1, one.1, others.1, refl),
        is
            ∙ regroup w.0 one.0 others.0 rest,
      )

NoWhite-tree : (t : WideTree) (x y : List ℕ) → SpellsTree x t → NoWhite (x ++ y)
NoWhite-tree (leaf text) x y h = subst (λ x. NoWhite (x ++ y)) (sym h.1) refl
NoWhite-tree (node label ts) x y h = subst (λ x. NoWhite (x ++ y)) (sym h.7) refl

label_no_white : (label y : List ℕ) → IsLabel label → NoWhite (label ++ y)
label_no_white [] y h = absurd (omega (arith, h.some))
label_no_white (b ∷ label) y h =
    elim (is_white b) as (λ c. is_white b ≡ c → c ≡ false) [
      | true ↦ λ e. let white = white_kind b e in let letter = letter_kind b h.each.0 in absurd (cc)
      | false ↦ λ e. refl
    ] refl

mutual
  pub tree_behind : (t : WideTree) (x rest : List ℕ) → SpellsTree x t → behind_tree t (x ++ rest) ≡ Some rest
  tree_behind (leaf text) x rest h = ap (λ x. behind_bytes (string_of text) (x ++ rest)) h.1
      ∙ bytes_behind (string_of text) rest
  tree_behind (node label ts) x rest h =
      let y : List ℕ = h.1 ++ (h.2 ++ 41 ∷ rest) in
      ap (λ x. behind_tree (node label ts) x) (node_parts x h.0 label h.1 h.2 rest h.7)
      ∙ ap (λ x. and_then (behind_bytes label x)
      (λ y. and_then (behind_trees ts y) (λ z. behind_bytes (41 ∷ []) (behind_white z))))
      (white_skipped h.0 (label ++ y) h.3 (label_no_white label y h.4))
      ∙ ap (λ o. and_then o (λ y. and_then (behind_trees ts y) (λ z. behind_bytes (41 ∷ []) (behind_white z))))
      (bytes_behind label y)
      ∙ ap (λ o. and_then o (λ z. behind_bytes (41 ∷ []) (behind_white z))) (trees_behind ts h.1 (h.2 ++ 41 ∷ rest) h.5)
      ∙ ap (λ z. behind_bytes (41 ∷ []) z) (white_skipped h.2 (41 ∷ rest) h.6 refl)

  pub trees_behind : (ts : Forest) (x rest : List ℕ) → SpellsTrees x ts → behind_trees ts (x ++ rest) ≡ Some rest
  trees_behind nil x rest h = ap (λ x. Some (x ++ rest)) h
  trees_behind (cons t ts) x rest h =
      ap (λ x. behind_trees (cons t ts) x) (cons_parts x h.0 h.1 h.2 rest h.6)
      ∙ ap (λ x. and_then (behind_tree t x) (λ x. behind_trees ts x))
      (white_skipped h.0 (h.1 ++ (h.2 ++ rest)) h.3 (NoWhite-tree t h.1 (h.2 ++ rest) h.4))
      ∙ ap (λ o. and_then o (λ x. behind_trees ts x)) (tree_behind t h.1 (h.2 ++ rest) h.4)
      ∙ trees_behind ts h.2 rest h.5

-- ---- the whole

pub spells_from : (bytes rest : List ℕ) (t : WideTree) → IsWellFormed t → behind_tree t (behind_white bytes) ≡ Some rest
    → behind_white rest ≡ [] → Spells bytes t
spells_from bytes rest t f e n =
    let before = white_parts bytes in
    let tree = tree_parts t (behind_white bytes) rest f e in
    let behind = white_parts rest in
    let all_white : rest ≡ behind.0 = behind.2 ∙ ap (λ x. behind.0 ++ x) n ∙ append-nil behind.0 in (
      before.0,
      tree.0,
      behind.0,
      before.1,
      tree.1,
      behind.1,
      before.2
          ∙ ap (λ x. before.0 ++ x) (tree.2 ∙ ap (λ x. tree.0 ++ x) all_white),
    )

pub spells_to : (bytes : List ℕ) (t : WideTree) → Spells bytes t
    → (rest : List ℕ) × (behind_tree t (behind_white bytes) ≡ Some rest) × (behind_white rest ≡ [])
spells_to bytes t h = (
  h.2,
  ap (λ x. behind_tree t (behind_white x)) h.6
      ∙ ap (λ x. behind_tree t x) (white_skipped h.0 (h.1 ++ h.2) h.3 (NoWhite-tree t h.1 h.2 h.4))
      ∙ tree_behind t h.1 h.2 h.4,
  ap behind_white (sym (append-nil h.2)) ∙ white_skipped h.2 [] h.5 tt,
)
