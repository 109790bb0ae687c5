-- Each paragraph's text is the canonical one of its tree, by computing all 256 of them.
use Rattle.std.proofs.Common.{◌≡◌, ℕ, ◌+◌, ◌*◌, ◌/◌, ◌%◌, ◌<◌, ◌≤◌, Bool, true, ◌&&◌, nat_le, List, [], ◌∷◌}
use Rattle.std.proofs.Common.{◌++◌, length, codes, refl, arith}
use Rattle.std.specs.Prelude.{◌↔◌}
use Rattle.std.specs.List.{AllByRecursion, list_all}
use Rattle.std.proofs.lemmas.Bool.{agree_below, agree_below_at, and_parts, leb-true}
use Rattle.tx_tree.specs.WideTree.{WideTree, Forest, leaf, node, nil, cons, size_of, depth_of, arity_of}
use Rattle.tx_tree.specs.WideTree.{text_length_of}
use Rattle.tx_tree.specs.Texts.{IsText}
use Rattle.tx_tree.specs.TextScan.{is_text, text_step}
use Rattle.tx_tree.specs.Labels.{is_label_byte, IsLabel}
use Rattle.tx_tree.specs.Limits.{IsWellFormed, AreWellFormed}
use Rattle.tx_tm_form.specs.Parts.{same_bytes}
use Rattle.tx_tm_form.proofs.Sound.{same_is}
use Rattle.tx_tm_write.specs.Canonical.{paragraph_text}
use Rattle.tx_generated.specs.Document.{leading_word, more_words, generated_paragraph, word}
use Rattle.tx_generated.specs.Tree.{assignment_tree, paragraph_of, paragraph_tree}

-- ---- trees that are well formed, by a test

-- the test of texts is right
abbrev pub AreTexts : Type 0
AreTexts = (bytes : List ℕ) → (is_text bytes ≡ true) ↔ IsText bytes

abbrev pub is_label : List ℕ → Bool
is_label label = list_all is_label_byte label && (nat_le 1 (length label) && nat_le (length label) 64)

abbrev mutual
  is_formed : WideTree → Bool
  is_formed (leaf text) = is_text text
  is_formed (node label ts) = is_label label && are_formed ts

  are_formed : Forest → Bool
  are_formed nil = true
  are_formed (cons t ts) = is_formed t && are_formed ts

label_bytes : (label : List ℕ) → list_all is_label_byte label ≡ true
    → AllByRecursion (λ b. is_label_byte b ≡ true) label
label_bytes [] h = tt
label_bytes (b ∷ label) h =
    let p = and_parts (is_label_byte b) (list_all is_label_byte label) h in (p.0, label_bytes label p.1)

pub formed_label : (label : List ℕ) → is_label label ≡ true → IsLabel label
formed_label label h =
    let p = and_parts (list_all is_label_byte label) (nat_le 1 (length label) && nat_le (length label) 64) h in
    let q = and_parts (nat_le 1 (length label)) (nat_le (length label) 64) p.1 in
    record {
      each = label_bytes label p.0;
      some = leb-true 1 (length label) q.0;
      short = leb-true (length label) 64 q.1;
    }

mutual
  formed : AreTexts → (t : WideTree) → is_formed t ≡ true → IsWellFormed t
  formed texts (leaf text) h = (texts text).0 h
  formed texts (node label ts) h =
      let p = and_parts (is_label label) (are_formed ts) h in (formed_label label p.0, all_formed texts ts p.1)

  all_formed : AreTexts → (ts : Forest) → are_formed ts ≡ true → AreWellFormed ts
  all_formed texts nil h = tt
  all_formed texts (cons t ts) h =
      let p = and_parts (is_formed t) (are_formed ts) h in (formed texts t p.0, all_formed texts ts p.1)

-- ---- small trees

abbrev is_small : WideTree → Bool
is_small t =
    (nat_le (text_length_of t) 60 && nat_le (arity_of t) 2) && (nat_le (depth_of t) 3 && nat_le (size_of t) 60)

pub record IsSmall (t : WideTree) : Type 0 where
  pub text : text_length_of t ≤ 60
  pub arity : arity_of t ≤ 2
  pub depth : depth_of t ≤ 3
  pub size : size_of t ≤ 60

small : (t : WideTree) → is_small t ≡ true → IsSmall t
small t h =
    let p = and_parts (nat_le (text_length_of t) 60 && nat_le (arity_of t) 2)
    (nat_le (depth_of t) 3 && nat_le (size_of t) 60) h in
    let q = and_parts (nat_le (text_length_of t) 60) (nat_le (arity_of t) 2) p.0 in
    let r = and_parts (nat_le (depth_of t) 3) (nat_le (size_of t) 60) p.1 in
    record {
      text = leb-true (text_length_of t) 60 q.0;
      arity = leb-true (arity_of t) 2 q.1;
      depth = leb-true (depth_of t) 3 r.0;
      size = leb-true (size_of t) 60 r.1;
    }

-- ---- all paragraphs

-- the text is that of the tree, which is well formed and small
abbrev is_right : List ℕ → WideTree → Bool
is_right text t = same_bytes text (paragraph_text t) && (is_formed t && is_small t)

pub record IsRight (bytes : List ℕ) (t : WideTree) : Type 0 where
  pub text : bytes ≡ paragraph_text t
  pub formed : AreTexts → IsWellFormed t
  pub small : IsSmall t

right : (bytes : List ℕ) (t : WideTree) → is_right bytes t ≡ true → IsRight bytes t
right bytes t h =
    let p = and_parts (same_bytes bytes (paragraph_text t)) (is_formed t && is_small t) h in
    let q = and_parts (is_formed t) (is_small t) p.1 in
    record {
      text = same_is bytes (paragraph_text t) p.0;
      formed = λ texts. formed texts t q.0;
      small = small t q.1;
    }

-- the paragraph of this first word, this half of the step, and this kind
abbrev is_right_at : ℕ → ℕ → ℕ → Bool
is_right_at a b kind =
    is_right (leading_word kind (word a) ++ more_words a (2 * b + 1))
    (paragraph_of kind (word a) (more_words a (2 * b + 1)))

abbrev yes : ℕ → Bool
yes n = true

all_right : agree_below (λ a. agree_below (λ b. agree_below (λ kind. is_right_at a b kind) yes 4) yes 8) yes 8 ≡ true
unfolding is_text text_step is_label_byte
all_right = refl

right_at : (a b kind : ℕ) → a < 8 → b < 8 → kind < 4 → is_right_at a b kind ≡ true
right_at a b kind x y z =
    agree_below_at (λ k. is_right_at a b k) yes 4 kind
    (agree_below_at (λ c. agree_below (λ k. is_right_at a c k) yes 4) yes 8 b
    (agree_below_at (λ d. agree_below (λ c. agree_below (λ k. is_right_at d c k) yes 4) yes 8) yes 8 a all_right x) y) z

pub paragraph_right : (drawn : ℕ) → IsRight (generated_paragraph drawn) (paragraph_tree drawn)
paragraph_right drawn =
    right (generated_paragraph drawn) (paragraph_tree drawn)
    (right_at (drawn % 8) (drawn / 8 % 8) (drawn / 64 % 4) (omega arith) (omega arith) (omega arith))

pub first_right : IsRight (codes "<assign|v|tree>") (assignment_tree (codes "tree"))
unfolding is_text text_step is_label_byte
first_right = right (codes "<assign|v|tree>") (assignment_tree (codes "tree")) refl
