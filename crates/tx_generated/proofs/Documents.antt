-- The text of a document is the canonical one of its tree, which is within the limits.
use Rattle.std.proofs.Common.{◌≡◌, ℕ, zero, suc, ◌+◌, ◌*◌, ◌≤◌, List, [], ◌∷◌, ◌++◌, map, codes}
use Rattle.std.proofs.Common.{refl, sym, ap, subst, ◌∙◌, true, arith}
use Rattle.std.specs.Prelude.{flat_map}
use Rattle.std.specs.List.{range_with_len}
use Rattle.tx_tree.specs.WideTree.{WideTree, Forest, forest, count, widest, deepest, longest_text, total_size}
use Rattle.tx_tree.specs.Limits.{IsWellFormed, AreWellFormed, IsWithinLimits}
use Rattle.tx_tree.specs.Labels.{is_label_byte, IsLabel}
use Rattle.tx_tm_form.specs.Parts.{document_label}
use Rattle.tx_tm_write.specs.Shapes.{is_block}
use Rattle.tx_tm_write.specs.Alone.{SpellsAlone}
use Rattle.tx_tm_write.specs.Canonical.{paragraph_text, paragraphs_text, tm_text}
use Rattle.tx_generated.specs.Document.{document_text, drawn_number, generated_paragraph}
use Rattle.tx_generated.specs.Tree.{assignment_tree, document, paragraph_tree}
use Rattle.tx_generated.proofs.Paragraphs.{AreTexts, IsRight, formed_label, first_right, paragraph_right}

-- ---- any paragraphs, by their numbers

module _ (texts : ℕ → List ℕ) (trees : ℕ → WideTree) (right : (i : ℕ) → IsRight (texts i) (trees i)) where
  pub all_texts : (text : List ℕ) (t : WideTree) (numbers : List ℕ) → text ≡ paragraph_text t
      → text ++ flat_map (λ x. (10 ∷ 10 ∷ []) ++ x) (map texts numbers)
      ≡ paragraphs_text (forest (t ∷ map trees numbers))
  all_texts text t [] e = ap (λ z. z ++ []) e
  all_texts text t (i ∷ numbers) e =
      ap (λ z. z ++ 10 ∷ 10 ∷ (texts i ++ flat_map (λ x. (10 ∷ 10 ∷ []) ++ x) (map texts numbers))) e
      ∙ ap (λ z. paragraph_text t ++ 10 ∷ 10 ∷ z) (all_texts (texts i) (trees i) numbers (right i).text)

  pub all_formed : AreTexts → (numbers : List ℕ) → AreWellFormed (forest (map trees numbers))
  all_formed are [] = tt
  all_formed are (i ∷ numbers) = ((right i).formed are, all_formed are numbers)

  -- so many small trees
  pub record AreSmall (ts : Forest) (n : ℕ) : Type 0 where
    pub number : count ts ≡ n
    pub text : longest_text ts ≤ 60
    pub arity : widest ts ≤ 2
    pub depth : deepest ts ≤ 3
    pub size : total_size ts ≤ 60 * n

  pub all_small : (a n : ℕ) → AreSmall (forest (map trees (range_with_len a n))) n
  all_small a zero =
      record { number = refl; text = omega arith; arity = omega arith; depth = omega arith; size = omega arith }
  all_small a (suc n) =
      let own = (right a).small in
      let others = all_small (a + 1) n in
      record { number = omega arith; text = omega arith; arity = omega arith; depth = omega arith; size = omega arith }

-- ---- the document

abbrev text_at : ℕ → ℕ → List ℕ
text_at number i = generated_paragraph (drawn_number number i)

abbrev tree_at : ℕ → ℕ → WideTree
tree_at number i = paragraph_tree (drawn_number number i)

right_at : (number i : ℕ) → IsRight (text_at number i) (tree_at number i)
right_at number i = paragraph_right (drawn_number number i)

pub canonical : (number n : ℕ) → document_text number n ≡ tm_text (document number n)
canonical number n =
    all_texts (text_at number) (tree_at number) (right_at number) (codes "<assign|v|tree>")
    (assignment_tree (codes "tree")) (range_with_len 1 n) first_right.text

document_is_label : IsLabel document_label
unfolding is_label_byte
document_is_label = formed_label document_label refl

pub well_formed : AreTexts → (number n : ℕ) → IsWellFormed (document number n)
well_formed are number n =
    let others = all_formed (text_at number) (tree_at number) (right_at number) are (range_with_len 1 n) in
    (document_is_label, (first_right.formed are, others))

-- the canonical text of a block spells it
abbrev SpellsBlocks : Type 0
SpellsBlocks = (t : WideTree) → IsWellFormed t → is_block t ≡ true → SpellsAlone (tm_text t) t

pub spelled : SpellsBlocks → AreTexts → (number n : ℕ) → SpellsAlone (document_text number n) (document number n)
spelled spells are number n =
    subst (λ bytes. SpellsAlone bytes (document number n)) (sym (canonical number n))
    (spells (document number n) (well_formed are number n) refl)

pub within : (number n : ℕ) → n ≤ 60000 → IsWithinLimits (document number n)
within number n few =
    let own = first_right.small in
    let others = all_small (text_at number) (tree_at number) (right_at number) 1 n in
    record { text = omega arith; arity = omega arith; depth = omega arith; size = omega arith }
