-- What holds of all spellings and of all canonical texts.
use Rattle.std.proofs.Common.{ℕ, List, [], ◌∷◌, ◌++◌, refl, sym}
use Rattle.std.proofs.lemmas.List.{append-nil}
use Rattle.tx_tree.specs.WideTree.{WideTree, Forest, leaf, node, nil, cons}
use Rattle.tx_tree.specs.Limits.{IsWellFormed, AreWellFormed}
use Rattle.tx_scm.specs.Spelling.{SpellsTree, SpellsTrees, Spells, SpellsAlone}
use Rattle.tx_scm.specs.Canonical.{scheme_text, scheme_texts}
use Rattle.tx_scm.proofs.Complete.{spelled_once}

-- ---- what is spelled is well formed

mutual
  well_formed_tree : (t : WideTree) (bytes : List ℕ) → SpellsTree bytes t → IsWellFormed t
  well_formed_tree (leaf text) bytes h = h.0
  well_formed_tree (node label ts) bytes h = (h.4, well_formed_trees ts h.1 h.5)

  well_formed_trees : (ts : Forest) (bytes : List ℕ) → SpellsTrees bytes ts → AreWellFormed ts
  well_formed_trees nil bytes h = tt
  well_formed_trees (cons t ts) bytes h = (well_formed_tree t h.1 h.4, well_formed_trees ts h.2 h.5)

pub well_formed : (bytes : List ℕ) (t : WideTree) → Spells bytes t → IsWellFormed t
well_formed bytes t h = well_formed_tree t h.1 h.4

-- ---- the canonical text spells its tree

mutual
  text_spells : (t : WideTree) → IsWellFormed t → SpellsTree (scheme_text t) t
  text_spells (leaf text) h = (h, refl)
  text_spells (node label ts) h = ([], scheme_texts ts, [], tt, h.0, texts_spell ts h.1, tt, refl)

  texts_spell : (ts : Forest) → AreWellFormed ts → SpellsTrees (scheme_texts ts) ts
  texts_spell nil h = refl
  texts_spell (cons t ts) h =
      (32 ∷ [], scheme_text t, scheme_texts ts, (refl, tt), text_spells t h.0, texts_spell ts h.1, refl)

alone : (bytes : List ℕ) (t : WideTree) → Spells bytes t → SpellsAlone bytes t
alone bytes t h = record { spelled = h; alone = λ u k. spelled_once bytes u t k h }

pub text_alone : (t : WideTree) → IsWellFormed t → SpellsAlone (scheme_text t) t
text_alone t h =
    alone (scheme_text t) t ([], scheme_text t, [], tt, text_spells t h, tt, sym (append-nil (scheme_text t)))

pub line_alone : (t : WideTree) → IsWellFormed t → SpellsAlone (scheme_text t ++ 10 ∷ []) t
line_alone t h = alone (scheme_text t ++ 10 ∷ []) t ([], scheme_text t, 10 ∷ [], tt, text_spells t h, (refl, tt), refl)
