-- An edit inside one paragraph of the document.
use Rattle.std.specs.Prelude.{◌≡◌, ◌≤◌, ℕ, zero, suc, Bool, true, false, not, ◌&&◌, ◌||◌, List, [], ◌∷◌, length, codes}
use Rattle.std.specs.Prelude.{Some, slice_get, slice_set}
use Rattle.tx_doc.specs.Bodies.{is_labelled, is_body}
use Rattle.tx_doc.specs.Buffers.{document_of, with_tree}
use Rattle.tx_doc.specs.declared.buffer.Buffer.{Buffer}
use Rattle.tx_tree.specs.Paths.{subtree}
use Rattle.tx_tree.specs.WideTree.{WideTree, label_of, children_of}
use Rattle.tx_units.specs.Documents.{is_document}
use Rattle.tx_units.specs.Units.{units, units_with}
use Rattle.tx_units.specs.declared.kinds.Unit.{Unit as DocUnit}

-- Whether a tree at this depth has a label by which a part of the document is found there. The body may be a
-- `document`, which is the root or is in a `body`; a section is a child of the root.
abbrev pub is_part : ℕ → WideTree → Bool
is_part zero t = is_document t
is_part (suc zero) t = is_body t || (is_labelled (codes "style") t || is_labelled (codes "initial") t)
is_part (suc (suc zero)) t = is_document t
is_part (suc (suc (suc depth))) t = false

-- whether x can take the place of the paragraph t at this path, and all other units are unchanged
abbrev pub leaves_others : List ℕ → WideTree → WideTree → Bool
leaves_others p t x = not (is_part (length p) t) && not (is_part (length p) x)

-- u is t with d as child i, in place of c
pub record HasOtherChild (i : ℕ) (c d t u : WideTree) : Type 0 where
  pub label : label_of u ≡ label_of t
  pub there : slice_get (children_of t) i ≡ Some c
  pub others : children_of u ≡ slice_set (children_of t) i d

-- the trees are the same but for what is at the path
abbrev pub AreSameBut : List ℕ → WideTree → WideTree → Type 0
AreSameBut [] t u = Unit {0}
AreSameBut (i ∷ p) t u = (c d : WideTree) × HasOtherChild i c d t u × AreSameBut p c d

-- Where x takes the place of the paragraph that is unit i, and this leaves the others, that unit alone changes. The
-- document with x is t.
abbrev pub ChangesOne : List Buffer → ℕ → WideTree → WideTree → Type 0
ChangesOne buffers i t x = 1 ≤ length buffers → (u : DocUnit) (p : List ℕ) → slice_get (units buffers) i ≡ Some u
    → u.path ≡ Some p → leaves_others p u.tagged.tree x ≡ true → AreSameBut p (document_of buffers) t
    → subtree t p ≡ Some x
    → units (with_tree buffers 0 t) ≡ units_with i x (units buffers)
