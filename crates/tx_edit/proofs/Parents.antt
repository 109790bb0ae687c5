-- Parents of paths, and what is at a path.
use Rattle.std.proofs.Common.{◌≡◌, ℕ, ◌≤◌, true, false, List, [], ◌∷◌, ◌++◌, Option, Some, None, is_some, refl, ap}
use Rattle.std.proofs.Common.{subst, ◌∙◌}
use Rattle.std.specs.Prelude.{IsSome, codes, slice_get, option_and_then}
use Rattle.std.specs.Option.{option_map_or}
use Rattle.tx_tree.specs.Limits.{IsWithinLimits}
use Rattle.tx_tree.specs.Paths.{subtree}
use Rattle.tx_tree.specs.WideTree.{WideTree, Forest, leaf, node, children_of, text_of}
use Rattle.tx_tree.proofs.Walking.{step_down}
use Rattle.tx_tree.proofs.Walks.{leaf_is}
use Rattle.tx_mod.specs.Ways.{AreChildNumbers}
use Rattle.tx_mod.proofs.Replacing.{down}
use Rattle.tx_mod.proofs.Small.{leads_small}
use Rattle.tx_doc.specs.Bodies.{is_labelled}
use Rattle.tx_edit.specs.Keys.{text_at, is_document_at, is_concat_at, parent_of}

-- ---- parents

parent_snoc : (p : List ℕ) (i : ℕ) → parent_of (p ++ i ∷ []) ≡ Some (p, i)
parent_snoc [] i = refl
parent_snoc (k ∷ p) i =
    ap (λ (o : Option (List ℕ × ℕ)). Some (option_map_or (λ (last : List ℕ × ℕ). (k ∷ last.0, last.1)) o ([], k)))
    (parent_snoc p i)

pub parent_is : (path p : List ℕ) (i : ℕ) → path ≡ p ++ i ∷ [] → parent_of path ≡ Some (p, i)
parent_is path p i e = ap parent_of e ∙ parent_snoc p i

pub no_parent : (path : List ℕ) → path ≡ [] → parent_of path ≡ None
no_parent path e = ap parent_of e

root_alone : (path : List ℕ) → parent_of path ≡ None → path ≡ []
root_alone [] e = refl
root_alone (k ∷ path) e = absurd (cc)

-- the path is that of the parent, and the number after it
pub path_is : (path : List ℕ) (last : List ℕ × ℕ) → parent_of path ≡ Some last → path ≡ last.0 ++ last.1 ∷ []
path_is [] last e = absurd (cc)
path_is (k ∷ path) last e = from (parent_of path) refl e (λ l f. path_is path l f)
  where
    up : Option (List ℕ × ℕ) → List ℕ × ℕ
    up o = option_map_or (λ (l : List ℕ × ℕ). (k ∷ l.0, l.1)) o ([], k)

    same : (o : Option (List ℕ × ℕ)) → ◌≡◌ {A = Option (List ℕ × ℕ)} (Some (up o)) (Some last) → up o ≡ last
    same o f = ap (λ (z : Option (List ℕ × ℕ)). option_map_or (λ (l : List ℕ × ℕ). l) z last) f

    from : (o : Option (List ℕ × ℕ)) → parent_of path ≡ o → ◌≡◌ {A = Option (List ℕ × ℕ)} (Some (up o)) (Some last)
        → ((l : List ℕ × ℕ) → parent_of path ≡ Some l → path ≡ l.0 ++ l.1 ∷ []) → k ∷ path ≡ last.0 ++ last.1 ∷ []
    from None f g ih =
        subst (λ (z : List ℕ × ℕ). k ∷ path ≡ z.0 ++ z.1 ∷ []) (same None g) (ap (λ q. k ∷ q) (root_alone path f))
    from (Some l) f g ih =
        subst (λ (z : List ℕ × ℕ). k ∷ path ≡ z.0 ++ z.1 ∷ []) (same (Some l) g) (ap (λ q. k ∷ q) (ih l f))

-- ---- what is at a path

-- a child, of what is at the path of its parent
pub record IsChildAt (t : WideTree) (p : List ℕ) (i : ℕ) (c : WideTree) : Type 0 where
  pub parent : WideTree
  pub found : subtree t p ≡ Some parent
  pub child : slice_get (children_of parent) i ≡ Some c

pub child_at : (p : List ℕ) (t c : WideTree) (i : ℕ) → subtree t (p ++ i ∷ []) ≡ Some c → IsChildAt t p i c
child_at [] t c i e = let d = down t i [] c e in record { parent = t; found = refl; child = d.found ∙ d.further }
child_at (k ∷ p) t c i e =
    let d = down t k (p ++ i ∷ []) c e in
    let a = child_at p d.child c i d.further in
    record { parent = a.parent; found = step_down t d.child k p d.found ∙ a.found; child = a.child }

pub text_found : (t : WideTree) (path text : List ℕ) → text_at t path ≡ Some text → subtree t path ≡ Some (leaf text)
text_found t path text e = from (subtree t path) e
  where
    from : (o : Option WideTree) → option_and_then text_of o ≡ Some text → o ≡ Some (leaf text)
    from None f = absurd (cc)
    from (Some s) f = ap Some (leaf_is s text f)

-- a subtree with a label is a node
pub record IsNodeAt (t : WideTree) (path : List ℕ) : Type 0 where
  pub label : List ℕ
  pub children : Forest
  pub found : subtree t path ≡ Some (node label children)

labelled_found : (name : List ℕ) (t : WideTree) (path : List ℕ)
    → option_map_or (is_labelled name) (subtree t path) false ≡ true → IsNodeAt t path
labelled_found name t path e = from (subtree t path) refl e
  where
    from : (o : Option WideTree) → subtree t path ≡ o → option_map_or (is_labelled name) o false ≡ true
        → IsNodeAt t path
    from None f g = absurd (cc)
    from (Some (leaf text)) f g = absurd (cc)
    from (Some (node l ts)) f g = record { label = l; children = ts; found = f }

pub document_found : (t : WideTree) (path : List ℕ) → is_document_at t path ≡ true → IsNodeAt t path
document_found t path e = labelled_found (codes "document") t path e

pub concat_found : (t : WideTree) (path : List ℕ) → is_concat_at t path ≡ true → IsNodeAt t path
concat_found t path e = labelled_found (codes "concat") t path e

-- ---- the number of a child is small

last_small : (p : List ℕ) (i : ℕ) → AreChildNumbers (p ++ i ∷ []) → i ≤ 65535
last_small [] i h = h.0
last_small (k ∷ p) i h = last_small p i h.1

pub child_small : (t s : WideTree) (path : List ℕ) (last : List ℕ × ℕ) → IsWithinLimits t → subtree t path ≡ Some s
    → parent_of path ≡ Some last → last.1 ≤ 65535
child_small t s path last w found e =
    last_small last.0 last.1 (subst AreChildNumbers (path_is path last e) (leads_small t path (ap is_some found) w))

pub text_small : (t : WideTree) (path : List ℕ) (last : List ℕ × ℕ) → IsWithinLimits t → IsSome (text_at t path)
    → parent_of path ≡ Some last → last.1 ≤ 65535
text_small t path last w h e = from (text_at t path) refl h
  where
    from : (o : Option (List ℕ)) → text_at t path ≡ o → IsSome o → last.1 ≤ 65535
    from None f k = absurd (cc)
    from (Some text) f k = child_small t (leaf text) path last w (text_found t path text f) e

pub concat_small : (t : WideTree) (path : List ℕ) (last : List ℕ × ℕ) → IsWithinLimits t → is_concat_at t path ≡ true
    → parent_of path ≡ Some last → last.1 ≤ 65535
concat_small t path last w h e = let n = concat_found t path h in
    child_small t (node n.label n.children) path last w n.found e
