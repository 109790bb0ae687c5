-- The first leaf, found child by child.
use Rattle.std.proofs.Common.{◌≡◌, ℕ, suc, ◌+◌, List, [], ◌∷◌, ◌++◌, Option, Some, None, refl, sym, ap, ◌∙◌, subst}
use Rattle.std.proofs.Common.{arith}
use Rattle.std.specs.Option.{option_map_or}
use Rattle.tx_tree.specs.WideTree.{WideTree, Forest, leaf, node, nil, cons, forest, trees, children_of, label_of}
use Rattle.std.specs.Prelude.{slice_get, option_and_then, IsSomeAnd}
use Rattle.tx_tree.specs.Limits.{IsWellFormed}
use Rattle.tx_tree.specs.Paths.{subtree}
use Rattle.tx_tree.specs.Places.{IsPlace, IsOffset}
use Rattle.tx_tree.proofs.Children.{forest_trees}
use Rattle.tx_mod.proofs.Back.{well_formed_at}
use Rattle.std.proofs.lemmas.List.{append-nil}
use Rattle.std.specs.Prelude.{Bool, true, false, if◌then◌else◌, option_map, unwrap_or, codes}
use Rattle.std.specs.List.{position}
use Rattle.std.proofs.lemmas.Grind.{common_steps}
use Rattle.tx_tree.specs.declared.places.Place.{Place}
use Rattle.tx_doc.specs.Bodies.{is_labelled, is_body, first_in, body_of}
use Rattle.tx_state.specs.Cursors.{first_leaf, first_leaf_from, place_before, cursor_in, first_cursor}
use Rattle.tx_tree.proofs.Walks.{item_shallower}

-- a child without a leaf, and one with a leaf
pub leaf_past : (k : ℕ) (t : WideTree) (ts : List WideTree) → first_leaf t ≡ None
    → first_leaf_from k (forest (t ∷ ts)) ≡ first_leaf_from (k + 1) (forest ts)
leaf_past k t ts e = ap (λ o. option_map_or (λ path. Some (k ∷ path)) o (first_leaf_from (k + 1) (forest ts))) e

pub leaf_in : (k : ℕ) (t : WideTree) (ts : List WideTree) (path : List ℕ) → first_leaf t ≡ Some path
    → first_leaf_from k (forest (t ∷ ts)) ≡ Some (k ∷ path)
leaf_in k t ts path e = ap (λ o. option_map_or (λ path. Some (k ∷ path)) o (first_leaf_from (k + 1) (forest ts))) e

-- the first leaf of a node, from its children, and of a leaf
pub leaf_of_node : (t : WideTree) (label : List ℕ) → label_of t ≡ Some label
    → first_leaf t ≡ first_leaf_from 0 (forest (children_of t))
leaf_of_node (leaf text) label e = absurd cc
leaf_of_node (node l ts) label e = ap (first_leaf_from 0) (sym (forest_trees ts))

pub leaf_itself : (t : WideTree) → label_of t ≡ None → first_leaf t ≡ Some []
leaf_itself (leaf text) e = refl
leaf_itself (node l ts) e = absurd cc

-- ---- the first leaf is a place

start_of : (s : WideTree) → IsWellFormed s → IsOffset s 0
start_of (leaf text) h = ([], h.0, tt, h.1, h.2, refl)
start_of (node label ts) h = omega arith

-- before a subtree is a place
pub start_place : (t s : WideTree) (path : List ℕ) → IsWellFormed t → subtree t path ≡ Some s → IsPlace t path 0
start_place t s path h e =
    subst (λ o. IsSomeAnd o (λ s. IsOffset s 0)) (sym e) (start_of s (well_formed_at path t s e h))

-- child number j of the trees, the first of which has number k, leads on
abbrev LeadsFrom : ℕ → Forest → List ℕ → Type 0
LeadsFrom k ts path =
    (j : ℕ) × (rest : List ℕ) × (c s : WideTree) × (path ≡ (k + j) ∷ rest) × (slice_get (trees ts) j ≡ Some c)
    × (subtree c rest ≡ Some s)

leads_first : (k : ℕ) (t : WideTree) (ts : Forest) (path rest : List ℕ) (s : WideTree) → k ∷ rest ≡ path
    → subtree t rest ≡ Some s → LeadsFrom k (cons t ts) path
leads_first k t ts path rest s e h =
    (0, rest, t, s, (let same : k ≡ k + 0 = omega arith in sym e ∙ ap (λ n. n ∷ rest) same), refl, h)

leads_later : (k : ℕ) (t : WideTree) (ts : Forest) (path : List ℕ) → LeadsFrom (k + 1) ts path
    → LeadsFrom k (cons t ts) path
leads_later k t ts path h = (
  suc h.0,
  h.1,
  h.2,
  h.3,
  (let same : k + 1 + h.0 ≡ k + suc h.0 = omega arith in h.4 ∙ ap (λ n. n ∷ h.1) same),
  h.5,
  h.6,
)

down : (label : List ℕ) (ts : Forest) (path : List ℕ) → LeadsFrom 0 ts path
    → (s : WideTree) × (subtree (node label ts) path ≡ Some s)
down label ts path h = (
  h.3,
  ap (subtree (node label ts)) h.4
      ∙ ap (option_and_then (λ u. subtree u h.1))
      (ap (slice_get (trees ts)) (let same : 0 + h.0 ≡ h.0 = omega arith in same) ∙ h.5) ∙ h.6,
)

leads_in : (k : ℕ) (t : WideTree) (ts : Forest) (path : List ℕ)
    → ((rest : List ℕ) → first_leaf t ≡ Some rest → (s : WideTree) × (subtree t rest ≡ Some s))
    → (first_leaf_from (k + 1) ts ≡ Some path → LeadsFrom (k + 1) ts path) → (o : Option (List ℕ)) → first_leaf t ≡ o
    → option_map_or (λ rest. Some (k ∷ rest)) o (first_leaf_from (k + 1) ts) ≡ Some path → LeadsFrom k (cons t ts) path
leads_in k t ts path here later None h e = leads_later k t ts path (later e)
leads_in k t ts path here later (Some rest) h e = let found = here rest h in let same : k ∷ rest ≡ path =
    cc in leads_first k t ts path rest found.0 same found.1

mutual
  pub leaf_leads : (t : WideTree) (path : List ℕ) → first_leaf t ≡ Some path
      → (s : WideTree) × (subtree t path ≡ Some s)
  leaf_leads (leaf text) path e = let none : [] ≡ path = cc in (leaf text, ap (subtree (leaf text)) (sym none))
  leaf_leads (node label ts) path e = down label ts path (leaf_leads_from 0 ts path e)

  leaf_leads_from : (k : ℕ) (ts : Forest) (path : List ℕ) → first_leaf_from k ts ≡ Some path → LeadsFrom k ts path
  leaf_leads_from k nil path e = absurd cc
  leaf_leads_from k (cons t ts) path e =
      leads_in k t ts path (λ rest h. leaf_leads t rest h) (λ h. leaf_leads_from (k + 1) ts path h) (first_leaf t) refl
      e

step_on : (o : Option WideTree) (s u : WideTree) (path rest : List ℕ)
    → ((v : WideTree) → subtree v path ≡ Some s → subtree v (path ++ rest) ≡ Some u)
    → option_and_then (λ v. subtree v path) o ≡ Some s → option_and_then (λ v. subtree v (path ++ rest)) o ≡ Some u
step_on None s u path rest on e = absurd cc
step_on (Some v) s u path rest on e = on v e

-- down to a leaf of a subtree
pub subtree_on : (t s u : WideTree) (path rest : List ℕ) → subtree t path ≡ Some s → subtree s rest ≡ Some u
    → subtree t (path ++ rest) ≡ Some u
subtree_on t s u [] rest e h = let same : t ≡ s = cc in ap (λ v. subtree v rest) same ∙ h
subtree_on t s u (i ∷ path) rest e h =
    step_on (slice_get (children_of t) i) s u path rest (λ v d. subtree_on v s u path rest d h) e

-- ---- the first cursor is a place

child_leads : (t : WideTree) (i : ℕ) (p : List ℕ) (o : Option WideTree) → slice_get (children_of t) i ≡ o
    → option_and_then (λ c. option_map (λ _. i ∷ 0 ∷ []) (slice_get (children_of c) 0)) o ≡ Some p
    → (s : WideTree) × (subtree t p ≡ Some s)
child_leads t i p None h e = absurd cc
child_leads t i p (Some c) h e = grandchild_leads (slice_get (children_of c) 0) refl e
  where
    grandchild_leads : (o : Option WideTree) → slice_get (children_of c) 0 ≡ o → option_map (λ _. i ∷ 0 ∷ []) o ≡ Some p
        → (s : WideTree) × (subtree t p ≡ Some s)
    grandchild_leads None k e = absurd cc
    grandchild_leads (Some d) k e =
        let same : i ∷ 0 ∷ [] ≡ p = cc in (
          d,
          ap (subtree t) (sym same) ∙ ap (option_and_then (λ u. subtree u (0 ∷ []))) h
              ∙ ap (option_and_then (λ u. subtree u [])) k,
        )

body_leads_by : (t : WideTree) (p : List ℕ) (b : Bool) (o : Option ℕ)
    → (if b then option_map_or (first_in t) o (Some []) else Some []) ≡ Some p → (s : WideTree) × (subtree t p ≡ Some s)
body_leads_by t p false o e = let same : [] ≡ p = cc in (t, ap (subtree t) (sym same))
body_leads_by t p true None e = let same : [] ≡ p = cc in (t, ap (subtree t) (sym same))
body_leads_by t p true (Some i) e = child_leads t i p (slice_get (children_of t) i) refl e

-- the path to the body leads
pub body_leads : (t : WideTree) (p : List ℕ) → body_of t ≡ Some p → (s : WideTree) × (subtree t p ≡ Some s)
body_leads t p e = body_leads_by t p (is_labelled (codes "document") t) (position is_body (children_of t)) e

in_subtree : (t s : WideTree) (p : List ℕ) (o : Option (List ℕ)) → first_leaf s ≡ o → IsWellFormed t
    → subtree t p ≡ Some s → IsPlace t (p ++ unwrap_or o []) 0
in_subtree t s p None h formed e = subst (λ q. IsPlace t q 0) (sym (append-nil p)) (start_place t s p formed e)
in_subtree t s p (Some rest) h formed e = let found = leaf_leads s rest h in
    start_place t found.0 (p ++ rest) formed (subtree_on t s found.0 p rest e found.1)

in_body : (t : WideTree) (o : Option (List ℕ)) → body_of t ≡ o → IsWellFormed t
    → IsPlace t (option_map_or (cursor_in t) o (place_before [])).path
    (option_map_or (cursor_in t) o (place_before [])).offset
in_body t None h formed = start_place t t [] formed refl
in_body t (Some p) h formed =
    let found = body_leads t p h in
    subst (λ o. IsPlace t (p ++ option_map_or (λ s. unwrap_or (first_leaf s) []) o []) 0) (sym found.1)
    (in_subtree t found.0 p (first_leaf found.0) refl formed found.1)

pub first_place : (t : WideTree) (at : Place) → IsWellFormed t → at ≡ first_cursor t → IsPlace t at.path at.offset
first_place t at formed e = subst (λ c. IsPlace t c.path c.offset) (sym e) (in_body t (body_of t) refl formed)

pub ruleset leaf_rules = (item_shallower, leaf_of_node, leaf_itself, common_steps)
