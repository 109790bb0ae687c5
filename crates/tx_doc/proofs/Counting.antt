-- Depths and nodes of the parts of a tree, and what a tree without calls is made of.
use Rattle.std.proofs.Common.{◌≡◌, ℕ, zero, suc, ◌+◌, ◌-◌, ◌<◌, ◌≤◌, List, [], ◌∷◌, ◌++◌, length, map, take, drop}
use Rattle.std.proofs.Common.{get_or, Option, Some, None, refl, sym, ap, subst, ◌∙◌, arith, length-drop, append_assoc}
use Rattle.std.proofs.Common.{take-append-drop, false, is_some, MatchOption}
use Rattle.std.proofs.lemmas.List.{drop_more, take_all}
use Rattle.tx_tree.specs.Limits.{IsWithinLimits}
use Rattle.tx_tree.specs.WideTree.{WideTree, node, cons, forest, children_of, label_of}
use Rattle.tx_tree.specs.WideTree.{nodes_of, total_nodes, depth_of, deepest}
use Rattle.tx_tree.proofs.Walks.{node_is}
use Rattle.tx_doc.specs.Modern.{called, without_calls, all_without_calls}
use Rattle.tx_doc.specs.Calls.{IsCalled}
use Rattle.tx_doc.proofs.WithoutCalls.{within_still}

-- ---- parts of a list of trees

left : (ts : List WideTree) (i : ℕ) (x : WideTree) → i < length ts → x ≡ get_or ts i x → drop i ts ≡ x ∷ drop (i + 1) ts
left ts i x lt is = drop_more ts i x lt ∙ ap (λ t. t ∷ drop (i + 1) ts) (sym is)

drop_deep : (ts : List WideTree) (i : ℕ) → deepest (forest (drop i ts)) ≤ deepest (forest ts)
drop_deep ts zero = omega arith
drop_deep [] (suc i) = omega arith
drop_deep (t ∷ ts) (suc i) = omega (arith, drop_deep ts i)

pub item_deep : (ts : List WideTree) (i : ℕ) (x : WideTree) → i < length ts → x ≡ get_or ts i x
    → depth_of x ≤ deepest (forest ts)
item_deep ts i x lt is =
    let e = left ts i x lt is in
    let h : deepest (forest (x ∷ drop (i + 1) ts)) ≤ deepest (forest ts) =
    subst (λ us. deepest (forest us) ≤ deepest (forest ts)) e (drop_deep ts i) in
    omega (arith, h)

rest_is : (ts : List WideTree) (i : ℕ) → take (length ts - i) (drop i ts) ≡ drop i ts
rest_is ts i = take_all (length ts - i) (drop i ts) (omega (arith, length-drop i ts))

pub rest_deep : (ts : List WideTree) (i : ℕ)
    → deepest (forest (take (length ts - i) (drop i ts))) ≤ deepest (forest ts)
rest_deep ts i = rw rest_is (drop_deep ts i)

-- ---- a node and its children

pub depth_is : (t : WideTree) (label : List ℕ) (ts : List WideTree) → label_of t ≡ Some label → ts ≡ children_of t
    → depth_of t ≡ 1 + deepest (forest ts)
depth_is t label ts e f = ap depth_of (node_is t label e) ∙ ap (λ us. 1 + deepest (forest us)) (sym f)

pub nodes_are : (t : WideTree) (label : List ℕ) (ts : List WideTree) → label_of t ≡ Some label → ts ≡ children_of t
    → nodes_of t ≡ 1 + total_nodes (forest ts)
nodes_are t label ts e f = ap nodes_of (node_is t label e) ∙ ap (λ us. 1 + total_nodes (forest us)) (sym f)

-- ---- without calls

all_mapped : (ts : List WideTree) → all_without_calls (forest ts) ≡ forest (map without_calls ts)
all_mapped [] = refl
all_mapped (t ∷ ts) = ap (cons (without_calls t)) (all_mapped ts)

-- a node without calls is what is left of it when they are left out
pub without_is : (t : WideTree) (label : List ℕ) (ts : List WideTree) (name : List ℕ) (others : List WideTree)
    → label_of t ≡ Some label → ts ≡ children_of t → IsCalled label ts name others
    → without_calls t ≡ node name (forest (map without_calls others))
without_is t label ts name others e f h =
    ap without_calls (node_is t label e) ∙ ap (λ us. without_calls (node label (forest us))) (sym f)
    ∙ ap (called label) (all_mapped ts)
    ∙ h.made

-- where no call is left out, and no child has a call, the tree is unchanged
pub same_still : (t : WideTree) (label : List ℕ) (ts : List WideTree) (name : List ℕ) (others : List WideTree)
    → label_of t ≡ Some label → ts ≡ children_of t → IsCalled label ts name others → length others ≡ length ts
    → map without_calls others ≡ others
    → without_calls t ≡ t
same_still t label ts name others e f h l k =
    let same = h.same l in
    without_is t label ts name others e f h ∙ ap (λ us. node name (forest us)) (k ∙ same.1 ∙ f)
    ∙ ap (λ m. node m (forest (children_of t))) same.0
    ∙ sym (node_is t label e)

pub left_within : (t : WideTree) (label : List ℕ) (ts : List WideTree) (name : List ℕ) (others : List WideTree)
    → label_of t ≡ Some label → ts ≡ children_of t → IsCalled label ts name others → IsWithinLimits t
    → IsWithinLimits (node name (forest (map without_calls others)))
left_within t label ts name others e f h w =
    subst IsWithinLimits (without_is t label ts name others e f h) (within_still t w)

map_both : (ss ts : List WideTree) → map without_calls (ss ++ ts) ≡ map without_calls ss ++ map without_calls ts
map_both [] ts = refl
map_both (s ∷ ss) ts = ap (λ us. without_calls s ∷ us) (map_both ss ts)

-- the first tree that changes, between those that don't and the others
pub all_made : (ts : List WideTree) (i : ℕ) (x u : WideTree) → map without_calls (take i ts) ≡ take i ts
    → i < length ts → x ≡ get_or ts i x → without_calls x ≡ u
    → (take i ts ++ u ∷ []) ++ map without_calls (take (length ts - (i + 1)) (drop (i + 1) ts)) ≡ map without_calls ts
all_made ts i x u h lt is e =
    rw (rest_is ts (i + 1))
    (append_assoc (take i ts) (u ∷ []) (map without_calls (drop (i + 1) ts))
    ∙ ap (λ us. us ++ u ∷ map without_calls (drop (i + 1) ts)) (sym h)
    ∙ ap (λ v. map without_calls (take i ts) ++ v ∷ map without_calls (drop (i + 1) ts)) (sym e)
    ∙ sym (map_both (take i ts) (x ∷ drop (i + 1) ts))
    ∙ ap (map without_calls) (ap (λ us. take i ts ++ us) (sym (left ts i x lt is)) ∙ take-append-drop i ts))

-- what holds where there is no value
pub at_none : {V : Type 0} (P : Type 0) (Q : V → Type 0) (o : Option V) → is_some o ≡ false → MatchOption o P Q → P
at_none P Q None e h = h
at_none P Q (Some v) e h = absurd cc
