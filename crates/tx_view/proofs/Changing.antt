-- Modifications that are all inside one paragraph leave all else of the document as it is.
use Rattle.std.proofs.Common.{◌≡◌, ℕ, List, [], ◌∷◌, ◌++◌, length, drop, set, Some, refl, sym, ap, subst, ◌∙◌}
use Rattle.std.proofs.Common.{nat_eq}
use Rattle.std.proofs.lemmas.Bool.{and_parts}
use Rattle.std.proofs.lemmas.Bool.Decides.{Decides-eqb}
use Rattle.std.proofs.lemmas.List.{set-set}
use Rattle.std.proofs.lemmas.Slice.Eq.{starts_is}
use Rattle.std.specs.List.{starts_with}
use Rattle.std.specs.Prelude.{true, option_and_then, Ok, Err}
use Rattle.tx_tree.specs.WideTree.{WideTree, leaf, node, trees, children_of, label_of}
use Rattle.tx_tree.specs.Paths.{subtree}
use Rattle.tx_tree.proofs.Children.{trees_forest}
use Rattle.tx_mod.specs.declared.mods.Mod.{Mod}
use Rattle.tx_mod.specs.Mods.{path_of, with_child_at, replaced}
use Rattle.tx_mod.specs.Changes.{Outcome, changed}
use Rattle.tx_mod.specs.Followed.{outcome_tree, changed_by_all}
use Rattle.tx_mod.proofs.Back.{made_of}
use Rattle.tx_mod.proofs.Replacing.{down, replaced_down}
use Rattle.tx_units.specs.Inside.{AreSameBut}
use Rattle.tx_units.proofs.Exchanged.{child_of}
use Rattle.tx_bridge.specs.InPlace.{begins_path, is_gone, are_within}

-- ---- one subtree replaced

with_label : (t w : WideTree) (i : ℕ) → label_of (with_child_at t i w) ≡ label_of t
with_label (leaf text) w i = refl
with_label (node l ts) w i = refl

with_children : (t w : WideTree) (i : ℕ) → children_of (with_child_at t i w) ≡ set (children_of t) i w
with_children (leaf text) w i = refl
with_children (node l ts) w i = trees_forest (set (trees ts) i w)

-- what is below a path is replaced, and all beside the path is unchanged
same_beside : (p rest : List ℕ) (t x v : WideTree) → subtree t (p ++ rest) ≡ Some x
    → AreSameBut p t (replaced t (p ++ rest) v)
same_beside [] rest t x v e = tt
same_beside (i ∷ p) rest t x v e =
    let d = down t i (p ++ rest) x e in
    let w : WideTree = replaced d.child (p ++ rest) v in
    let is : replaced t (i ∷ (p ++ rest)) v ≡ with_child_at t i w = replaced_down t d.child i (p ++ rest) v d.found in (
      d.child,
      w,
      record {
        label = ap label_of is ∙ with_label t w i;
        there = d.found;
        others = ap children_of is ∙ with_children t w i;
      },
      same_beside p rest d.child x v d.further,
    )

some_same : {A : Type 0} (x y : A) → Some x ≡ Some y → x ≡ y
some_same x y e = cc

both_beside : (p : List ℕ) (t u w : WideTree) → AreSameBut p t u → AreSameBut p u w → AreSameBut p t w
both_beside [] t u w h k = tt
both_beside (i ∷ p) t u w h k =
    let same : k.0 ≡ h.1 = some_same k.0 h.1 (sym k.2.there ∙ child_of i h.0 h.1 t u h.2) in (
      h.0,
      k.1,
      record {
        label = k.2.label ∙ h.2.label;
        there = h.2.there;
        others = k.2.others ∙ ap (λ us. set us i k.1) h.2.others ∙ set-set (children_of t) i h.1 k.1;
      },
      both_beside p h.0 h.1 k.1 h.3 (subst (λ c. AreSameBut p c k.1) same k.3),
    )

-- ---- modifications below a path

front_is : (p q : List ℕ) → begins_path p q ≡ true → q ≡ p ++ drop (length p) q
front_is p q e = (starts_is Decides-eqb q p (starts_with nat_eq q p) refl).0 e

one_beside : (m : Mod) (t u : WideTree) (p : List ℕ) → begins_path p (path_of m) ≡ true → changed m t ≡ Ok u
    → AreSameBut p t u
one_beside m t u p inside made =
    let d = made_of m t u made in
    let rest : List ℕ = drop (length p) (path_of m) in
    let is : path_of m ≡ p ++ rest = front_is p (path_of m) inside in
    subst (AreSameBut p t) (sym (d.is ∙ ap (λ q. replaced t q d.new) is))
    (same_beside p rest t d.old d.new (ap (subtree t) (sym is) ∙ d.found))

beside_step : (m : Mod) (ms : List Mod) (t u : WideTree) (p : List ℕ) → are_within p (m ∷ ms) ≡ true
    → ((v : WideTree) → AreSameBut p t v → are_within p ms ≡ true → changed_by_all ms v ≡ Some u → AreSameBut p t u)
    → changed_by_all (m ∷ ms) t ≡ Some u → AreSameBut p t u
beside_step m ms t u p inside next made = by (changed m t) refl made
  where
    both : (begins_path p (path_of m) ≡ true) × (are_within p ms ≡ true)
    both = and_parts (begins_path p (path_of m)) (are_within p ms) inside

    by : (o : Outcome) → changed m t ≡ o → option_and_then (changed_by_all ms) (outcome_tree o) ≡ Some u
        → AreSameBut p t u
    by (Ok v) one h = next v (one_beside m t v p both.0 one) both.1 h
    by (Err cause) one h = absurd cc

all_beside : (ms : List Mod) (m : Mod) (t u : WideTree) (p : List ℕ) → are_within p (m ∷ ms) ≡ true
    → changed_by_all (m ∷ ms) t ≡ Some u → AreSameBut p t u
all_beside [] m t u p inside made =
    beside_step m [] t u p inside (λ v h _ one. subst (AreSameBut p t) (some_same v u one) h) made
all_beside (n ∷ ms) m t u p inside made =
    beside_step m (n ∷ ms) t u p inside (λ v h rest more. both_beside p t v u h (all_beside ms n v u p rest more)) made

-- at least one modification, all of them inside the subtree at the path
pub stays_beside : (ms : List Mod) (t u : WideTree) (p : List ℕ) → is_gone p ms ≡ true → are_within p ms ≡ true
    → changed_by_all ms t ≡ Some u → AreSameBut p t u
stays_beside [] t u p some inside made = absurd cc
stays_beside (m ∷ ms) t u p some inside made = all_beside ms m t u p inside made
