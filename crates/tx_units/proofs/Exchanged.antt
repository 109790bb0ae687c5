-- A tree with another child: what it has still, and the units that its children give.
use Rattle.std.proofs.Common.{◌≡◌, ℕ, zero, suc, ◌+◌, Bool, false, cond, List, [], ◌∷◌, ◌++◌, length, map, set}
use Rattle.std.proofs.Common.{refl, sym, ap, arith, length-set, ◌∙◌}
use Rattle.std.specs.Prelude.{nat_lt, Some, None, slice_get}
use Rattle.std.specs.List.{find, position, position_or_len, enumerate_from}
use Rattle.std.proofs.lemmas.List.Folds.{find_past, position_or_len-set}
use Rattle.std.proofs.lemmas.Option.{get_or_from_slice_get}
use Rattle.tx_doc.specs.Bodies.{is_labelled}
use Rattle.tx_tree.specs.WideTree.{WideTree, leaf, node, label_of, children_of}
use Rattle.tx_units.specs.declared.kinds.Unit.{Unit as DocUnit}
use Rattle.tx_units.specs.Inside.{HasOtherChild}
use Rattle.tx_units.specs.Units.{body_unit, units_with}

-- ---- lists

pub got : {X : Type 0} (xs : List X) (i : ℕ) (x y : X) → slice_get xs i ≡ Some x → slice_get (set xs i y) i ≡ Some y
got [] i x y e = absurd cc
got (z ∷ xs) zero x y e = refl
got {X} (z ∷ xs) (suc i) x y e = got {X = X} xs i x y e

-- a test that the other element passes as the first one did finds the same place
pub same_place : {X : Type 0} (p : X → Bool) (xs : List X) (i : ℕ) (x y : X) → slice_get xs i ≡ Some x → p y ≡ p x
    → position p (set xs i y) ≡ position p xs
same_place p xs i x y e same =
    let at : position_or_len p (set xs i y) ≡ position_or_len p xs =
    position_or_len-set p xs i y x (same ∙ ap p (sym (get_or_from_slice_get xs i x x e))) in
    ap (λ k. cond (nat_lt k (length (set xs i y))) (Some k) None) at
    ∙ ap (λ n. cond (nat_lt (position_or_len p xs) n) (Some (position_or_len p xs)) None) (length-set xs i y)

-- a test that neither element passes finds the same element
pub same_found : {X : Type 0} (p : X → Bool) (xs : List X) (i : ℕ) (x y : X) → slice_get xs i ≡ Some x
    → p x ≡ false → p y ≡ false → find p (set xs i y) ≡ find p xs
same_found p xs i x y e f g = find_past p xs i y x (ap p (get_or_from_slice_get xs i x x e) ∙ f) g

-- ---- labels

pub same_label : (label : List ℕ) (t u : WideTree) → label_of u ≡ label_of t
    → is_labelled label u ≡ is_labelled label t
same_label label (leaf s) (leaf v) e = refl
same_label label (leaf s) (node m us) e = absurd cc
same_label label (node l ts) (leaf v) e = absurd cc
same_label label (node l ts) (node m us) e =
    let same : m ≡ l = cc in ap (λ k. is_labelled label (node k ts)) same

-- ---- a tree with another child

pub child_of : (i : ℕ) (c d t u : WideTree) → HasOtherChild i c d t u → slice_get (children_of u) i ≡ Some d
child_of i c d t u h = ap (λ us. slice_get us i) h.others ∙ got (children_of t) i c d h.there

pub place_in : (p : WideTree → Bool) (i : ℕ) (c d t u : WideTree) → HasOtherChild i c d t u → p d ≡ p c
    → position p (children_of u) ≡ position p (children_of t)
place_in p i c d t u h same = ap (position p) h.others ∙ same_place p (children_of t) i c d h.there same

pub found_in : (p : WideTree → Bool) (i : ℕ) (c d t u : WideTree) → HasOtherChild i c d t u → p c ≡ false
    → p d ≡ false → find p (children_of u) ≡ find p (children_of t)
found_in p i c d t u h f g = ap (find p) h.others ∙ same_found p (children_of t) i c d h.there f g

-- ---- units of children

module _ (path : List ℕ) where
  abbrev pub numbered : ℕ → List WideTree → List DocUnit
  numbered k ts = map (λ p. body_unit p.1 (path ++ p.0 ∷ [])) (enumerate_from k ts)

  pub record IsNumbered (k : ℕ) (ts : List WideTree) (j : ℕ) (u : DocUnit) : Type 0 where
    pub tree : slice_get ts j ≡ Some u.tagged.tree
    pub path_is : u.path ≡ Some (path ++ (k + j) ∷ [])

  pub unit_at : (k : ℕ) (ts : List WideTree) (j : ℕ) (u : DocUnit) → slice_get (numbered k ts) j ≡ Some u
      → IsNumbered k ts j u
  unit_at k [] j u e = absurd cc
  unit_at k (t ∷ ts) zero u e =
      let same : body_unit t (path ++ k ∷ []) ≡ u = cc in
      let here : k ≡ k + 0 = omega arith in
      record {
        tree = ap (λ v. Some v.tagged.tree) same;
        path_is = ap (λ v. v.path) (sym same) ∙ ap (λ n. Some (path ++ n ∷ [])) here;
      }
  unit_at k (t ∷ ts) (suc j) u e =
      let h = unit_at (k + 1) ts j u e in
      let on : (k + 1) + j ≡ k + suc j = omega arith in
      record { tree = h.tree; path_is = h.path_is ∙ ap (λ n. Some (path ++ n ∷ [])) on }

  pub numbered_with : (k : ℕ) (ts : List WideTree) (j : ℕ) (x : WideTree)
      → numbered k (set ts j x) ≡ units_with j x (numbered k ts)
  numbered_with k [] j x = refl
  numbered_with k (t ∷ ts) zero x = refl
  numbered_with k (t ∷ ts) (suc j) x = ap (λ us. body_unit t (path ++ k ∷ []) ∷ us) (numbered_with (k + 1) ts j x)
