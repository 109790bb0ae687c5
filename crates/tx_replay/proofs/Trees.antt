-- The test says whether trees are equal.
use Rattle.std.proofs.Common.{◌≡◌, refl, ap, sym, subst}
use Rattle.std.specs.Prelude.{Option, Some, None, Bool, true, false, ◌&&◌, bytes_eq, IsTrue}
use Rattle.std.proofs.lemmas.Slice.Eq.{bytes_eq-Decides}
use Rattle.tx_tree.specs.WideTree.{WideTree, Forest, leaf, node, nil, cons}
use Rattle.tx_replay.specs.SameTrees.{is_same, are_same, same}

pub both : (a b : Bool) → a && b ≡ true → (a ≡ true) × (b ≡ true)
both true b h = (refl, h)
both false b h = cc

pub and_true : (a b : Bool) → a ≡ true → b ≡ true → a && b ≡ true
and_true true b h g = g
and_true false b h g = cc

mutual
  pub same_is : (t u : WideTree) → is_same t u ≡ true → t ≡ u
  same_is (leaf a) (leaf b) h = ap leaf ((bytes_eq-Decides a b).0 h)
  same_is (leaf a) (node m us) h = cc
  same_is (node l ts) (leaf b) h = cc
  same_is (node l ts) (node m us) h =
      let label : l ≡ m = (bytes_eq-Decides l m).0 (both (bytes_eq l m) (are_same ts us) h).0 in
      let parts : ts ≡ us = same_are ts us (both (bytes_eq l m) (are_same ts us) h).1 in
      cc

  pub same_are : (ts us : Forest) → are_same ts us ≡ true → ts ≡ us
  same_are nil nil h = refl
  same_are nil (cons u us) h = cc
  same_are (cons t ts) nil h = cc
  same_are (cons t ts) (cons u us) h =
      let first : t ≡ u = same_is t u (both (is_same t u) (are_same ts us) h).0 in
      let others : ts ≡ us = same_are ts us (both (is_same t u) (are_same ts us) h).1 in
      cc

mutual
  pub self_same : (t : WideTree) → is_same t t ≡ true
  self_same (leaf a) = (bytes_eq-Decides a a).1 refl
  self_same (node l ts) = and_true (bytes_eq l l) (are_same ts ts) ((bytes_eq-Decides l l).1 refl) (self_are ts)

  self_are : (ts : Forest) → are_same ts ts ≡ true
  self_are nil = refl
  self_are (cons t ts) = and_true (is_same t t) (are_same ts ts) (self_same t) (self_are ts)

pub is_same_of : (t u : WideTree) → t ≡ u → is_same t u ≡ true
is_same_of t u h = let P : WideTree → Type 0 = λ v. is_same t v ≡ true in subst P h (self_same t)

pub alike : (a b : Bool) → (a ≡ true → b ≡ true) → (b ≡ true → a ≡ true) → a ≡ b
alike true true f g = refl
alike true false f g = sym (f refl)
alike false true f g = g refl
alike false false f g = refl

pub same_result : (r : Bool) (t u : WideTree) → (IsTrue r → t ≡ u) → (t ≡ u → IsTrue r) → r ≡ is_same t u
same_result r t u f g = alike r (is_same t u) (λ h. is_same_of t u (f h)) (λ h. g (same_is t u h))

pub same_found : (a b : Option WideTree) → same a b ≡ true → a ≡ b
same_found None None h = refl
same_found None (Some u) h = cc
same_found (Some t) None h = cc
same_found (Some t) (Some u) h = ap Some (same_is t u h)

self_found : (o : Option WideTree) → same o o ≡ true
self_found None = refl
self_found (Some t) = self_same t

pub same_of : (a b : Option WideTree) → a ≡ b → same a b ≡ true
same_of a b e = subst (λ (o : Option WideTree). same a o ≡ true) e (self_found a)
