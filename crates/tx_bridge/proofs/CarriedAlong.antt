-- What is below a path that is carried is carried with it.
use Rattle.std.proofs.Common.{◌≡◌, ℕ, ◌+◌, ◌-◌, leb, ltb, eqb, Bool, true, false, List, [], ◌∷◌, ◌++◌}
use Rattle.std.proofs.Common.{Option, Some, None, Ok, Err, refl, sym, ap, ◌∙◌}
use Rattle.std.proofs.lemmas.List.{append_assoc}
use Rattle.std.proofs.lemmas.Option.{same_Some}
use Rattle.std.specs.Option.{option_map, option_map_or}
use Rattle.std.specs.Prelude.{if◌then◌else◌, option_and_then}
use Rattle.tx_tree.specs.Paths.{subtree}
use Rattle.tx_tree.specs.WideTree.{WideTree}
use Rattle.tx_mod.specs.declared.mods.Mod.{Mod}
use Rattle.tx_mod.specs.declared.mods.Mod.TheVariants.{Assign, Insert, Remove, Split, Join, AssignNode, InsertNode}
use Rattle.tx_mod.specs.declared.mods.Mod.TheVariants.{RemoveNode}
use Rattle.tx_mod.specs.Mods.{path_of, extent}
use Rattle.tx_mod.specs.Changes.{Outcome, changed}
use Rattle.tx_mod.specs.Moves.{rest_behind, child_or_self, shifted, some_path, carried_by_insert, carried_by_remove}
use Rattle.tx_mod.specs.Moves.{carried_in_split, carried_by_split, carried_in_join, carried_by_join, carried_by_unwrap}
use Rattle.tx_mod.specs.Moves.{carried_at, carried_path}
use Rattle.tx_mod.specs.Followed.{outcome_tree, carried_by_all}
use Rattle.tx_bridge.proofs.Inside.{IsNoFront, rest_is, rest_own, no_rest, fronts_meet, by_rest}

-- ---- one modification at its own path

module _ (s : List ℕ) where
  with_rest : (a b : List ℕ) → Some a ≡ Some b → Some (a ++ s) ≡ Some (b ++ s)
  with_rest a b e = ap (λ z. Some (z ++ s)) (same_Some a b e)

  inserted_along : (i n : ℕ) (a b : List ℕ) → carried_by_insert i n a ≡ Some b
      → carried_by_insert i n (a ++ s) ≡ Some (b ++ s)
  inserted_along i n [] b e = cc
  inserted_along i n (k ∷ u) b e = with_rest (shifted i n k ∷ u) b e

  removed_along : (i n : ℕ) (a b : List ℕ) → carried_by_remove i n a ≡ Some b
      → carried_by_remove i n (a ++ s) ≡ Some (b ++ s)
  removed_along i n [] b e = cc
  removed_along i n (k ∷ u) b e = by (leb (i + n) k) (leb i k) e
    where
      by : (c d : Bool) → (if c then Some ((k - n) ∷ u) else (if d then None else Some (k ∷ u))) ≡ Some b
          → (if c then Some ((k - n) ∷ (u ++ s)) else (if d then None else Some (k ∷ (u ++ s)))) ≡ Some (b ++ s)
      by true d f = with_rest ((k - n) ∷ u) b f
      by false true f = cc
      by false false f = with_rest (k ∷ u) b f

  in_split_along : (i j : ℕ) (a b : List ℕ) → carried_in_split i j a ≡ Some b
      → carried_in_split i j (a ++ s) ≡ Some (b ++ s)
  in_split_along i j [] b e = cc
  in_split_along i j (k ∷ u) b e = by (leb j k) e
    where
      by : (c : Bool) → (if c then Some ((i + 1) ∷ (k - j) ∷ u) else Some (i ∷ k ∷ u)) ≡ Some b
          → (if c then Some ((i + 1) ∷ (k - j) ∷ (u ++ s)) else Some (i ∷ k ∷ (u ++ s))) ≡ Some (b ++ s)
      by true f = with_rest ((i + 1) ∷ (k - j) ∷ u) b f
      by false f = with_rest (i ∷ k ∷ u) b f

  split_along : (i j : ℕ) (a b : List ℕ) → carried_by_split i j a ≡ Some b
      → carried_by_split i j (a ++ s) ≡ Some (b ++ s)
  split_along i j [] b e = cc
  split_along i j (k ∷ u) b e = by (ltb i k) (eqb k i) e
    where
      by : (c d : Bool)
          → (if c then Some ((k + 1) ∷ u) else (if d then carried_in_split i j u else Some (k ∷ u))) ≡ Some b
          → (if c then Some ((k + 1) ∷ (u ++ s))
          else (if d then carried_in_split i j (u ++ s) else Some (k ∷ (u ++ s)))) ≡ Some (b ++ s)
      by true d f = with_rest ((k + 1) ∷ u) b f
      by false true f = in_split_along i j u b f
      by false false f = with_rest (k ∷ u) b f

  in_join_along : (i n : ℕ) (a b : List ℕ) → carried_in_join i n a ≡ Some b
      → carried_in_join i n (a ++ s) ≡ Some (b ++ s)
  in_join_along i n [] b e = cc
  in_join_along i n (k ∷ u) b e = with_rest (i ∷ (k + n) ∷ u) b e

  below_child_along : (i : ℕ) (a b : List ℕ) → option_map (λ w. i ∷ w) (some_path a) ≡ Some b
      → option_map (λ w. i ∷ w) (some_path (a ++ s)) ≡ Some (b ++ s)
  below_child_along i [] b e = cc
  below_child_along i (k ∷ u) b e = with_rest (i ∷ k ∷ u) b e

  joined_along : (i n : ℕ) (a b : List ℕ) → carried_by_join i n a ≡ Some b
      → carried_by_join i n (a ++ s) ≡ Some (b ++ s)
  joined_along i n [] b e = cc
  joined_along i n (k ∷ u) b e = by (ltb (i + 1) k) (eqb k (i + 1)) (eqb k i) e
    where
      by : (c d h : Bool)
          → (if c then Some ((k - 1) ∷ u)
          else (if d then carried_in_join i n u
          else (if h then option_map (λ w. i ∷ w) (some_path u) else Some (k ∷ u)))) ≡ Some b
          → (if c then Some ((k - 1) ∷ (u ++ s))
          else (if d then carried_in_join i n (u ++ s)
          else (if h then option_map (λ w. i ∷ w) (some_path (u ++ s)) else Some (k ∷ (u ++ s))))) ≡ Some (b ++ s)
      by true d h f = with_rest ((k - 1) ∷ u) b f
      by false true h f = in_join_along i n u b f
      by false false true f = below_child_along i u b f
      by false false false f = with_rest (k ∷ u) b f

  some_along : (a b : List ℕ) → some_path a ≡ Some b → some_path (a ++ s) ≡ Some (b ++ s)
  some_along [] b e = cc
  some_along (k ∷ u) b e = with_rest (k ∷ u) b e

  unwrapped_along : (i : ℕ) (a b : List ℕ) → carried_by_unwrap i a ≡ Some b
      → carried_by_unwrap i (a ++ s) ≡ Some (b ++ s)
  unwrapped_along i [] b e = cc
  unwrapped_along i (k ∷ u) b e = by (eqb k i) e
    where
      by : (c : Bool) → (if c then Some u else None) ≡ Some b → (if c then Some (u ++ s) else None) ≡ Some (b ++ s)
      by true f = with_rest u b f
      by false f = cc

  at_along : (m : Mod) (x : WideTree) (a b : List ℕ) → carried_at m x a ≡ Some b
      → carried_at m x (a ++ s) ≡ Some (b ++ s)
  at_along (Assign p y) x a b e = cc
  at_along (Insert p i y) x a b e = inserted_along i (extent y) a b e
  at_along (Remove p i n) x a b e = removed_along i n a b e
  at_along (Split p i j) x a b e = split_along i j a b e
  at_along (Join p i) x a b e = joined_along i (extent (child_or_self x i)) a b e
  at_along (AssignNode p l) x a b e = some_along a b e
  at_along (InsertNode p i y) x a b e = with_rest (i ∷ a) b e
  at_along (RemoveNode p i) x a b e = unwrapped_along i a b e

  -- ---- one modification

  is_no_front : (q r : List ℕ) → rest_behind q r ≡ None → IsNoFront q r
  is_no_front q r e y is = let off : None ≡ Some y = sym e ∙ ap (rest_behind q) is ∙ rest_own q y in cc

  one_along : (m : Mod) (t : WideTree) (q r : List ℕ) → carried_path m t q ≡ Some r
      → carried_path m t (q ++ s) ≡ Some (r ++ s)
  one_along m t q r e = by (subtree t (path_of m)) e
    where
      by_way : (x : WideTree) (a : List ℕ) → q ≡ path_of m ++ a → (o : Option (List ℕ)) → carried_at m x a ≡ o
          → option_map (λ v. path_of m ++ v) o ≡ Some r
          → by_rest m x (q ++ s) (rest_behind (path_of m) (q ++ s)) (rest_behind (q ++ s) (path_of m)) ≡ Some (r ++ s)
      by_way x a is None f g = cc
      by_way x a is (Some v) f g =
          ap (λ o. by_rest m x (q ++ s) o (rest_behind (q ++ s) (path_of m)))
          (ap (rest_behind (path_of m)) (ap (λ z. z ++ s) is ∙ append_assoc (path_of m) a s)
          ∙ rest_own (path_of m) (a ++ s))
          ∙ ap (option_map (λ z. path_of m ++ z)) (at_along m x a v f)
          ∙ ap (λ z. Some z) (sym (append_assoc (path_of m) v s))
          ∙ with_rest (path_of m ++ v) r g

      by_down : (x : WideTree) (down up : Option (List ℕ)) → rest_behind (path_of m) q ≡ down
          → rest_behind q (path_of m) ≡ up → by_rest m x q down up ≡ Some r
          → by_rest m x (q ++ s) (rest_behind (path_of m) (q ++ s)) (rest_behind (q ++ s) (path_of m)) ≡ Some (r ++ s)
      by_down x (Some a) up f g h = by_way x a (rest_is (path_of m) q a f) (carried_at m x a) refl h
      by_down x None (Some z) f g h = cc
      by_down x None None f g h =
          ap (λ o. by_rest m x (q ++ s) o (rest_behind (q ++ s) (path_of m)))
          (no_rest (path_of m) (q ++ s)
          (λ y is. fronts_meet q (path_of m) s y is (is_no_front q (path_of m) g) (is_no_front (path_of m) q f)))
          ∙ ap (by_rest m x (q ++ s) None)
          (no_rest (q ++ s) (path_of m)
          (λ y is. is_no_front q (path_of m) g (s ++ y) (is ∙ append_assoc q s y)))
          ∙ with_rest q r h

      by : (o : Option WideTree)
          → option_map_or (λ x. by_rest m x q (rest_behind (path_of m) q) (rest_behind q (path_of m))) o None ≡ Some r
          → option_map_or (λ x.
          by_rest m x (q ++ s) (rest_behind (path_of m) (q ++ s)) (rest_behind (q ++ s) (path_of m))) o None
          ≡ Some (r ++ s)
      by None f = cc
      by (Some x) f = by_down x (rest_behind (path_of m) q) (rest_behind q (path_of m)) refl refl f

  -- ---- all of them

  pub all_along : (ms : List Mod) (t : WideTree) (q r : List ℕ) → carried_by_all ms t q ≡ Some r
      → carried_by_all ms t (q ++ s) ≡ Some (r ++ s)
  all_along [] t q r e = with_rest q r e
  all_along (m ∷ ms) t q r e =
      step (changed m t) (carried_path m t q) refl (λ v a. all_along ms v a r) e
    where
      step : (o : Outcome) (c : Option (List ℕ)) → carried_path m t q ≡ c
          → ((v : WideTree) (a : List ℕ) → carried_by_all ms v a ≡ Some r
          → carried_by_all ms v (a ++ s) ≡ Some (r ++ s))
          → option_and_then (λ v. option_and_then (carried_by_all ms v) c) (outcome_tree o) ≡ Some r
          → option_and_then (λ v. option_and_then (carried_by_all ms v) (carried_path m t (q ++ s))) (outcome_tree o)
          ≡ Some (r ++ s)
      step (Err cause) c is ih f = cc
      step (Ok v) None is ih f = cc
      step (Ok v) (Some a) is ih f =
          ap (option_and_then (carried_by_all ms v)) (one_along m t q a is) ∙ ih v a f
