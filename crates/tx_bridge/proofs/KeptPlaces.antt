-- Places that modifications are found to leave as they are.
use Rattle.std.proofs.Common.{◌≡◌, ℕ, ◌+◌, ◌-◌, ◌<◌, leb, ltb, eqb, List, [], ◌∷◌, ◌++◌, length, drop}
use Rattle.std.proofs.Common.{Option, Some, None, Ok, Err, refl, sym, ap, ◌∙◌, arith, ◌⊎◌, inl, inr}
use Rattle.std.proofs.Common.{◌≤◌, nat_eq, slice_index_or}
use Rattle.std.proofs.lemmas.List.{drop_more, drop_all}
use Rattle.std.specs.List.{starts_with}
use Rattle.std.proofs.lemmas.Bool.{leb-true, ltb-true, eqb-true}
use Rattle.std.proofs.lemmas.Bool.Decides.{Decides-eqb}
use Rattle.std.specs.Prelude.{Bool, true, false, not, ◌&&◌, ◌||◌, if◌then◌else◌, is_some, option_and_then, option_map}
use Rattle.std.specs.Option.{option_map_or}
use Rattle.tx_tree.specs.WideTree.{WideTree}
use Rattle.tx_tree.specs.Paths.{subtree}
use Rattle.tx_mod.specs.declared.mods.Mod.{Mod}
use Rattle.tx_mod.specs.declared.mods.Mod.TheVariants.{Assign, Insert, Remove, Split, Join, AssignNode, InsertNode}
use Rattle.tx_mod.specs.declared.mods.Mod.TheVariants.{RemoveNode}
use Rattle.tx_mod.specs.Mods.{path_of, extent}
use Rattle.tx_mod.specs.Changes.{Outcome, changed}
use Rattle.tx_mod.specs.Moves.{rest_behind, child_or_self, some_path, carried_by_insert, carried_by_remove}
use Rattle.tx_mod.specs.Moves.{carried_in_split, carried_by_split, carried_in_join, carried_by_join}
use Rattle.tx_mod.specs.Moves.{carried_at, carried_path}
use Rattle.tx_mod.specs.Followed.{outcome_tree, changed_by_all, carried_by_all}
use Rattle.tx_mod.proofs.Cases.{by_test}
use Rattle.tx_walk.proofs.Trees.{both}
use Rattle.tx_bridge.specs.InPlace.{begins_path, are_within}
use Rattle.tx_bridge.specs.Keeping.{is_below, stands_before, keeps_by_split, keeps_by_join, keeps_at, keeps_place}
use Rattle.tx_bridge.specs.Keeping.{all_keep_place}
use Rattle.tx_bridge.proofs.Inside.{rest_is, begins_is, by_rest, stands_at}
use Rattle.tx_bridge.proofs.WithinUnit.{no_rest_of, rest_of_is}

-- ---- one modification at its own path

either : (a b : Bool) → a || b ≡ true → (a ≡ true) ⊎ (b ≡ true)
either true b h = inl refl
either false b h = inr h

inserted_before : (i n : ℕ) (r : List ℕ) → stands_before i r ≡ true → carried_by_insert i n r ≡ Some r
inserted_before i n [] h = cc
inserted_before i n (k ∷ u) h =
    ap (λ j. Some (j ∷ u)) (by_test (λ j. j ≡ k) (leb i k) (k + n) k
    (λ t. absurd (omega (arith, ltb-true k i h, leb-true i k t))) (λ f. refl))

removed_before : (i n : ℕ) (r : List ℕ) → stands_before i r ≡ true → carried_by_remove i n r ≡ Some r
removed_before i n [] h = cc
removed_before i n (k ∷ u) h =
    by_test (λ o. o ≡ Some (k ∷ u)) (leb (i + n) k) (Some ((k - n) ∷ u)) (if leb i k then None else Some (k ∷ u))
    (λ t. absurd (omega (arith, ltb-true k i h, leb-true (i + n) k t)))
    (λ f. by_test (λ o. o ≡ Some (k ∷ u)) (leb i k) None (Some (k ∷ u))
    (λ t. absurd (omega (arith, ltb-true k i h, leb-true i k t))) (λ g. refl))

in_split : (i j k : ℕ) (u : List ℕ) → k ≡ i → stands_before j u ≡ true → carried_in_split i j u ≡ Some (k ∷ u)
in_split i j k [] same h = cc
in_split i j k (l ∷ w) same h =
    by_test (λ o. o ≡ Some (k ∷ l ∷ w)) (leb j l) (Some ((i + 1) ∷ (l - j) ∷ w)) (Some (i ∷ l ∷ w))
    (λ t. absurd (omega (arith, ltb-true l j h, leb-true j l t))) (λ f. ap (λ n. Some (n ∷ l ∷ w)) (sym same))

-- where the first number isn't after child i, by the last test
split_front : (i j k : ℕ) (u : List ℕ) → k < i + 1 → (k ≡ i → carried_in_split i j u ≡ Some (k ∷ u))
    → carried_by_split i j (k ∷ u) ≡ Some (k ∷ u)
split_front i j k u less here =
    by_test (λ o. o ≡ Some (k ∷ u)) (ltb i k) (Some ((k + 1) ∷ u))
    (if eqb k i then carried_in_split i j u else Some (k ∷ u))
    (λ t. absurd (omega (arith, less, ltb-true i k t)))
    (λ f. by_test (λ o. o ≡ Some (k ∷ u)) (eqb k i) (carried_in_split i j u) (Some (k ∷ u))
    (λ t. here (eqb-true k i t)) (λ g. refl))

split_before : (i j : ℕ) (r : List ℕ) → keeps_by_split i j r ≡ true → carried_by_split i j r ≡ Some r
split_before i j [] h = cc
split_before i j (k ∷ u) h = by (either (ltb k i) (eqb k i && stands_before j u) h)
  where
    by : (ltb k i ≡ true) ⊎ (eqb k i && stands_before j u ≡ true) → carried_by_split i j (k ∷ u) ≡ Some (k ∷ u)
    by (inl less) =
        let low : k < i = ltb-true k i less in
        split_front i j k u (omega (arith, low)) (λ same. absurd (omega (arith, low, same)))
    by (inr in_it) =
        let same : k ≡ i = eqb-true k i (both (eqb k i) (stands_before j u) in_it).0 in
        split_front i j k u (omega (arith, same))
        (λ e. in_split i j k u same (both (eqb k i) (stands_before j u) in_it).1)

some_below : (r : List ℕ) → is_below r ≡ true → some_path r ≡ Some r
some_below [] h = cc
some_below (k ∷ u) h = refl

-- where the first number isn't after child i, by the last test
join_front : (i n k : ℕ) (u : List ℕ) → k < i + 1
    → (k ≡ i → option_map (λ w. i ∷ w) (some_path u) ≡ Some (k ∷ u)) → carried_by_join i n (k ∷ u) ≡ Some (k ∷ u)
join_front i n k u less here =
    by_test (λ o. o ≡ Some (k ∷ u)) (ltb (i + 1) k) (Some ((k - 1) ∷ u))
    (if eqb k (i + 1) then carried_in_join i n u
    else (if eqb k i then option_map (λ w. i ∷ w) (some_path u) else Some (k ∷ u)))
    (λ t. absurd (omega (arith, less, ltb-true (i + 1) k t)))
    (λ f. by_test (λ o. o ≡ Some (k ∷ u)) (eqb k (i + 1)) (carried_in_join i n u)
    (if eqb k i then option_map (λ w. i ∷ w) (some_path u) else Some (k ∷ u))
    (λ t. absurd (omega (arith, less, eqb-true k (i + 1) t)))
    (λ g. by_test (λ o. o ≡ Some (k ∷ u)) (eqb k i) (option_map (λ w. i ∷ w) (some_path u)) (Some (k ∷ u))
    (λ t. here (eqb-true k i t)) (λ h. refl)))

join_before : (i n : ℕ) (r : List ℕ) → keeps_by_join i r ≡ true → carried_by_join i n r ≡ Some r
join_before i n [] h = cc
join_before i n (k ∷ u) h = by (either (ltb k i) (eqb k i && is_below u) h)
  where
    by : (ltb k i ≡ true) ⊎ (eqb k i && is_below u ≡ true) → carried_by_join i n (k ∷ u) ≡ Some (k ∷ u)
    by (inl less) =
        let low : k < i = ltb-true k i less in
        join_front i n k u (omega (arith, low)) (λ same. absurd (omega (arith, low, same)))
    by (inr in_it) =
        let same : k ≡ i = eqb-true k i (both (eqb k i) (is_below u) in_it).0 in
        join_front i n k u (omega (arith, same))
        (λ e. ap (option_map (λ w. i ∷ w)) (some_below u (both (eqb k i) (is_below u) in_it).1)
        ∙ ap (λ l. Some (l ∷ u)) (sym same))

stays_at : (m : Mod) (s : WideTree) (r : List ℕ) → keeps_at m r ≡ true → carried_at m s r ≡ Some r
stays_at (Assign p x) s r h = cc
stays_at (Insert p i x) s r h = inserted_before i (extent x) r h
stays_at (Remove p i n) s r h = removed_before i n r h
stays_at (Split p i j) s r h = split_before i j r h
stays_at (Join p i) s r h = join_before i (extent (child_or_self s i)) r h
stays_at (AssignNode p l) s r h = some_below r h
stays_at (InsertNode p i x) s r h = cc
stays_at (RemoveNode p i) s r h = cc

-- ---- all of them

place_stays : (m : Mod) (t u : WideTree) (q : List ℕ) → changed m t ≡ Ok u → keeps_place m q ≡ true
    → carried_path m t q ≡ Some q
place_stays m t u q made keep =
    let at : (s : WideTree) × (subtree t (path_of m) ≡ Some s) = stands_at m t u made in
    ap (λ o. option_map_or (λ s. by_rest m s q (rest_behind (path_of m) q) (rest_behind q (path_of m))) o None) at.1
    ∙ by at.0 (rest_behind (path_of m) q) refl (rest_behind q (path_of m)) keep
  where
    by : (s : WideTree) (o : Option (List ℕ)) → rest_behind (path_of m) q ≡ o → (up : Option (List ℕ))
        → option_map_or (keeps_at m) o (not (is_some up)) ≡ true → by_rest m s q o up ≡ Some q
    by s None e None h = refl
    by s None e (Some x) h = cc
    by s (Some r) e up h =
        ap (option_map (λ v. path_of m ++ v)) (stays_at m s r h) ∙ ap Some (sym (rest_is (path_of m) q r e))

pub places_stay : (ms : List Mod) (t u : WideTree) (q : List ℕ) → changed_by_all ms t ≡ Some u
    → all_keep_place ms q ≡ true → carried_by_all ms t q ≡ Some q
places_stay [] t u q made keep = refl
places_stay (m ∷ ms) t u q made keep =
    let all : (keeps_place m q ≡ true) × (all_keep_place ms q ≡ true) =
    both (keeps_place m q) (all_keep_place ms q) keep in
    by (changed m t) refl (λ v h. places_stay ms v u q h all.1) all.0 made
  where
    by : (o : Outcome) → changed m t ≡ o
        → ((v : WideTree) → changed_by_all ms v ≡ Some u → carried_by_all ms v q ≡ Some q) → keeps_place m q ≡ true
        → option_and_then (changed_by_all ms) (outcome_tree o) ≡ Some u
        → option_and_then (λ v. option_and_then (carried_by_all ms v) (carried_path m t q)) (outcome_tree o) ≡ Some q
    by (Err cause) e ih one h = cc
    by (Ok v) e ih one h = ap (option_and_then (carried_by_all ms v)) (place_stays m t v q e one) ∙ ih v h

-- ---- paths seen from one place

rest_past : (q s r : List ℕ) → rest_behind (q ++ s) (q ++ r) ≡ rest_behind s r
rest_past [] s r = refl
rest_past (i ∷ q) s r =
    ap (λ b. if b then rest_behind (q ++ s) (q ++ r) else None) ((Decides-eqb i i).1 refl) ∙ rest_past q s r

pub place_below : (m : Mod) (q s r : List ℕ) → begins_path q (path_of m) ≡ true → s ≡ drop (length q) (path_of m)
    → option_map_or (keeps_at m) (rest_behind s r) (not (is_some (rest_behind r s))) ≡ keeps_place m (q ++ r)
place_below m q s r inside is =
    let path : path_of m ≡ q ++ s = begins_is q (path_of m) inside ∙ ap (λ x. q ++ x) (sym is) in
    ap (λ o. option_map_or (keeps_at m) o (not (is_some (rest_behind r s)))) (sym (rest_past q s r))
    ∙ ap (λ o. option_map_or (keeps_at m) (rest_behind (q ++ s) (q ++ r)) (not (is_some o))) (sym (rest_past q r s))
    ∙ ap (λ p. option_map_or (keeps_at m) (rest_behind p (q ++ r)) (not (is_some (rest_behind (q ++ r) p)))) (sym path)

-- a path begins with another where there is a rest after that
pub front_told : (q p : List ℕ) (b : Bool) → starts_with nat_eq p q ≡ b → is_some (rest_behind q p) ≡ b
front_told q p true e = ap is_some (rest_of_is q p e)
front_told q p false e = ap is_some (no_rest_of q p e)

-- ---- one modification after the other

-- after i modifications, which keep the place
pub record KeepsOn (base : List ℕ) (ms : List Mod) (q : List ℕ) (i : ℕ) : Type 0 where
  pub within : are_within base (drop i ms) ≡ true
  pub same : all_keep_place (drop i ms) q ≡ all_keep_place ms q

module _ (base : List ℕ) (ms : List Mod) (q : List ℕ) (i : ℕ) (h : KeepsOn base ms q i) where
  module _ (inside : i < length ms) (d : Mod) where
    m : Mod
    m = slice_index_or ms i d

    ahead : drop i ms ≡ m ∷ drop (i + 1) ms
    unfolding m
    ahead = drop_more ms i d inside

    all : (begins_path base (path_of m) ≡ true) × (are_within base (drop (i + 1) ms) ≡ true)
    all =
        both (begins_path base (path_of m)) (are_within base (drop (i + 1) ms))
        (ap (are_within base) (sym ahead) ∙ h.within)

    rest : keeps_place m q && all_keep_place (drop (i + 1) ms) q ≡ all_keep_place ms q
    rest = ap (λ ns. all_keep_place ns q) (sym ahead) ∙ h.same

    pub inside_next : begins_path base (path_of (slice_index_or ms i d)) ≡ true
    unfolding m
    inside_next = all.0

    pub keeps_next : keeps_place (slice_index_or ms i d) q ≡ true → KeepsOn base ms q (i + 1)
    unfolding m
    keeps_next keep = record {
      within = all.1;
      same = ap (λ b. b && all_keep_place (drop (i + 1) ms) q) (sym keep) ∙ rest;
    }

    pub keeps_no_more : keeps_place (slice_index_or ms i d) q ≡ false → false ≡ all_keep_place ms q
    unfolding m
    keeps_no_more keep = ap (λ b. b && all_keep_place (drop (i + 1) ms) q) (sym keep) ∙ rest

  pub keeps_all : length ms ≤ i → true ≡ all_keep_place ms q
  keeps_all past = ap (λ ns. all_keep_place ns q) (sym (drop_all i ms past)) ∙ h.same
