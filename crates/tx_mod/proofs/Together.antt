-- Where a path is carried, a place at its end is moved with it.
use Rattle.std.proofs.Common.{◌≡◌, ℕ, ◌+◌, ◌-◌, Bool, true, false, leb, ltb, eqb, List, [], ◌∷◌, ◌++◌}
use Rattle.std.proofs.Common.{Option, Some, None, refl, sym, ap, subst, ◌∙◌}
use Rattle.std.specs.Prelude.{if◌then◌else◌, is_some, option_map}
use Rattle.std.specs.Option.{option_map_or}
use Rattle.std.proofs.lemmas.Bool.{eqb-true}
use Rattle.tx_tree.specs.declared.places.Place.{Place}
use Rattle.tx_tree.specs.Paths.{subtree}
use Rattle.tx_tree.specs.WideTree.{WideTree, leaf, node}
use Rattle.tx_mod.specs.declared.mods.Mod.{Mod}
use Rattle.tx_mod.specs.declared.mods.Mod.TheVariants.{Assign, Insert, Remove, Split, Join, AssignNode, InsertNode}
use Rattle.tx_mod.specs.declared.mods.Mod.TheVariants.{RemoveNode}
use Rattle.tx_mod.specs.Mods.{path_of, extent}
use Rattle.tx_mod.specs.Moves.{rest_behind, place, place_from_above, child_or_self, shifted, some_path, moved_by_insert}
use Rattle.tx_mod.specs.Moves.{moved_by_remove, moved_in_split, moved_by_split, moved_in_join, moved_by_join}
use Rattle.tx_mod.specs.Moves.{moved_by_unwrap, moved_at, moved_place, carried_by_insert, carried_by_remove}
use Rattle.tx_mod.specs.Moves.{carried_in_split, carried_by_split, carried_in_join, carried_by_join}
use Rattle.tx_mod.specs.Moves.{carried_by_unwrap, carried_at, carried_path}
use Rattle.tx_mod.proofs.Cases.{by_test}
use Rattle.tx_mod.proofs.Replacing.{down}
use Rattle.tx_mod.proofs.Shapes.{child_is}
use Rattle.tx_mod.proofs.Kept.{subtree_behind, rest_is}

-- the place is at the end of the carried path, if there is one, with this offset
abbrev Meets : ℕ → Place → Option (List ℕ) → Type 0
Meets o at c = (r : List ℕ) → c ≡ Some r → at ≡ place r o

meets_none : (o : ℕ) (at : Place) → Meets o at None
meets_none o at r e = absurd (cc)

meets_some : (o : ℕ) (at : Place) (q : List ℕ) → at ≡ place q o → Meets o at (Some q)
meets_some o at q f r e = let same : q ≡ r = same_path q r e in f ∙ ap (λ p. place p o) same
  where
    same_path : (a b : List ℕ) → ◌≡◌ {A = Option (List ℕ)} (Some a) (Some b) → a ≡ b
    same_path a b g = cc

-- one test of both
both_by_test : (o : ℕ) (b : Bool) (x y : Place) (c d : Option (List ℕ)) → (b ≡ true → Meets o x c)
    → (b ≡ false → Meets o y d) → Meets o (if b then x else y) (if b then c else d)
both_by_test o true x y c d f g = f refl
both_by_test o false x y c d f g = g refl

-- ---- places of the changed subtree

insert_meets : (s x : WideTree) (i n : ℕ) (q : List ℕ) (o : ℕ) → subtree s q ≡ Some x
    → Meets o (moved_by_insert s i n q o) (carried_by_insert i n q)
insert_meets s x i n [] o f = meets_none o _
insert_meets (leaf text) x i n (k ∷ u) o f = absurd (cc)
insert_meets (node l ts) x i n (k ∷ u) o f = meets_some o _ (shifted i n k ∷ u) refl

remove_meets : (s x : WideTree) (i n : ℕ) (q : List ℕ) (o : ℕ) → subtree s q ≡ Some x
    → Meets o (moved_by_remove s i n q o) (carried_by_remove i n q)
remove_meets s x i n [] o f = meets_none o _
remove_meets (leaf text) x i n (k ∷ u) o f = absurd (cc)
remove_meets (node l ts) x i n (k ∷ u) o f =
    both_by_test o (leb (i + n) k) (place ((k - n) ∷ u) o) _ (Some ((k - n) ∷ u)) _
    (λ t. meets_some o (place ((k - n) ∷ u) o) ((k - n) ∷ u) refl)
    (λ t. both_by_test o (leb i k) (place [] 0) (place (k ∷ u) o) None (Some (k ∷ u))
    (λ t'. meets_none o (place [] 0)) (λ t'. meets_some o (place (k ∷ u) o) (k ∷ u) refl))

split_child_meets : (c x : WideTree) (i j : ℕ) (q : List ℕ) (o : ℕ) → subtree c q ≡ Some x
    → Meets o (moved_in_split c i j q o) (carried_in_split i j q)
split_child_meets c x i j [] o f = meets_none o _
split_child_meets (leaf text) x i j (l ∷ w) o f = absurd (cc)
split_child_meets (node m us) x i j (l ∷ w) o f =
    both_by_test o (leb j l) (place ((i + 1) ∷ (l - j) ∷ w) o) (place (i ∷ l ∷ w) o)
    (Some ((i + 1) ∷ (l - j) ∷ w)) (Some (i ∷ l ∷ w))
    (λ t. meets_some o (place ((i + 1) ∷ (l - j) ∷ w) o) ((i + 1) ∷ (l - j) ∷ w) refl)
    (λ t. meets_some o (place (i ∷ l ∷ w) o) (i ∷ l ∷ w) refl)

split_meets : (s x : WideTree) (i j : ℕ) (q : List ℕ) (o : ℕ) → subtree s q ≡ Some x
    → Meets o (moved_by_split s i j q o) (carried_by_split i j q)
split_meets s x i j [] o f = meets_none o _
split_meets s x i j (k ∷ u) o f =
    both_by_test o (ltb i k) (place ((k + 1) ∷ u) o) _ (Some ((k + 1) ∷ u)) _
    (λ t. meets_some o (place ((k + 1) ∷ u) o) ((k + 1) ∷ u) refl)
    (λ t. both_by_test o (eqb k i) (moved_in_split (child_or_self s i) i j u o) (place (k ∷ u) o)
    (carried_in_split i j u) (Some (k ∷ u))
    (λ t'. let same : k ≡ i = eqb-true k i t' in
    let d = down s i u x (subst (λ n. subtree s (n ∷ u) ≡ Some x) same f) in
    subst (λ c. Meets o (moved_in_split c i j u o) (carried_in_split i j u)) (sym (child_is s d.child i d.found))
    (split_child_meets d.child x i j u o d.further))
    (λ t'. meets_some o (place (k ∷ u) o) (k ∷ u) refl))

join_child_meets : (c x : WideTree) (i n : ℕ) (q : List ℕ) (o : ℕ) → subtree c q ≡ Some x
    → Meets o (moved_in_join c i n q o) (carried_in_join i n q)
join_child_meets c x i n [] o f = meets_none o _
join_child_meets (leaf text) x i n (l ∷ w) o f = absurd (cc)
join_child_meets (node m us) x i n (l ∷ w) o f = meets_some o _ (i ∷ (l + n) ∷ w) refl

left_meets : (i k : ℕ) (u : List ℕ) (o : ℕ) → k ≡ i
    → Meets o (place (k ∷ u) o) (option_map (λ w. i ∷ w) (some_path u))
left_meets i k [] o e = meets_none o _
left_meets i k (l ∷ w) o e = meets_some o _ (i ∷ l ∷ w) (ap (λ n. place (n ∷ l ∷ w) o) e)

join_meets : (s x : WideTree) (i : ℕ) (q : List ℕ) (o : ℕ) → subtree s q ≡ Some x
    → Meets o (moved_by_join s i q o) (carried_by_join i (extent (child_or_self s i)) q)
join_meets s x i [] o f = meets_none o _
join_meets s x i (k ∷ u) o f =
    let n : ℕ = extent (child_or_self s i) in
    both_by_test o (ltb (i + 1) k) (place ((k - 1) ∷ u) o) _ (Some ((k - 1) ∷ u)) _
    (λ t. meets_some o (place ((k - 1) ∷ u) o) ((k - 1) ∷ u) refl)
    (λ t. both_by_test o (eqb k (i + 1)) (moved_in_join (child_or_self s (i + 1)) i n u o) (place (k ∷ u) o)
    (carried_in_join i n u) _
    (λ t'. let same : k ≡ i + 1 = eqb-true k (i + 1) t' in
    let d = down s (i + 1) u x (subst (λ m. subtree s (m ∷ u) ≡ Some x) same f) in
    subst (λ c. Meets o (moved_in_join c i n u o) (carried_in_join i n u)) (sym (child_is s d.child (i + 1) d.found))
    (join_child_meets d.child x i n u o d.further))
    (λ t'. by_test (Meets o (place (k ∷ u) o)) (eqb k i) (option_map (λ w. i ∷ w) (some_path u)) (Some (k ∷ u))
    (λ t''. left_meets i k u o (eqb-true k i t''))
    (λ t''. meets_some o (place (k ∷ u) o) (k ∷ u) refl)))

label_meets : (q : List ℕ) (o : ℕ) → Meets o (place q o) (some_path q)
label_meets [] o = meets_none o _
label_meets (k ∷ u) o = meets_some o _ (k ∷ u) refl

unwrap_meets : (i : ℕ) (q : List ℕ) (o : ℕ) → Meets o (moved_by_unwrap i q o) (carried_by_unwrap i q)
unwrap_meets i [] o = meets_none o _
unwrap_meets i (k ∷ u) o =
    both_by_test o (eqb k i) (place u o) (place [] 0) (Some u) None (λ t. meets_some o (place u o) u refl)
    (λ t. meets_none o (place [] 0))

meets_at : (m : Mod) (s x : WideTree) (q : List ℕ) (o : ℕ) → subtree s q ≡ Some x
    → Meets o (moved_at m s q o) (carried_at m s q)
meets_at (Assign p y) s x q o f = meets_none o _
meets_at (Insert p i y) s x q o f = insert_meets s x i (extent y) q o f
meets_at (Remove p i n) s x q o f = remove_meets s x i n q o f
meets_at (Split p i j) s x q o f = split_meets s x i j q o f
meets_at (Join p i) s x q o f = join_meets s x i q o f
meets_at (AssignNode p l) s x q o f = label_meets q o
meets_at (InsertNode p i y) s x q o f = meets_some o _ (i ∷ q) refl
meets_at (RemoveNode p i) s x q o f = unwrap_meets i q o

-- ---- places of the whole tree

below_meets : (p : List ℕ) (o : ℕ) (at : Place) (c : Option (List ℕ)) → Meets o at c
    → Meets o (place_from_above p at) (option_map (λ v. p ++ v) c)
below_meets p o at None h = meets_none o _
below_meets p o at (Some v) h = meets_some o _ (p ++ v) (ap (place_from_above p) (h v refl))

pub moves_with_path : (m : Mod) (t x : WideTree) (q r : List ℕ) (o : ℕ) → subtree t q ≡ Some x
    → carried_path m t q ≡ Some r → moved_place m t (place q o) ≡ place r o
moves_with_path m t x q r o f = whole (subtree t (path_of m)) refl r
  where
    within : (s : WideTree) (b : Option (List ℕ)) → subtree t (path_of m) ≡ Some s → rest_behind (path_of m) q ≡ b
        → Meets o (option_map_or (λ v. place_from_above (path_of m) (moved_at m s v o)) b (place q o))
        (option_map_or (λ v. option_map (λ w. path_of m ++ w) (carried_at m s v)) b
        (if is_some (rest_behind q (path_of m)) then None else Some q))
    within s None found e =
        by_test (Meets o (place q o)) (is_some (rest_behind q (path_of m))) None (Some q)
        (λ t'. meets_none o (place q o)) (λ t'. meets_some o (place q o) q refl)
    within s (Some b) found e =
        let here : subtree s b ≡ Some x = sym (subtree_behind (path_of m) b t s found)
        ∙ ap (subtree t) (sym (rest_is (path_of m) q b e)) ∙ f in
        below_meets (path_of m) o (moved_at m s b o) (carried_at m s b) (meets_at m s x b o here)

    whole : (a : Option WideTree) → subtree t (path_of m) ≡ a
        → Meets o
        (option_map_or (λ s. option_map_or (λ v. place_from_above (path_of m) (moved_at m s v o))
        (rest_behind (path_of m) q)
        (place q o)) a (place q o))
        (option_map_or (λ s. option_map_or (λ v. option_map (λ w. path_of m ++ w) (carried_at m s v))
        (rest_behind (path_of m) q) (if is_some (rest_behind q (path_of m)) then None else Some q)) a None)
    whole None e = meets_none o _
    whole (Some s) e = within s (rest_behind (path_of m) q) e refl
