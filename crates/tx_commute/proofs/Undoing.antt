-- The inverse of a modification is unchanged where another subtree is at a path that is carried.
use Rattle.std.proofs.Common.{◌≡◌, ℕ, ◌+◌, ◌-◌, ◌<◌, ◌≤◌, Bool, true, false, leb, ltb, eqb, List, [], ◌∷◌, ◌++◌, length}
use Rattle.std.proofs.Common.{take, drop, set, Option, Some, None, Ok, ◌⊎◌, inl, inr, refl, sym, ap, subst, ◌∙◌, arith}
use Rattle.std.specs.Prelude.{slice_get, if◌then◌else◌, option_map, unwrap_or}
use Rattle.std.specs.Option.{option_map_or}
use Rattle.std.proofs.lemmas.Bool.{leb-true, leb-false, ltb-true, ltb-false, eqb-true, eqb-false}
use Rattle.std.proofs.lemmas.List.{take-set-le, drop-set-lt, drop-set-add}
use Rattle.tx_tree.specs.Paths.{subtree}
use Rattle.tx_tree.specs.WideTree.{WideTree, Forest, leaf, node, forest, trees, children_of, label_of}
use Rattle.tx_tree.proofs.Children.{trees_forest}
use Rattle.tx_mod.specs.declared.mods.Mod.{Mod}
use Rattle.tx_mod.specs.declared.mods.Mod.TheVariants.{Assign, Insert, Remove, Split, Join, AssignNode, InsertNode}
use Rattle.tx_mod.specs.declared.mods.Mod.TheVariants.{RemoveNode}
use Rattle.tx_mod.specs.Mods.{path_of, tuple, taken_out, slice_of, extent, with_child_at, replaced}
use Rattle.tx_mod.specs.Changes.{changed_at}
use Rattle.tx_mod.specs.Inverses.{removed_part, without_child, inverse_at, inverse_of}
use Rattle.tx_mod.specs.Moves.{child_or_self, some_path, carried_by_remove, carried_by_split, carried_by_join}
use Rattle.tx_mod.specs.Moves.{carried_in_join, carried_by_unwrap, carried_at, carried_path}
use Rattle.tx_mod.proofs.Cases.{by_test}
use Rattle.tx_mod.proofs.Kept.{parted, rest_is, subtree_behind}
use Rattle.tx_mod.proofs.Replacing.{down, replaced_down, child_of_with, other_child_of_with, subtree_of_replaced}
use Rattle.tx_commute.proofs.Below.{extent_with}
use Rattle.tx_commute.proofs.Pieces.{piece_aside}
use Rattle.tx_commute.proofs.Routes.{Route, below, aside, route, replaced_behind}

-- with y at q, where q is carried, the inverse is the same
abbrev Stays : Mod → WideTree → WideTree → List ℕ → Option (List ℕ) → Type 0
Stays m s y q o = (r : List ℕ) → o ≡ Some r → inverse_at m (replaced s q y) ≡ inverse_at m s

stays_none : (m : Mod) (s y : WideTree) (q : List ℕ) → Stays m s y q None
stays_none m s y q r e = absurd (cc)

slice_stays : (T : List WideTree) (i n k : ℕ) (d : WideTree) → (k < i) ⊎ (i + n ≤ k) → slice_of (set T k d) i n ≡ slice_of T i n
slice_stays T i n k d (inl lt) = ap (take n) (drop-set-lt i T k d lt)
slice_stays T i n k d (inr le) =
    let at : k ≡ i + (k - i) = omega arith in
    ap (λ j. take n (drop i (set T j d))) at ∙ ap (take n) (drop-set-add i T (k - i) d)
    ∙ take-set-le n (drop i T) (k - i) d (omega arith)

part_stays : (s d : WideTree) (i n k : ℕ) → (k < i) ⊎ (i + n ≤ k) → removed_part (with_child_at s k d) i n ≡ removed_part s i n
part_stays (leaf text) d i n k h = refl
part_stays (node l ts) d i n k h =
    ap (λ us. node tuple (forest (slice_of us i n))) (trees_forest (set (trees ts) k d))
    ∙ ap (λ us. node tuple (forest us)) (slice_stays (trees ts) i n k d h)

remove_stays : (p : List ℕ) (s y z : WideTree) (i n : ℕ) (q : List ℕ) → subtree s q ≡ Some z
    → Stays (Remove p i n) s y q (carried_by_remove i n q)
remove_stays p s y z i n [] f = stays_none (Remove p i n) s y []
remove_stays p s y z i n (k ∷ u) f =
    let m : Mod = Remove p i n in
    let d = down s k u z f in
    let new : WideTree = replaced d.child u y in
    let is : replaced s (k ∷ u) y ≡ with_child_at s k new = replaced_down s d.child k u y d.found in
    by_test (Stays m s y (k ∷ u)) (leb (i + n) k) (Some ((k - n) ∷ u)) _
    (λ t r e. ap (λ w. Mod.Insert p i (removed_part w i n)) is
    ∙ ap (Insert p i) (part_stays s new i n k (inr (leb-true (i + n) k t))))
    (λ t. by_test (Stays m s y (k ∷ u)) (leb i k) None (Some (k ∷ u)) (λ t'. stays_none m s y (k ∷ u))
    (λ t' r e. ap (λ w. Mod.Insert p i (removed_part w i n)) is
    ∙ ap (Insert p i) (part_stays s new i n k (inl (leb-false i k t')))))

-- a child that isn't child i, and one that has another child of its own, leave the extent of child i
other_extent : (s d : WideTree) (i k : ℕ) → (k ≡ i → ⊥)
    → option_map_or extent (slice_get (children_of (with_child_at s k d)) i) 0
    ≡ option_map_or extent (slice_get (children_of s) i) 0
other_extent s d i k ne = ap (λ o. option_map_or extent o 0) (other_child_of_with s d k i (λ z. ne (sym z)))

same_extent : (s c d : WideTree) (i : ℕ) → slice_get (children_of s) i ≡ Some c → extent d ≡ extent c
    → option_map_or extent (slice_get (children_of (with_child_at s i d)) i) 0
    ≡ option_map_or extent (slice_get (children_of s) i) 0
same_extent s c d i f e =
    ap (λ o. option_map_or extent o 0) (child_of_with s c d i f) ∙ e
    ∙ sym (ap (λ o. option_map_or extent o 0) f)

join_stays : (p : List ℕ) (s y z : WideTree) (i n : ℕ) (q : List ℕ) → subtree s q ≡ Some z
    → Stays (Join p i) s y q (carried_by_join i n q)
join_stays p s y z i n [] f = stays_none (Join p i) s y []
join_stays p s y z i n (k ∷ u) f =
    let m : Mod = Join p i in
    let d = down s k u z f in
    let new : WideTree = replaced d.child u y in
    let is : inverse_at m (replaced s (k ∷ u) y) ≡ inverse_at m (with_child_at s k new) =
    ap (inverse_at m) (replaced_down s d.child k u y d.found) in
    by_test (Stays m s y (k ∷ u)) (ltb (i + 1) k) (Some ((k - 1) ∷ u)) _
    (λ t r e. let lt : i + 1 < k = ltb-true (i + 1) k t in
    is ∙ ap (Split p i) (other_extent s new i k (λ w. omega (arith, w))))
    (λ t. by_test (Stays m s y (k ∷ u)) (eqb k (i + 1)) (carried_in_join i n u) _
    (λ t' r e. let same : k ≡ i + 1 = eqb-true k (i + 1) t' in
    is ∙ ap (Split p i) (other_extent s new i k (λ w. omega (arith, same, w))))
    (λ t'. by_test (Stays m s y (k ∷ u)) (eqb k i) (option_map (λ w. i ∷ w) (some_path u)) (Some (k ∷ u))
    (λ t''. let same : k ≡ i = eqb-true k i t'' in
    in_child d.child u (subst (λ w. slice_get (children_of s) w ≡ Some d.child) same d.found) d.further
    (ap (λ w. replaced s (w ∷ u) y) same ∙ replaced_down s d.child i u y
    (subst (λ w. slice_get (children_of s) w ≡ Some d.child) same d.found)))
    (λ t'' r e. is ∙ ap (Split p i) (other_extent s new i k (eqb-false k i t'')))))
  where
    in_child : (c : WideTree) (w : List ℕ) → slice_get (children_of s) i ≡ Some c → subtree c w ≡ Some z
        → replaced s (k ∷ u) y ≡ with_child_at s i (replaced c w y)
        → (r : List ℕ) → option_map (λ x. i ∷ x) (some_path w) ≡ Some r
        → inverse_at (Join p i) (replaced s (k ∷ u) y) ≡ inverse_at (Join p i) s
    in_child c [] g h is r e = absurd (cc)
    in_child c (l ∷ w) g h is r e =
        let b = down c l w z h in
        ap (inverse_at (Join p i)) is
        ∙ ap (Split p i) (same_extent s c (replaced c (l ∷ w) y) i g
        (ap extent (replaced_down c b.child l w y b.found) ∙ extent_with c (replaced b.child w y) l))

label_with_child : (s d : WideTree) (k : ℕ) → label_of (with_child_at s k d) ≡ label_of s
label_with_child (leaf text) d k = refl
label_with_child (node l ts) d k = refl

label_stays : (p l : List ℕ) (s y z : WideTree) (q : List ℕ) → subtree s q ≡ Some z
    → Stays (AssignNode p l) s y q (some_path q)
label_stays p l s y z [] f r e = absurd (cc)
label_stays p l s y z (k ∷ u) f r e =
    let d = down s k u z f in
    ap (λ w. Mod.AssignNode p (unwrap_or (label_of w) [])) (replaced_down s d.child k u y d.found)
    ∙ ap (λ o. Mod.AssignNode p (unwrap_or o [])) (label_with_child s (replaced d.child u y) k)

without_stays : (s d : WideTree) (i : ℕ) → without_child (with_child_at s i d) i ≡ without_child s i
without_stays (leaf text) d i = refl
without_stays (node l ts) d i =
    ap (λ us. node l (forest (taken_out us i 1))) (trees_forest (set (trees ts) i d))
    ∙ ap (λ us. node l (forest us)) (piece_aside (trees ts) [] i (i + 1) i d (omega arith) (omega arith))

unwrap_stays : (p : List ℕ) (s y z : WideTree) (i : ℕ) (q : List ℕ) → subtree s q ≡ Some z
    → Stays (RemoveNode p i) s y q (carried_by_unwrap i q)
unwrap_stays p s y z i [] f = stays_none (RemoveNode p i) s y []
unwrap_stays p s y z i (k ∷ u) f =
    let m : Mod = RemoveNode p i in
    let d = down s k u z f in
    by_test (Stays m s y (k ∷ u)) (eqb k i) (Some u) None
    (λ t r e. let same : k ≡ i = eqb-true k i t in
    ap (λ w. Mod.InsertNode p i (without_child w i)) (replaced_down s d.child k u y d.found)
    ∙ ap (λ w. Mod.InsertNode p i (without_child (with_child_at s w (replaced d.child u y)) i)) same
    ∙ ap (InsertNode p i) (without_stays s (replaced d.child u y) i))
    (λ t. stays_none m s y (k ∷ u))

inverse_stays_at : (m : Mod) (s y z : WideTree) (q : List ℕ) → subtree s q ≡ Some z → Stays m s y q (carried_at m s q)
inverse_stays_at (Assign p x) s y z q f r e = stays_none (Assign p x) s y q r e
inverse_stays_at (Insert p i x) s y z q f r e = refl
inverse_stays_at (Remove p i n) s y z q f r e = remove_stays p s y z i n q f r e
inverse_stays_at (Split p i j) s y z q f r e = refl
inverse_stays_at (Join p i) s y z q f r e = join_stays p s y z i (extent (child_or_self s i)) q f r e
inverse_stays_at (AssignNode p l) s y z q f r e = label_stays p l s y z q f r e
inverse_stays_at (InsertNode p i x) s y z q f r e = refl
inverse_stays_at (RemoveNode p i) s y z q f r e = unwrap_stays p s y z i q f r e

pub inverse_is_at : (m : Mod) (t s : WideTree) → subtree t (path_of m) ≡ Some s → inverse_of m t ≡ inverse_at m s
inverse_is_at m t s f = ap (λ o. option_map_or (inverse_at m) o m) f

-- the inverse in the whole tree is unchanged
pub inverse_stays : (m : Mod) (t s y z : WideTree) (q r : List ℕ) → subtree t (path_of m) ≡ Some s → subtree t q ≡ Some z
    → carried_path m t q ≡ Some r → inverse_of m (replaced t q y) ≡ inverse_of m t
inverse_stays m t s y z q r found f e = by_route (route m t s q r found e)
  where
    p : List ℕ
    p = path_of m

    by_route : Route m s p q r → inverse_of m (replaced t q y) ≡ inverse_of m t
    by_route (below b c h k same) =
        let whole : q ≡ p ++ b = rest_is p q b h in
        let here : subtree s b ≡ Some z = sym (subtree_behind p b t s found) ∙ ap (subtree t) (sym whole) ∙ f in
        let old : replaced t q y ≡ replaced t p (replaced s b y) =
        ap (λ w. replaced t w y) whole ∙ replaced_behind p b t s y found in
        inverse_is_at m (replaced t q y) (replaced s b y)
        (ap (λ w. subtree w p) old ∙ subtree_of_replaced p t s (replaced s b y) found)
        ∙ inverse_stays_at m s y z b here c k ∙ sym (inverse_is_at m t s found)
    by_route (aside h h' same) =
        inverse_is_at m (replaced t q y) s (parted q p t z y h' h f ∙ found) ∙ sym (inverse_is_at m t s found)
