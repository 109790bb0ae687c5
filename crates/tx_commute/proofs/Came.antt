-- A path that is carried back through the inverse of a modification is carried to where it came from.
use Rattle.std.proofs.Common.{◌≡◌, ℕ, ◌+◌, ◌-◌, ◌<◌, ◌≤◌, Bool, true, false, leb, ltb, eqb, List, [], ◌∷◌, ◌++◌, length}
use Rattle.std.proofs.Common.{take, drop, Option, Some, None, Ok, refl, sym, ap, subst, ◌∙◌, length-drop, length-take, arith}
use Rattle.std.specs.Prelude.{slice_get, if◌then◌else◌, option_map}
use Rattle.std.specs.Option.{option_map_or}
use Rattle.std.specs.Str.{bytes_eq}
use Rattle.std.proofs.lemmas.Bool.{leb-true, leb-false, ltb-true, ltb-false, eqb-true, eqb-false, le-leb, lt-leb, eq-eqb}
use Rattle.std.proofs.lemmas.Bool.{lt-ltb, le-ltb, ne_eqb}
use Rattle.std.proofs.lemmas.List.{length-take-le}
use Rattle.std.proofs.lemmas.Option.{slice_get_within}
use Rattle.tx_tree.specs.Cuts.{is_cut}
use Rattle.tx_tree.specs.Paths.{subtree}
use Rattle.tx_tree.specs.WideTree.{WideTree, Forest, leaf, node, forest, trees, children_of}
use Rattle.tx_tree.proofs.Children.{trees_forest}
use Rattle.tx_tree.proofs.Walking.{step_down}
use Rattle.tx_mod.specs.declared.faults.ModFault.TheVariants.{NotNode, BadPlace, CutsSymbol, Differ}
use Rattle.tx_mod.specs.declared.mods.Mod.{Mod}
use Rattle.tx_mod.specs.declared.mods.Mod.TheVariants.{Assign, Insert, Remove, Split, Join, AssignNode, InsertNode}
use Rattle.tx_mod.specs.declared.mods.Mod.TheVariants.{RemoveNode}
use Rattle.tx_mod.specs.Mods.{tuple, put_in, taken_out, slice_of, extent, tree_up_to, tree_from}
use Rattle.tx_mod.specs.Changes.{inserted, removed, split, joined, joined_at, labelled, wrapped, unwrapped, changed_at}
use Rattle.tx_mod.specs.Inverses.{removed_part, inverse_at}
use Rattle.tx_mod.specs.Moves.{child_or_self, shifted, some_path, carried_by_insert, carried_by_remove}
use Rattle.tx_mod.specs.Moves.{carried_in_split, carried_by_split, carried_in_join, carried_by_join, carried_by_unwrap}
use Rattle.tx_mod.specs.Moves.{carried_at}
use Rattle.tx_mod.proofs.Back.{ok_asked, same_tree}
use Rattle.tx_mod.proofs.Cases.{by_test}
use Rattle.tx_mod.proofs.Replacing.{down}
use Rattle.tx_mod.proofs.Shapes.{child_is, shape_labelled, shape_wrapped, shape_unwrapped}
use Rattle.tx_commute.proofs.Pieces.{piece, put_in_is, get_left, get_right, get_front, get_back, get_before, get_inside}
use Rattle.tx_commute.proofs.Pieces.{get_behind}
use Rattle.tx_commute.proofs.Made.{split_parts, join_parts}

-- z is at q, which is carried to r
abbrev pub Came : Mod → WideTree → WideTree → List ℕ → Option (List ℕ) → Type 0
Came m s z r o = (q : List ℕ) → o ≡ Some q → (subtree s q ≡ Some z) × (carried_at m s q ≡ Some r)

came_none : (m : Mod) (s z : WideTree) (r : List ℕ) → Came m s z r None
came_none m s z r q e = absurd (cc)

came_some : (m : Mod) (s z : WideTree) (r q : List ℕ) → subtree s q ≡ Some z → carried_at m s q ≡ Some r
    → Came m s z r (Some q)
came_some m s z r q g h q' e =
    let same : q' ≡ q = cc in
    (ap (subtree s) same ∙ g, ap (carried_at m s) same ∙ h)

-- from a child
came_child : (m : Mod) (s z c : WideTree) (k j : ℕ) (u : List ℕ) → slice_get (children_of s) j ≡ Some c
    → subtree c u ≡ Some z → carried_at m s (j ∷ u) ≡ Some (k ∷ u) → Came m s z (k ∷ u) (Some (j ∷ u))
came_child m s z c k j u f g h = came_some m s z (k ∷ u) (j ∷ u) (step_down s c j u f ∙ g) h

first_is : (j k : ℕ) (u : List ℕ) → j ≡ k → ◌≡◌ {A = Option (List ℕ)} (Some (j ∷ u)) (Some (k ∷ u))
first_is j k u e = ap (λ n. Some (n ∷ u)) e

pub kids_are : (v : WideTree) (l : List ℕ) (ws : List WideTree) → v ≡ node l (forest ws) → children_of v ≡ ws
kids_are v l ws e = ap children_of e ∙ trees_forest ws

no_kids : (v z : WideTree) (text : List ℕ) (k : ℕ) (u : List ℕ) → v ≡ leaf text → subtree v (k ∷ u) ≡ Some z → ⊥
no_kids v z text k u is f = let g : subtree (leaf text) (k ∷ u) ≡ Some z =
    ap (λ x. subtree x (k ∷ u)) (sym is) ∙ f in absurd (cc)

-- ---- insertion and removal

insert_came : (p : List ℕ) (x s v z : WideTree) (i : ℕ) (r : List ℕ) → inserted s i x ≡ Ok v → subtree v r ≡ Some z
    → Came (Insert p i x) s z r (carried_by_remove i (extent x) r)
insert_came p x s v z i [] e f = came_none (Insert p i x) s z []
insert_came p (leaf more) (leaf text) v z i (k ∷ u) e f =
    let a = ok_asked (leb i (length text)) (BadPlace (length text)) _ v e in
    let b = ok_asked (is_cut text i) (CutsSymbol i) _ v a.1 in
    absurd (no_kids v z (put_in text i more) k u (sym (same_tree (leaf (put_in text i more)) v b.1)) f)
insert_came p (node m us) (leaf text) v z i (k ∷ u) e f = absurd (cc)
insert_came p (leaf more) (node l ts) v z i (k ∷ u) e f = absurd (cc)
insert_came p (node m us) (node l ts) v z i (k ∷ u) e f =
    let T : List WideTree = trees ts in
    let U : List WideTree = trees us in
    let s : WideTree = node l ts in
    let y : Mod = Insert p i (node m us) in
    let a = ok_asked (bytes_eq m tuple) NotNode _ v e in
    let b = ok_asked (leb i (length T)) (BadPlace (length T)) _ v a.1 in
    let within : i ≤ length T = leb-true i (length T) b.0 in
    let kids : children_of v ≡ piece T i i U =
    kids_are v l (put_in T i U) (sym (same_tree (node l (forest (put_in T i U))) v b.1)) ∙ put_in_is T U i in
    let d = down v k u z f in
    let n : ℕ = length U in
    let at : slice_get (piece T i i U) k ≡ Some d.child = ap (λ w. slice_get w k) (sym kids) ∙ d.found in
    by_test (Came y s z (k ∷ u)) (leb (i + n) k) (Some ((k - n) ∷ u)) _
    (λ t. let le : i + n ≤ k = leb-true (i + n) k t in
    came_child y s z d.child k (k - n) u
    (sym (get_behind T U i i k (k - (i + n)) (k - n) within (omega arith) (omega arith)) ∙ at) d.further
    (ap (λ w. Some ((if w then (k - n) + n else (k - n)) ∷ u)) (le-leb i (k - n) (omega arith))
    ∙ first_is ((k - n) + n) k u (omega arith)))
    (λ t. by_test (Came y s z (k ∷ u)) (leb i k) None (Some (k ∷ u)) (λ t'. came_none y s z (k ∷ u))
    (λ t'. let lt : k < i = leb-false i k t' in
    came_child y s z d.child k k u (sym (get_before T U i i k lt within) ∙ at) d.further
    (ap (λ w. Some ((if w then k + n else k) ∷ u)) t')))

part_extent : (l : List ℕ) (ts : Forest) (i n : ℕ) → i + n ≤ length (trees ts)
    → extent (removed_part (node l ts) i n) ≡ n
part_extent l ts i n le =
    let T : List WideTree = trees ts in
    ap length (trees_forest (slice_of T i n)) ∙ length-take-le n (drop i T) (omega (arith, length-drop i T))

remove_came : (p : List ℕ) (s v z : WideTree) (i n : ℕ) (r : List ℕ) → removed s i n ≡ Ok v → subtree v r ≡ Some z
    → Came (Remove p i n) s z r (carried_by_insert i (extent (removed_part s i n)) r)
remove_came p s v z i n [] e f = came_none (Remove p i n) s z []
remove_came p (leaf text) v z i n (k ∷ u) e f =
    let a = ok_asked (leb (i + n) (length text)) (BadPlace (length text)) _ v e in
    let b = ok_asked (is_cut text i) (CutsSymbol i) _ v a.1 in
    let c = ok_asked (is_cut text (i + n)) (CutsSymbol (i + n)) _ v b.1 in
    absurd (no_kids v z (taken_out text i n) k u (sym (same_tree (leaf (taken_out text i n)) v c.1)) f)
remove_came p (node l ts) v z i n (k ∷ u) e f =
    let T : List WideTree = trees ts in
    let s : WideTree = node l ts in
    let y : Mod = Remove p i n in
    let a = ok_asked (leb (i + n) (length T)) (BadPlace (length T)) _ v e in
    let within : i + n ≤ length T = leb-true (i + n) (length T) a.0 in
    let kids : children_of v ≡ piece T i (i + n) [] =
    kids_are v l (taken_out T i n) (sym (same_tree (node l (forest (taken_out T i n))) v a.1)) in
    let d = down v k u z f in
    let at : slice_get (piece T i (i + n) []) k ≡ Some d.child = ap (λ w. slice_get w k) (sym kids) ∙ d.found in
    subst (λ x. Came y s z (k ∷ u) (carried_by_insert i x (k ∷ u))) (sym (part_extent l ts i n within))
    (by_test (λ x. Came y s z (k ∷ u) (Some (x ∷ u))) (leb i k) (k + n) k
    (λ t. let le : i ≤ k = leb-true i k t in
    came_child y s z d.child k (k + n) u
    (sym (get_behind T [] i (i + n) k (k - i) (k + n) (omega arith) (omega arith) (omega arith)) ∙ at) d.further
    (ap (λ w. if w then Some (((k + n) - n) ∷ u) else (if leb i (k + n) then None else Some ((k + n) ∷ u)))
    (le-leb (i + n) (k + n) (omega arith))
    ∙ first_is ((k + n) - n) k u (omega arith)))
    (λ t. let lt : k < i = leb-false i k t in
    came_child y s z d.child k k u (sym (get_before T [] i (i + n) k lt (omega arith)) ∙ at) d.further
    (ap (λ w. if w then Some ((k - n) ∷ u) else (if leb i k then None else Some (k ∷ u)))
    (lt-leb (i + n) k (omega arith))
    ∙ ap (λ w. if w then None else Some (k ∷ u)) t)))

-- ---- splitting

front_kid : (c d : WideTree) (j l : ℕ) → slice_get (children_of (tree_up_to c j)) l ≡ Some d
    → (l < j) × (slice_get (children_of c) l ≡ Some d)
front_kid (leaf text) d j l e = absurd (cc)
front_kid (node m us) d j l e =
    let U : List WideTree = trees us in
    let at : slice_get (take j U) l ≡ Some d = ap (λ w. slice_get w l) (sym (trees_forest (take j U))) ∙ e in
    let within : l < length (take j U) = slice_get_within (take j U) l d at in
    let lt : l < j = omega (arith, within, length-take j U) in
    (lt, sym (get_front U j l lt) ∙ at)

back_kid : (c d : WideTree) (j l : ℕ) → slice_get (children_of (tree_from c j)) l ≡ Some d
    → slice_get (children_of c) (l + j) ≡ Some d
back_kid (leaf text) d j l e = absurd (cc)
back_kid (node m us) d j l e =
    let U : List WideTree = trees us in
    sym (get_back U j l (l + j) (omega arith)) ∙ ap (λ w. slice_get w l) (sym (trees_forest (drop j U))) ∙ e

pub front_extent : (c : WideTree) (j : ℕ) → j ≤ extent c → extent (tree_up_to c j) ≡ j
front_extent (leaf text) j le = length-take-le j text le
front_extent (node l ts) j le = ap length (trees_forest (take j (trees ts))) ∙ length-take-le j (trees ts) le

split_at_back : (i j : ℕ) (u : List ℕ) (k : ℕ) → i < k → carried_by_split i j (k ∷ u) ≡ Some ((k + 1) ∷ u)
split_at_back i j u k lt =
    ap (λ w. if w then Some ((k + 1) ∷ u) else (if eqb k i then carried_in_split i j u else Some (k ∷ u))) (lt-ltb i k lt)

split_at_front : (i j : ℕ) (u : List ℕ) (k : ℕ) → k < i → carried_by_split i j (k ∷ u) ≡ Some (k ∷ u)
split_at_front i j u k lt =
    ap (λ w. if w then Some ((k + 1) ∷ u) else (if eqb k i then carried_in_split i j u else Some (k ∷ u)))
    (le-ltb i k (omega arith))
    ∙ ap (λ w. if w then carried_in_split i j u else Some (k ∷ u)) (ne_eqb k i (λ z. omega (arith, z)))

split_at_child : (i j : ℕ) (u : List ℕ) → carried_by_split i j (i ∷ u) ≡ carried_in_split i j u
split_at_child i j u =
    ap (λ w. if w then Some ((i + 1) ∷ u) else (if eqb i i then carried_in_split i j u else Some (i ∷ u)))
    (le-ltb i i (omega arith))
    ∙ ap (λ w. if w then carried_in_split i j u else Some (i ∷ u)) (eq-eqb i i refl)

child_at_split : (i j l : ℕ) (w : List ℕ) → j ≤ l → carried_in_split i j (l ∷ w) ≡ Some ((i + 1) ∷ (l - j) ∷ w)
child_at_split i j l w le =
    ap (λ b. if b then Some ((i + 1) ∷ (l - j) ∷ w) else Some (i ∷ l ∷ w)) (le-leb j l le)

child_before_split : (i j l : ℕ) (w : List ℕ) → l < j → carried_in_split i j (l ∷ w) ≡ Some (i ∷ l ∷ w)
child_before_split i j l w lt =
    ap (λ b. if b then Some ((i + 1) ∷ (l - j) ∷ w) else Some (i ∷ l ∷ w)) (lt-leb j l lt)

second_is : (i k l : ℕ) (u : List ℕ) → k ≡ l → ◌≡◌ {A = Option (List ℕ)} (Some (i ∷ k ∷ u)) (Some (i ∷ l ∷ u))
second_is i k l u e = ap (λ n. Some (i ∷ n ∷ u)) e

split_came : (p : List ℕ) (s v z : WideTree) (i j : ℕ) (r : List ℕ) → split s i j ≡ Ok v → subtree v r ≡ Some z
    → Came (Split p i j) s z r (carried_by_join i (extent (child_or_self v i)) r)
split_came p s v z i j [] e f = came_none (Split p i j) s z []
split_came p (leaf text) v z i j (k ∷ u) e f = absurd (cc)
split_came p (node l ts) v z i j (k ∷ u) e f =
    let T : List WideTree = trees ts in
    let s : WideTree = node l ts in
    let y : Mod = Split p i j in
    let h = split_parts l ts v i j e in
    let c : WideTree = h.child in
    let two : List WideTree = tree_up_to c j ∷ tree_from c j ∷ [] in
    let inside : i < length T = slice_get_within T i c h.found in
    let within : i ≤ length T = omega arith in
    let kids : children_of v ≡ piece T i (i + 1) two = kids_are v l (piece T i (i + 1) two) h.is in
    let first : slice_get (children_of v) i ≡ Some (tree_up_to c j) =
    ap (λ w. slice_get w i) kids ∙ get_inside T two i (i + 1) i 0 within (omega arith) (omega arith) in
    let second : slice_get (children_of v) (i + 1) ≡ Some (tree_from c j) =
    ap (λ w. slice_get w (i + 1)) kids ∙ get_inside T two i (i + 1) (i + 1) 1 within (omega arith) (omega arith) in
    let n : extent (child_or_self v i) ≡ j = ap extent (child_is v (tree_up_to c j) i first) ∙ front_extent c j h.fits in
    let d = down v k u z f in
    let at : slice_get (piece T i (i + 1) two) k ≡ Some d.child = ap (λ w. slice_get w k) (sym kids) ∙ d.found in
    subst (λ x. Came y s z (k ∷ u) (carried_by_join i x (k ∷ u))) (sym n)
    (by_test (Came y s z (k ∷ u)) (ltb (i + 1) k) (Some ((k - 1) ∷ u)) _
    (λ t. let lt : i + 1 < k = ltb-true (i + 1) k t in
    came_child y s z d.child k (k - 1) u
    (sym (get_behind T two i (i + 1) k (k - (i + 2)) (k - 1) within (omega arith) (omega arith)) ∙ at) d.further
    (split_at_back i j u (k - 1) (omega arith) ∙ first_is ((k - 1) + 1) k u (omega arith)))
    (λ t. by_test (Came y s z (k ∷ u)) (eqb k (i + 1)) (carried_in_join i j u) _
    (λ t'. let same : k ≡ i + 1 = eqb-true k (i + 1) t' in
    let child : d.child ≡ tree_from c j =
    same_some d.child (tree_from c j) (sym (subst (λ x. slice_get (children_of v) x ≡ Some d.child) same d.found) ∙ second) in
    subst (λ x. Came y s z (x ∷ u) (carried_in_join i j u)) (sym same)
    (in_back s c h.found u (subst (λ x. subtree x u ≡ Some z) child d.further)))
    (λ t'. by_test (Came y s z (k ∷ u)) (eqb k i) (option_map (λ w. i ∷ w) (some_path u)) (Some (k ∷ u))
    (λ t''. let same : k ≡ i = eqb-true k i t'' in
    let child : d.child ≡ tree_up_to c j =
    same_some d.child (tree_up_to c j) (sym (subst (λ x. slice_get (children_of v) x ≡ Some d.child) same d.found) ∙ first) in
    subst (λ x. Came y s z (x ∷ u) (option_map (λ w. i ∷ w) (some_path u))) (sym same)
    (in_front s c h.found u (subst (λ x. subtree x u ≡ Some z) child d.further)))
    (λ t''. let le : k ≤ i + 1 = ltb-false (i + 1) k t in
    let ne : k ≡ i + 1 → ⊥ = eqb-false k (i + 1) t' in
    let ne' : k ≡ i → ⊥ = eqb-false k i t'' in
    let lt : k < i = omega arith in
    came_child y s z d.child k k u (sym (get_before T two i (i + 1) k lt within) ∙ at) d.further
    (split_at_front i j u k lt)))))
  where
    same_some : (a b : WideTree) → ◌≡◌ {A = Option WideTree} (Some a) (Some b) → a ≡ b
    same_some a b g = cc

    in_back : (s c : WideTree) → slice_get (children_of s) i ≡ Some c → (w : List ℕ) → subtree (tree_from c j) w ≡ Some z
        → Came (Split p i j) s z ((i + 1) ∷ w) (carried_in_join i j w)
    in_back s c g [] h = came_none (Split p i j) s z ((i + 1) ∷ [])
    in_back s c g (a ∷ w) h =
        let d = down (tree_from c j) a w z h in
        came_some (Split p i j) s z ((i + 1) ∷ a ∷ w) (i ∷ (a + j) ∷ w)
        (step_down s c i ((a + j) ∷ w) g ∙ step_down c d.child (a + j) w (back_kid c d.child j a d.found) ∙ d.further)
        (split_at_child i j ((a + j) ∷ w) ∙ child_at_split i j (a + j) w (omega arith)
        ∙ second_is (i + 1) ((a + j) - j) a w (omega arith))

    in_front : (s c : WideTree) → slice_get (children_of s) i ≡ Some c → (w : List ℕ) → subtree (tree_up_to c j) w ≡ Some z
        → Came (Split p i j) s z (i ∷ w) (option_map (λ x. i ∷ x) (some_path w))
    in_front s c g [] h = came_none (Split p i j) s z (i ∷ [])
    in_front s c g (a ∷ w) h =
        let d = down (tree_up_to c j) a w z h in
        let kid = front_kid c d.child j a d.found in
        came_some (Split p i j) s z (i ∷ a ∷ w) (i ∷ a ∷ w)
        (step_down s c i (a ∷ w) g ∙ step_down c d.child a w kid.1 ∙ d.further)
        (split_at_child i j (a ∷ w) ∙ child_before_split i j a w kid.0)

-- ---- joining

left_kid : (a b c d : WideTree) (l : ℕ) → joined a b ≡ Ok c → l < extent a → slice_get (children_of c) l ≡ Some d
    → slice_get (children_of a) l ≡ Some d
left_kid (leaf x) (leaf y) c d l e lt f =
    let g : slice_get (children_of (leaf (x ++ y))) l ≡ Some d =
    ap (λ z. slice_get (children_of z) l) (same_tree (leaf (x ++ y)) c e) ∙ f in absurd (cc)
left_kid (leaf x) (node m us) c d l e lt f = absurd (cc)
left_kid (node m ts) (leaf y) c d l e lt f = absurd (cc)
left_kid (node m ts) (node k us) c d l e lt f =
    let T : List WideTree = trees ts in
    let U : List WideTree = trees us in
    let a = ok_asked (bytes_eq m k) Differ _ c e in
    let kids : children_of c ≡ T ++ U = kids_are c m (T ++ U) (sym (same_tree (node m (forest (T ++ U))) c a.1)) in
    sym (get_left T U l lt) ∙ ap (λ w. slice_get w l) (sym kids) ∙ f

right_kid : (a b c d : WideTree) (l : ℕ) → joined a b ≡ Ok c → extent a ≤ l → slice_get (children_of c) l ≡ Some d
    → slice_get (children_of b) (l - extent a) ≡ Some d
right_kid (leaf x) (leaf y) c d l e le f =
    let g : slice_get (children_of (leaf (x ++ y))) l ≡ Some d =
    ap (λ z. slice_get (children_of z) l) (same_tree (leaf (x ++ y)) c e) ∙ f in absurd (cc)
right_kid (leaf x) (node m us) c d l e le f = absurd (cc)
right_kid (node m ts) (leaf y) c d l e le f = absurd (cc)
right_kid (node m ts) (node k us) c d l e le f =
    let T : List WideTree = trees ts in
    let U : List WideTree = trees us in
    let a = ok_asked (bytes_eq m k) Differ _ c e in
    let kids : children_of c ≡ T ++ U = kids_are c m (T ++ U) (sym (same_tree (node m (forest (T ++ U))) c a.1)) in
    sym (get_right T U l (l - length T) (omega arith)) ∙ ap (λ w. slice_get w l) (sym kids) ∙ f

join_at_back : (i n : ℕ) (u : List ℕ) (k : ℕ) → i + 1 < k → carried_by_join i n (k ∷ u) ≡ Some ((k - 1) ∷ u)
join_at_back i n u k lt =
    ap (λ b. if b then Some ((k - 1) ∷ u)
    else (if eqb k (i + 1) then carried_in_join i n u
    else (if eqb k i then option_map (λ w. i ∷ w) (some_path u) else Some (k ∷ u)))) (lt-ltb (i + 1) k lt)

join_at_right : (i n : ℕ) (u : List ℕ) → carried_by_join i n ((i + 1) ∷ u) ≡ carried_in_join i n u
join_at_right i n u =
    ap (λ b. if b then Some (((i + 1) - 1) ∷ u)
    else (if eqb (i + 1) (i + 1) then carried_in_join i n u
    else (if eqb (i + 1) i then option_map (λ w. i ∷ w) (some_path u) else Some ((i + 1) ∷ u))))
    (le-ltb (i + 1) (i + 1) (omega arith))
    ∙ ap (λ b. if b then carried_in_join i n u
    else (if eqb (i + 1) i then option_map (λ w. i ∷ w) (some_path u) else Some ((i + 1) ∷ u)))
    (eq-eqb (i + 1) (i + 1) refl)

join_not_right : (i n : ℕ) (u : List ℕ) (k : ℕ) → k ≤ i
    → carried_by_join i n (k ∷ u) ≡ (if eqb k i then option_map (λ w. i ∷ w) (some_path u) else Some (k ∷ u))
join_not_right i n u k le =
    ap (λ b. if b then Some ((k - 1) ∷ u)
    else (if eqb k (i + 1) then carried_in_join i n u
    else (if eqb k i then option_map (λ w. i ∷ w) (some_path u) else Some (k ∷ u)))) (le-ltb (i + 1) k (omega arith))
    ∙ ap (λ b. if b then carried_in_join i n u
    else (if eqb k i then option_map (λ w. i ∷ w) (some_path u) else Some (k ∷ u)))
    (ne_eqb k (i + 1) (λ z. omega (arith, z)))

join_came : (p : List ℕ) (s v z : WideTree) (i : ℕ) (r : List ℕ) → joined_at s i ≡ Ok v → subtree v r ≡ Some z
    → Came (Join p i) s z r (carried_by_split i (option_map_or extent (slice_get (children_of s) i) 0) r)
join_came p s v z i [] e f = came_none (Join p i) s z []
join_came p (leaf text) v z i (k ∷ u) e f = absurd (cc)
join_came p (node l ts) v z i (k ∷ u) e f =
    let T : List WideTree = trees ts in
    let s : WideTree = node l ts in
    let y : Mod = Join p i in
    let h = join_parts l ts v i e in
    let one : List WideTree = h.both ∷ [] in
    let inside : i < length T = slice_get_within T i h.left h.first in
    let within : i ≤ length T = omega arith in
    let kids : children_of v ≡ piece T i (i + 2) one = kids_are v l (piece T i (i + 2) one) h.is in
    let here : slice_get (children_of v) i ≡ Some h.both =
    ap (λ w. slice_get w i) kids ∙ get_inside T one i (i + 2) i 0 within (omega arith) (omega arith) in
    let is : option_map_or extent (slice_get T i) 0 ≡ extent h.left = ap (λ o. option_map_or extent o 0) h.first in
    let now : extent (child_or_self s i) ≡ extent h.left = ap extent (child_is s h.left i h.first) in
    let n : ℕ = extent h.left in
    let d = down v k u z f in
    let at : slice_get (piece T i (i + 2) one) k ≡ Some d.child = ap (λ w. slice_get w k) (sym kids) ∙ d.found in
    subst (λ x. Came y s z (k ∷ u) (carried_by_split i x (k ∷ u))) (sym is)
    (by_test (Came y s z (k ∷ u)) (ltb i k) (Some ((k + 1) ∷ u)) _
    (λ t. let lt : i < k = ltb-true i k t in
    came_child y s z d.child k (k + 1) u
    (sym (get_behind T one i (i + 2) k (k - (i + 1)) (k + 1) within (omega arith) (omega arith)) ∙ at) d.further
    (join_at_back i (extent (child_or_self s i)) u (k + 1) (omega arith) ∙ first_is ((k + 1) - 1) k u (omega arith)))
    (λ t. by_test (Came y s z (k ∷ u)) (eqb k i) (carried_in_split i n u) (Some (k ∷ u))
    (λ t'. let same : k ≡ i = eqb-true k i t' in
    let child : d.child ≡ h.both =
    same_some d.child h.both (sym (subst (λ x. slice_get (children_of v) x ≡ Some d.child) same d.found) ∙ here) in
    subst (λ x. Came y s z (x ∷ u) (carried_in_split i n u)) (sym same)
    (in_both s h.left h.right h.both now h.first h.second h.one u (subst (λ x. subtree x u ≡ Some z) child d.further)))
    (λ t'. let le : k ≤ i = ltb-false i k t in
    let ne : k ≡ i → ⊥ = eqb-false k i t' in
    let lt : k < i = omega arith in
    came_child y s z d.child k k u (sym (get_before T one i (i + 2) k lt within) ∙ at) d.further
    (join_not_right i (extent (child_or_self s i)) u k le
    ∙ ap (λ b. if b then option_map (λ w. i ∷ w) (some_path u) else Some (k ∷ u)) t'))))
  where
    same_some : (a b : WideTree) → ◌≡◌ {A = Option WideTree} (Some a) (Some b) → a ≡ b
    same_some a b g = cc

    in_both : (s a b c : WideTree) → extent (child_or_self s i) ≡ extent a → slice_get (children_of s) i ≡ Some a
        → slice_get (children_of s) (i + 1) ≡ Some b → joined a b ≡ Ok c → (w : List ℕ) → subtree c w ≡ Some z
        → Came (Join p i) s z (i ∷ w) (carried_in_split i (extent a) w)
    in_both s a b c now g g' t [] h = came_none (Join p i) s z (i ∷ [])
    in_both s a b c now g g' t (l ∷ w) h =
        let y : Mod = Join p i in
        let n : ℕ = extent a in
        let d = down c l w z h in
        by_test (Came y s z (i ∷ l ∷ w)) (leb n l) (Some ((i + 1) ∷ (l - n) ∷ w)) (Some (i ∷ l ∷ w))
        (λ t'. let le : n ≤ l = leb-true n l t' in
        came_some y s z (i ∷ l ∷ w) ((i + 1) ∷ (l - n) ∷ w)
        (step_down s b (i + 1) ((l - n) ∷ w) g' ∙ step_down b d.child (l - n) w (right_kid a b c d.child l t le d.found)
        ∙ d.further)
        (join_at_right i (extent (child_or_self s i)) ((l - n) ∷ w)
        ∙ second_is i ((l - n) + extent (child_or_self s i)) l w (omega (arith, now))))
        (λ t'. let lt : l < n = leb-false n l t' in
        came_some y s z (i ∷ l ∷ w) (i ∷ l ∷ w)
        (step_down s a i (l ∷ w) g ∙ step_down a d.child l w (left_kid a b c d.child l t lt d.found) ∙ d.further)
        (join_not_right i (extent (child_or_self s i)) (l ∷ w) i (omega arith)
        ∙ ap (λ x. if x then option_map (λ q. i ∷ q) (some_path (l ∷ w)) else Some (i ∷ l ∷ w)) (eq-eqb i i refl)))

-- ---- labels, wrapping and unwrapping

label_came : (p : List ℕ) (s v z : WideTree) (l : List ℕ) (r : List ℕ) → labelled s l ≡ Ok v → subtree v r ≡ Some z
    → Came (AssignNode p l) s z r (some_path r)
label_came p s v z l [] e f = came_none (AssignNode p l) s z []
label_came p s v z l (k ∷ u) e f =
    let kids : children_of v ≡ children_of s = kids_are v l (children_of s) (shape_labelled s v l e) in
    let d = down v k u z f in
    came_child (AssignNode p l) s z d.child k k u (ap (λ w. slice_get w k) (sym kids) ∙ d.found) d.further refl

wrap_came : (p : List ℕ) (x s v z : WideTree) (i : ℕ) (r : List ℕ) → wrapped s i x ≡ Ok v → subtree v r ≡ Some z
    → Came (InsertNode p i x) s z r (carried_by_unwrap i r)
wrap_came p x s v z i [] e f = came_none (InsertNode p i x) s z []
wrap_came p x s v z i (k ∷ u) e f =
    let y : Mod = InsertNode p i x in
    by_test (Came y s z (k ∷ u)) (eqb k i) (Some u) None
    (λ t. let same : k ≡ i = eqb-true k i t in
    came_some y s z (k ∷ u) u
    (sym (step_down v s i u (shape_wrapped s x v i e)) ∙ subst (λ n. subtree v (n ∷ u) ≡ Some z) same f)
    (first_is i k u (sym same)))
    (λ t. came_none y s z (k ∷ u))

unwrap_came : (p : List ℕ) (s v z : WideTree) (i : ℕ) (r : List ℕ) → unwrapped s i ≡ Ok v → subtree v r ≡ Some z
    → Came (RemoveNode p i) s z r (Some (i ∷ r))
unwrap_came p s v z i r e f =
    came_some (RemoveNode p i) s z r (i ∷ r) (step_down s v i r (shape_unwrapped s v i e) ∙ f)
    (ap (λ b. if b then Some r else None) (eq-eqb i i refl))

pub came_at : (m : Mod) (s v z : WideTree) (r : List ℕ) → changed_at m s ≡ Ok v → subtree v r ≡ Some z
    → Came m s z r (carried_at (inverse_at m s) v r)
came_at (Assign p x) s v z r e f = came_none (Assign p x) s z r
came_at (Insert p i x) s v z r e f = insert_came p x s v z i r e f
came_at (Remove p i n) s v z r e f = remove_came p s v z i n r e f
came_at (Split p i j) s v z r e f = split_came p s v z i j r e f
came_at (Join p i) s v z r e f = join_came p s v z i r e f
came_at (AssignNode p l) s v z r e f = label_came p s v z l r e f
came_at (InsertNode p i x) s v z r e f = wrap_came p x s v z i r e f
came_at (RemoveNode p i) s v z r e f = unwrap_came p s v z i r e f

-- ---- and a path that is carried comes back

-- what is carried to r comes back to q
abbrev Back : Mod → WideTree → WideTree → List ℕ → Option (List ℕ) → Type 0
Back m s v q o = (r : List ℕ) → o ≡ Some r → carried_at (inverse_at m s) v r ≡ Some q

back_none : (m : Mod) (s v : WideTree) (q : List ℕ) → Back m s v q None
back_none m s v q r e = absurd (cc)

back_some : (m : Mod) (s v : WideTree) (q r : List ℕ) → carried_at (inverse_at m s) v r ≡ Some q → Back m s v q (Some r)
back_some m s v q r h r' e = let same : r' ≡ r = cc in ap (carried_at (inverse_at m s) v) same ∙ h

shifted_back : (i n k : ℕ) (u : List ℕ) → carried_by_remove i n (shifted i n k ∷ u) ≡ Some (k ∷ u)
shifted_back i n k u =
    by_test (λ x. carried_by_remove i n (x ∷ u) ≡ Some (k ∷ u)) (leb i k) (k + n) k
    (λ t. let le : i ≤ k = leb-true i k t in
    ap (λ w. if w then Some (((k + n) - n) ∷ u) else (if leb i (k + n) then None else Some ((k + n) ∷ u)))
    (le-leb (i + n) (k + n) (omega arith))
    ∙ first_is ((k + n) - n) k u (omega arith))
    (λ t. let lt : k < i = leb-false i k t in
    ap (λ w. if w then Some ((k - n) ∷ u) else (if leb i k then None else Some (k ∷ u)))
    (lt-leb (i + n) k (omega arith))
    ∙ ap (λ w. if w then None else Some (k ∷ u)) t)

insert_back : (p : List ℕ) (x s v : WideTree) (i : ℕ) (q : List ℕ) → Back (Insert p i x) s v q (carried_by_insert i (extent x) q)
insert_back p x s v i [] = back_none (Insert p i x) s v []
insert_back p x s v i (k ∷ u) =
    back_some (Insert p i x) s v (k ∷ u) (shifted i (extent x) k ∷ u) (shifted_back i (extent x) k u)

remove_back : (p : List ℕ) (s v z : WideTree) (i n : ℕ) (q : List ℕ) → removed s i n ≡ Ok v → subtree s q ≡ Some z
    → Back (Remove p i n) s v q (carried_by_remove i n q)
remove_back p s v z i n [] e f = back_none (Remove p i n) s v []
remove_back p (leaf text) v z i n (k ∷ u) e f = absurd (cc)
remove_back p (node l ts) v z i n (k ∷ u) e f =
    let s : WideTree = node l ts in
    let m : Mod = Remove p i n in
    let a = ok_asked (leb (i + n) (length (trees ts))) (BadPlace (length (trees ts))) _ v e in
    let long : extent (removed_part s i n) ≡ n = part_extent l ts i n (leb-true (i + n) (length (trees ts)) a.0) in
    by_test (Back m s v (k ∷ u)) (leb (i + n) k) (Some ((k - n) ∷ u)) _
    (λ t. let le : i + n ≤ k = leb-true (i + n) k t in
    back_some m s v (k ∷ u) ((k - n) ∷ u)
    (ap (λ w. Some ((if w then (k - n) + extent (removed_part s i n) else (k - n)) ∷ u)) (le-leb i (k - n) (omega arith))
    ∙ first_is ((k - n) + extent (removed_part s i n)) k u (omega (arith, long))))
    (λ t. by_test (Back m s v (k ∷ u)) (leb i k) None (Some (k ∷ u)) (λ t'. back_none m s v (k ∷ u))
    (λ t'. back_some m s v (k ∷ u) (k ∷ u)
    (ap (λ w. Some ((if w then k + extent (removed_part s i n) else k) ∷ u)) t')))

split_back : (p : List ℕ) (s v z : WideTree) (i j : ℕ) (q : List ℕ) → split s i j ≡ Ok v → subtree s q ≡ Some z
    → Back (Split p i j) s v q (carried_by_split i j q)
split_back p s v z i j [] e f = back_none (Split p i j) s v []
split_back p (leaf text) v z i j (k ∷ u) e f = absurd (cc)
split_back p (node l ts) v z i j (k ∷ u) e f =
    let T : List WideTree = trees ts in
    let s : WideTree = node l ts in
    let m : Mod = Split p i j in
    let h = split_parts l ts v i j e in
    let c : WideTree = h.child in
    let two : List WideTree = tree_up_to c j ∷ tree_from c j ∷ [] in
    let inside : i < length T = slice_get_within T i c h.found in
    let kids : children_of v ≡ piece T i (i + 1) two = kids_are v l (piece T i (i + 1) two) h.is in
    let first : slice_get (children_of v) i ≡ Some (tree_up_to c j) =
    ap (λ w. slice_get w i) kids ∙ get_inside T two i (i + 1) i 0 (omega arith) (omega arith) (omega arith) in
    let n : extent (child_or_self v i) ≡ j = ap extent (child_is v (tree_up_to c j) i first) ∙ front_extent c j h.fits in
    by_test (Back m s v (k ∷ u)) (ltb i k) (Some ((k + 1) ∷ u)) _
    (λ t. let lt : i < k = ltb-true i k t in
    back_some m s v (k ∷ u) ((k + 1) ∷ u)
    (join_at_back i (extent (child_or_self v i)) u (k + 1) (omega arith) ∙ first_is ((k + 1) - 1) k u (omega arith)))
    (λ t. by_test (Back m s v (k ∷ u)) (eqb k i) (carried_in_split i j u) (Some (k ∷ u))
    (λ t'. let same : k ≡ i = eqb-true k i t' in
    subst (λ x. Back m s v (x ∷ u) (carried_in_split i j u)) (sym same) (in_child s n u))
    (λ t'. let le : k ≤ i = ltb-false i k t in
    let ne : k ≡ i → ⊥ = eqb-false k i t' in
    back_some m s v (k ∷ u) (k ∷ u)
    (join_not_right i (extent (child_or_self v i)) u k le
    ∙ ap (λ b. if b then option_map (λ w. i ∷ w) (some_path u) else Some (k ∷ u)) t')))
  where
    in_child : (s : WideTree) → extent (child_or_self v i) ≡ j → (w : List ℕ)
        → Back (Split p i j) s v (i ∷ w) (carried_in_split i j w)
    in_child s n [] = back_none (Split p i j) s v (i ∷ [])
    in_child s n (a ∷ w) =
        let m : Mod = Split p i j in
        by_test (Back m s v (i ∷ a ∷ w)) (leb j a) (Some ((i + 1) ∷ (a - j) ∷ w)) (Some (i ∷ a ∷ w))
        (λ t'. let le : j ≤ a = leb-true j a t' in
        back_some m s v (i ∷ a ∷ w) ((i + 1) ∷ (a - j) ∷ w)
        (join_at_right i (extent (child_or_self v i)) ((a - j) ∷ w)
        ∙ second_is i ((a - j) + extent (child_or_self v i)) a w (omega (arith, n))))
        (λ t'. back_some m s v (i ∷ a ∷ w) (i ∷ a ∷ w)
        (join_not_right i (extent (child_or_self v i)) (a ∷ w) i (omega arith)
        ∙ ap (λ x. if x then option_map (λ y. i ∷ y) (some_path (a ∷ w)) else Some (i ∷ a ∷ w)) (eq-eqb i i refl)))

join_back : (p : List ℕ) (s v z : WideTree) (i : ℕ) (q : List ℕ) → joined_at s i ≡ Ok v → subtree s q ≡ Some z
    → Back (Join p i) s v q (carried_by_join i (extent (child_or_self s i)) q)
join_back p s v z i [] e f = back_none (Join p i) s v []
join_back p (leaf text) v z i (k ∷ u) e f = absurd (cc)
join_back p (node l ts) v z i (k ∷ u) e f =
    let T : List WideTree = trees ts in
    let s : WideTree = node l ts in
    let m : Mod = Join p i in
    let h = join_parts l ts v i e in
    let is : option_map_or extent (slice_get T i) 0 ≡ extent h.left = ap (λ o. option_map_or extent o 0) h.first in
    let now : extent (child_or_self s i) ≡ extent h.left = ap extent (child_is s h.left i h.first) in
    let j : ℕ = option_map_or extent (slice_get T i) 0 in
    let n : ℕ = extent (child_or_self s i) in
    let d = down s k u z f in
    by_test (Back m s v (k ∷ u)) (ltb (i + 1) k) (Some ((k - 1) ∷ u)) _
    (λ t. let lt : i + 1 < k = ltb-true (i + 1) k t in
    back_some m s v (k ∷ u) ((k - 1) ∷ u)
    (split_at_back i j u (k - 1) (omega arith) ∙ first_is ((k - 1) + 1) k u (omega arith)))
    (λ t. by_test (Back m s v (k ∷ u)) (eqb k (i + 1)) (carried_in_join i n u) _
    (λ t'. let same : k ≡ i + 1 = eqb-true k (i + 1) t' in
    subst (λ x. Back m s v (x ∷ u) (carried_in_join i n u)) (sym same) (in_right s (is ∙ sym now) u))
    (λ t'. by_test (Back m s v (k ∷ u)) (eqb k i) (option_map (λ w. i ∷ w) (some_path u)) (Some (k ∷ u))
    (λ t''. let same : k ≡ i = eqb-true k i t'' in
    let left : d.child ≡ h.left =
    same_some d.child h.left (sym (subst (λ x. slice_get (children_of s) x ≡ Some d.child) same d.found) ∙ h.first) in
    subst (λ x. Back m s v (x ∷ u) (option_map (λ w. i ∷ w) (some_path u))) (sym same)
    (in_left s h.left is u (subst (λ x. subtree x u ≡ Some z) left d.further)))
    (λ t''. let le : k ≤ i + 1 = ltb-false (i + 1) k t in
    let ne : k ≡ i + 1 → ⊥ = eqb-false k (i + 1) t' in
    let ne' : k ≡ i → ⊥ = eqb-false k i t'' in
    back_some m s v (k ∷ u) (k ∷ u) (split_at_front i j u k (omega arith)))))
  where
    same_some : (a b : WideTree) → ◌≡◌ {A = Option WideTree} (Some a) (Some b) → a ≡ b
    same_some a b g = cc

    in_right : (s : WideTree) → option_map_or extent (slice_get (children_of s) i) 0 ≡ extent (child_or_self s i)
        → (w : List ℕ) → Back (Join p i) s v ((i + 1) ∷ w) (carried_in_join i (extent (child_or_self s i)) w)
    in_right s is [] = back_none (Join p i) s v ((i + 1) ∷ [])
    in_right s is (a ∷ w) =
        let j : ℕ = option_map_or extent (slice_get (children_of s) i) 0 in
        let n : ℕ = extent (child_or_self s i) in
        back_some (Join p i) s v ((i + 1) ∷ a ∷ w) (i ∷ (a + n) ∷ w)
        (split_at_child i j ((a + n) ∷ w) ∙ child_at_split i j (a + n) w (omega (arith, is))
        ∙ second_is (i + 1) ((a + n) - j) a w (omega (arith, is)))

    in_left : (s a : WideTree) → option_map_or extent (slice_get (children_of s) i) 0 ≡ extent a → (w : List ℕ)
        → subtree a w ≡ Some z → Back (Join p i) s v (i ∷ w) (option_map (λ x. i ∷ x) (some_path w))
    in_left s a is [] h = back_none (Join p i) s v (i ∷ [])
    in_left s a is (b ∷ w) h =
        let j : ℕ = option_map_or extent (slice_get (children_of s) i) 0 in
        let d = down a b w z h in
        let lt : b < extent a = kid_within a d.child b d.found in
        back_some (Join p i) s v (i ∷ b ∷ w) (i ∷ b ∷ w)
        (split_at_child i j (b ∷ w) ∙ child_before_split i j b w (omega (arith, lt, is)))
      where
        kid_within : (x y : WideTree) (n : ℕ) → slice_get (children_of x) n ≡ Some y → n < extent x
        kid_within (leaf text) y n g = absurd (cc)
        kid_within (node k us) y n g = slice_get_within (trees us) n y g

label_back : (p : List ℕ) (s v : WideTree) (l q : List ℕ) → Back (AssignNode p l) s v q (some_path q)
label_back p s v l [] = back_none (AssignNode p l) s v []
label_back p s v l (k ∷ u) = back_some (AssignNode p l) s v (k ∷ u) (k ∷ u) refl

unwrap_back : (p : List ℕ) (s v : WideTree) (i : ℕ) (q : List ℕ) → Back (RemoveNode p i) s v q (carried_by_unwrap i q)
unwrap_back p s v i [] = back_none (RemoveNode p i) s v []
unwrap_back p s v i (k ∷ u) =
    let m : Mod = RemoveNode p i in
    by_test (Back m s v (k ∷ u)) (eqb k i) (Some u) None
    (λ t. let same : k ≡ i = eqb-true k i t in
    back_some m s v (k ∷ u) u (first_is i k u (sym same)))
    (λ t. back_none m s v (k ∷ u))

pub back_at : (m : Mod) (s v z : WideTree) (q : List ℕ) → changed_at m s ≡ Ok v → subtree s q ≡ Some z
    → Back m s v q (carried_at m s q)
back_at (Assign p x) s v z q e f = back_none (Assign p x) s v q
back_at (Insert p i x) s v z q e f = insert_back p x s v i q
back_at (Remove p i n) s v z q e f = remove_back p s v z i n q e f
back_at (Split p i j) s v z q e f = split_back p s v z i j q e f
back_at (Join p i) s v z q e f = join_back p s v z i q e f
back_at (AssignNode p l) s v z q e f = label_back p s v l q
back_at (InsertNode p i x) s v z q e f =
    back_some (InsertNode p i x) s v q (i ∷ q) (ap (λ b. if b then Some q else None) (eq-eqb i i refl))
back_at (RemoveNode p i) s v z q e f = unwrap_back p s v i q
