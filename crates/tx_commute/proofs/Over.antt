-- A modification of a tree that has another subtree at a path that is carried: it makes the same, with that subtree
-- where the path is carried to.
use Rattle.std.proofs.Common.{◌≡◌, ℕ, ◌+◌, ◌-◌, ◌<◌, ◌≤◌, Bool, true, false, leb, ltb, eqb, List, [], ◌∷◌, ◌++◌, length}
use Rattle.std.proofs.Common.{Option, Some, None, Ok, refl, sym, ap, subst, ◌∙◌, arith}
use Rattle.std.specs.Prelude.{slice_get, if◌then◌else◌, option_map}
use Rattle.std.proofs.lemmas.Bool.{leb-true, leb-false, ltb-true, ltb-false, eqb-true, eqb-false}
use Rattle.std.proofs.lemmas.Option.{slice_get_within}
use Rattle.tx_tree.specs.Paths.{subtree}
use Rattle.tx_tree.specs.WideTree.{WideTree, leaf, node, children_of}
use Rattle.tx_tree.proofs.Walking.{step_down}
use Rattle.tx_mod.specs.declared.mods.Mod.{Mod}
use Rattle.tx_mod.specs.declared.mods.Mod.TheVariants.{Assign, Insert, Remove, Split, Join, AssignNode, InsertNode}
use Rattle.tx_mod.specs.declared.mods.Mod.TheVariants.{RemoveNode}
use Rattle.tx_mod.specs.Mods.{extent, tree_up_to, tree_from, with_child_at, replaced}
use Rattle.tx_mod.specs.Changes.{inserted, removed, split, joined, joined_at, labelled, unwrapped, changed_at}
use Rattle.tx_mod.specs.Moves.{child_or_self, shifted, some_path, carried_by_insert, carried_by_remove}
use Rattle.tx_mod.specs.Moves.{carried_in_split, carried_by_split, carried_in_join, carried_by_join, carried_by_unwrap}
use Rattle.tx_mod.specs.Moves.{carried_at}
use Rattle.tx_mod.proofs.Cases.{by_test}
use Rattle.tx_mod.proofs.Replacing.{down, replaced_down}
use Rattle.tx_mod.proofs.Shapes.{child_in, child_is, shape_joined, shape_labelled, shape_wrapped, shape_unwrapped}
use Rattle.tx_mod.proofs.Kept.{insert_stays, remove_front, remove_back, split_front, split_back, split_left, split_right}
use Rattle.tx_mod.proofs.Kept.{before_child, behind_child, join_front, join_behind, join_at, left_child, right_child}
use Rattle.tx_commute.proofs.Made.{insert_with, remove_with_front, remove_with_back, split_with_front, split_with_back}
use Rattle.tx_commute.proofs.Made.{join_with_front, join_with_back, label_with, wrap_with, unwrap_with}
use Rattle.tx_commute.proofs.Below.{split_child_before, split_child_behind, join_child_left, join_child_right}

-- z is where q is carried to, and with y in its place m makes v with y there
abbrev pub Over : Mod → WideTree → WideTree → WideTree → WideTree → List ℕ → Option (List ℕ) → Type 0
Over m s v y z q o =
    (r : List ℕ) → o ≡ Some r → (changed_at m (replaced s q y) ≡ Ok (replaced v r y)) × (subtree v r ≡ Some z)

over_none : (m : Mod) (s v y z : WideTree) (q : List ℕ) → Over m s v y z q None
over_none m s v y z q r e = absurd (cc)

over_some : (m : Mod) (s v y z : WideTree) (q r : List ℕ) → subtree v r ≡ Some z
    → changed_at m (replaced s q y) ≡ Ok (replaced v r y) → Over m s v y z q (Some r)
over_some m s v y z q r g h r' e =
    let same : r ≡ r' = same_path r r' e in
    (h ∙ ap (λ p. Ok (replaced v p y)) same, ap (subtree v) (sym same) ∙ g)
  where
    same_path : (a b : List ℕ) → ◌≡◌ {A = Option (List ℕ)} (Some a) (Some b) → a ≡ b
    same_path a b g = cc

-- from a child to where it is afterwards
over_child : (m : Mod) (s v y z c : WideTree) (k j : ℕ) (u : List ℕ) → subtree c u ≡ Some z → slice_get (children_of s) k ≡ Some c
    → slice_get (children_of v) j ≡ Some c
    → changed_at m (with_child_at s k (replaced c u y)) ≡ Ok (with_child_at v j (replaced c u y))
    → Over m s v y z (k ∷ u) (Some (j ∷ u))
over_child m s v y z c k j u i f g h =
    over_some m s v y z (k ∷ u) (j ∷ u) (step_down v c j u g ∙ i)
    (ap (λ z. changed_at m z) (replaced_down s c k u y f) ∙ h ∙ ap (λ z. Ok z) (sym (replaced_down v c j u y g)))

-- from a child of a child to where that is afterwards
over_grandchild : (m : Mod) (s v y z c b d : WideTree) (k l j n : ℕ) (u : List ℕ) → subtree d u ≡ Some z → slice_get (children_of s) k ≡ Some c
    → slice_get (children_of c) l ≡ Some d → slice_get (children_of v) j ≡ Some b → slice_get (children_of b) n ≡ Some d
    → changed_at m (with_child_at s k (with_child_at c l (replaced d u y)))
    ≡ Ok (with_child_at v j (with_child_at b n (replaced d u y)))
    → Over m s v y z (k ∷ l ∷ u) (Some (j ∷ n ∷ u))
over_grandchild m s v y z c b d k l j n u i f f' g g' h =
    over_some m s v y z (k ∷ l ∷ u) (j ∷ n ∷ u) (step_down v b j (n ∷ u) g ∙ step_down b d n u g' ∙ i)
    (ap (λ z. changed_at m z) (replaced_down s c k (l ∷ u) y f)
    ∙ ap (λ z. changed_at m (with_child_at s k z)) (replaced_down c d l u y f')
    ∙ h
    ∙ ap (λ z. Ok (with_child_at v j z)) (sym (replaced_down b d n u y g'))
    ∙ ap (λ z. Ok z) (sym (replaced_down v b j (n ∷ u) y g)))

insert_over : (p : List ℕ) (x s v y z : WideTree) (i : ℕ) (q : List ℕ) → inserted s i x ≡ Ok v → subtree s q ≡ Some z
    → Over (Insert p i x) s v y z q (carried_by_insert i (extent x) q)
insert_over p x s v y z i [] e f = over_none (Insert p i x) s v y z []
insert_over p x s v y z i (k ∷ u) e f =
    let d = down s k u z f in
    over_child (Insert p i x) s v y z d.child k (shifted i (extent x) k) u d.further d.found (insert_stays s x v d.child i k e d.found)
    (insert_with s x v (replaced d.child u y) i k e (slice_get_within (children_of s) k d.child d.found))

remove_over : (p : List ℕ) (s v y z : WideTree) (i n : ℕ) (q : List ℕ) → removed s i n ≡ Ok v → subtree s q ≡ Some z
    → Over (Remove p i n) s v y z q (carried_by_remove i n q)
remove_over p s v y z i n [] e f = over_none (Remove p i n) s v y z []
remove_over p s v y z i n (k ∷ u) e f =
    let m : Mod = Remove p i n in
    let d = down s k u z f in
    let new : WideTree = replaced d.child u y in
    let within : k < length (children_of s) = slice_get_within (children_of s) k d.child d.found in
    by_test (Over m s v y z (k ∷ u)) (leb (i + n) k) (Some ((k - n) ∷ u)) _
    (λ t. let le : i + n ≤ k = leb-true (i + n) k t in
    over_child m s v y z d.child k (k - n) u d.further d.found (remove_back s v d.child i n k e le d.found)
    (remove_with_back s v new i n k e within le))
    (λ t. by_test (Over m s v y z (k ∷ u)) (leb i k) None (Some (k ∷ u)) (λ t'. over_none m s v y z (k ∷ u))
    (λ t'. let lt : k < i = leb-false i k t' in
    over_child m s v y z d.child k k u d.further d.found (remove_front s v d.child i n k e lt d.found)
    (remove_with_front s v new i n k e within lt)))

split_child_over : (p : List ℕ) (s v y z c : WideTree) (i j : ℕ) (q : List ℕ) → split s i j ≡ Ok v
    → slice_get (children_of s) i ≡ Some c → subtree c q ≡ Some z
    → Over (Split p i j) s v y z (i ∷ q) (carried_in_split i j q)
split_child_over p s v y z c i j [] e g f = over_none (Split p i j) s v y z (i ∷ [])
split_child_over p s v y z c i j (l ∷ w) e g f =
    let m : Mod = Split p i j in
    let d = down c l w z f in
    let new : WideTree = replaced d.child w y in
    by_test (Over m s v y z (i ∷ l ∷ w)) (leb j l) (Some ((i + 1) ∷ (l - j) ∷ w)) (Some (i ∷ l ∷ w))
    (λ t. let le : j ≤ l = leb-true j l t in
    over_grandchild m s v y z c (tree_from c j) d.child i l (i + 1) (l - j) w d.further g d.found (split_right s v c i j e g)
    (behind_child c d.child j l le d.found) (split_child_behind s v c new i j l e g le))
    (λ t. let lt : l < j = leb-false j l t in
    over_grandchild m s v y z c (tree_up_to c j) d.child i l i l w d.further g d.found (split_left s v c i j e g)
    (before_child c d.child j l lt d.found) (split_child_before s v c new i j l e g lt))

split_over : (p : List ℕ) (s v y z : WideTree) (i j : ℕ) (q : List ℕ) → split s i j ≡ Ok v → subtree s q ≡ Some z
    → Over (Split p i j) s v y z q (carried_by_split i j q)
split_over p s v y z i j [] e f = over_none (Split p i j) s v y z []
split_over p s v y z i j (k ∷ u) e f =
    let m : Mod = Split p i j in
    let d = down s k u z f in
    let new : WideTree = replaced d.child u y in
    by_test (Over m s v y z (k ∷ u)) (ltb i k) (Some ((k + 1) ∷ u)) _
    (λ t. let lt : i < k = ltb-true i k t in
    over_child m s v y z d.child k (k + 1) u d.further d.found (split_back s v d.child i j k e lt d.found)
    (split_with_back s v new i j k e lt))
    (λ t. by_test (Over m s v y z (k ∷ u)) (eqb k i) (carried_in_split i j u) (Some (k ∷ u))
    (λ t'. let same : k ≡ i = eqb-true k i t' in
    subst (λ n. Over m s v y z (n ∷ u) (carried_in_split i j u)) (sym same)
    (split_child_over p s v y z d.child i j u e (subst (λ n. slice_get (children_of s) n ≡ Some d.child) same d.found)
    d.further))
    (λ t'. let le : k ≤ i = ltb-false i k t in
    let ne : k ≡ i → ⊥ = eqb-false k i t' in
    let lt : k < i = omega arith in
    over_child m s v y z d.child k k u d.further d.found (split_front s v d.child i j k e lt d.found)
    (split_with_front s v new i j k e lt)))

join_right_over : (p : List ℕ) (s v y z a b c : WideTree) (i n : ℕ) (q : List ℕ) → joined_at s i ≡ Ok v
    → slice_get (children_of s) i ≡ Some a → slice_get (children_of s) (i + 1) ≡ Some b
    → slice_get (children_of v) i ≡ Some c → joined a b ≡ Ok c → n ≡ extent a → subtree b q ≡ Some z
    → Over (Join p i) s v y z ((i + 1) ∷ q) (carried_in_join i n q)
join_right_over p s v y z a b c i n [] e f f' g t is h = over_none (Join p i) s v y z ((i + 1) ∷ [])
join_right_over p s v y z a b c i n (l ∷ w) e f f' g t is h =
    let d = down b l w z h in
    subst (λ x. Over (Join p i) s v y z ((i + 1) ∷ l ∷ w) (Some (i ∷ (l + x) ∷ w))) (sym is)
    (over_grandchild (Join p i) s v y z b c d.child (i + 1) l i (l + extent a) w d.further f' d.found g
    (right_child a b c d.child l t d.found)
    (join_child_right s v a b c (replaced d.child w y) i l e f f' g (slice_get_within (children_of b) l d.child d.found)))

join_left_over : (p : List ℕ) (s v y z a b c : WideTree) (i : ℕ) (q : List ℕ) → joined_at s i ≡ Ok v
    → slice_get (children_of s) i ≡ Some a → slice_get (children_of v) i ≡ Some c → joined a b ≡ Ok c
    → subtree a q ≡ Some z
    → Over (Join p i) s v y z (i ∷ q) (option_map (λ w. i ∷ w) (some_path q))
join_left_over p s v y z a b c i [] e f g t h = over_none (Join p i) s v y z (i ∷ [])
join_left_over p s v y z a b c i (l ∷ w) e f g t h =
    let d = down a l w z h in
    over_grandchild (Join p i) s v y z a c d.child i l i l w d.further f d.found g (left_child a b c d.child l t d.found)
    (join_child_left s v a c (replaced d.child w y) i l e f g (slice_get_within (children_of a) l d.child d.found))

join_over : (p : List ℕ) (s v y z : WideTree) (i : ℕ) (q : List ℕ) → joined_at s i ≡ Ok v → subtree s q ≡ Some z
    → Over (Join p i) s v y z q (carried_by_join i (extent (child_or_self s i)) q)
join_over p s v y z i [] e f = over_none (Join p i) s v y z []
join_over p s v y z i (k ∷ u) e f =
    let m : Mod = Join p i in
    let h = shape_joined s v i e in
    let n : ℕ = extent (child_or_self s i) in
    let is : n ≡ extent h.left = ap extent (child_is s h.left i h.first) in
    let here : slice_get (children_of v) i ≡ Some h.both =
    join_at s v h.left h.right h.both i e h.first h.second h.one in
    let d = down s k u z f in
    let new : WideTree = replaced d.child u y in
    by_test (Over m s v y z (k ∷ u)) (ltb (i + 1) k) (Some ((k - 1) ∷ u)) _
    (λ t. let lt : i + 1 < k = ltb-true (i + 1) k t in
    over_child m s v y z d.child k (k - 1) u d.further d.found (join_behind s v d.child i k e lt d.found)
    (join_with_back s v new i k e lt))
    (λ t. by_test (Over m s v y z (k ∷ u)) (eqb k (i + 1)) (carried_in_join i n u) _
    (λ t'. let same : k ≡ i + 1 = eqb-true k (i + 1) t' in
    let right : d.child ≡ h.right =
    same_some d.child h.right (sym (subst (λ x. slice_get (children_of s) x ≡ Some d.child) same d.found) ∙ h.second) in
    subst (λ x. Over m s v y z (x ∷ u) (carried_in_join i n u)) (sym same)
    (join_right_over p s v y z h.left h.right h.both i n u e h.first h.second here h.one is
    (subst (λ x. subtree x u ≡ Some z) right d.further)))
    (λ t'. by_test (Over m s v y z (k ∷ u)) (eqb k i) (option_map (λ w. i ∷ w) (some_path u)) (Some (k ∷ u))
    (λ t''. let same : k ≡ i = eqb-true k i t'' in
    let left : d.child ≡ h.left =
    same_some d.child h.left (sym (subst (λ x. slice_get (children_of s) x ≡ Some d.child) same d.found) ∙ h.first) in
    subst (λ x. Over m s v y z (x ∷ u) (option_map (λ w. i ∷ w) (some_path u))) (sym same)
    (join_left_over p s v y z h.left h.right h.both i u e h.first here h.one
    (subst (λ x. subtree x u ≡ Some z) left d.further)))
    (λ t''. let le : k ≤ i + 1 = ltb-false (i + 1) k t in
    let ne : k ≡ i + 1 → ⊥ = eqb-false k (i + 1) t' in
    let ne' : k ≡ i → ⊥ = eqb-false k i t'' in
    let lt : k < i = omega arith in
    over_child m s v y z d.child k k u d.further d.found (join_front s v d.child i k e lt d.found)
    (join_with_front s v new i k e lt))))
  where
    same_some : (a b : WideTree) → ◌≡◌ {A = Option WideTree} (Some a) (Some b) → a ≡ b
    same_some a b g = cc

label_over : (p : List ℕ) (s v y z : WideTree) (l : List ℕ) (q : List ℕ) → labelled s l ≡ Ok v → subtree s q ≡ Some z
    → Over (AssignNode p l) s v y z q (some_path q)
label_over p s v y z l [] e f = over_none (AssignNode p l) s v y z []
label_over p s v y z l (k ∷ u) e f =
    let d = down s k u z f in
    over_child (AssignNode p l) s v y z d.child k k u d.further d.found
    (child_in v l (children_of s) k d.child (shape_labelled s v l e) d.found)
    (label_with s v (replaced d.child u y) l k e)

wrap_over : (p : List ℕ) (x s v y z : WideTree) (i : ℕ) (q : List ℕ) → changed_at (InsertNode p i x) s ≡ Ok v
    → subtree s q ≡ Some z → Over (InsertNode p i x) s v y z q (Some (i ∷ q))
wrap_over p x s v y z i q e f =
    over_some (InsertNode p i x) s v y z q (i ∷ q) (step_down v s i q (shape_wrapped s x v i e) ∙ f)
    (wrap_with s x v (replaced s q y) i e ∙ ap (λ z. Ok z) (sym (replaced_down v s i q y (shape_wrapped s x v i e))))

unwrap_over : (p : List ℕ) (s v y z : WideTree) (i : ℕ) (q : List ℕ) → unwrapped s i ≡ Ok v → subtree s q ≡ Some z
    → Over (RemoveNode p i) s v y z q (carried_by_unwrap i q)
unwrap_over p s v y z i [] e f = over_none (RemoveNode p i) s v y z []
unwrap_over p s v y z i (k ∷ u) e f =
    let m : Mod = RemoveNode p i in
    by_test (Over m s v y z (k ∷ u)) (eqb k i) (Some u) None
    (λ t. let same : k ≡ i = eqb-true k i t in
    subst (λ n. Over m s v y z (n ∷ u) (Some u)) (sym same)
    (over_some m s v y z (i ∷ u) u
    (sym (step_down s v i u (shape_unwrapped s v i e)) ∙ subst (λ n. subtree s (n ∷ u) ≡ Some z) same f)
    (ap (λ x. changed_at m x) (replaced_down s v i u y (shape_unwrapped s v i e))
    ∙ unwrap_with s v (replaced v u y) i e)))
    (λ t. over_none m s v y z (k ∷ u))

pub over_at : (m : Mod) (s v y z : WideTree) (q : List ℕ) → changed_at m s ≡ Ok v → subtree s q ≡ Some z
    → Over m s v y z q (carried_at m s q)
over_at (Assign p x) s v y z q e f = over_none (Assign p x) s v y z q
over_at (Insert p i x) s v y z q e f = insert_over p x s v y z i q e f
over_at (Remove p i n) s v y z q e f = remove_over p s v y z i n q e f
over_at (Split p i j) s v y z q e f = split_over p s v y z i j q e f
over_at (Join p i) s v y z q e f = join_over p s v y z i q e f
over_at (AssignNode p l) s v y z q e f = label_over p s v y z l q e f
over_at (InsertNode p i x) s v y z q e f = wrap_over p x s v y z i q e f
over_at (RemoveNode p i) s v y z q e f = unwrap_over p s v y z i q e f
