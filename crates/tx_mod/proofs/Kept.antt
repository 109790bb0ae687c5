-- The path to which a path is carried leads to the same subtree.
use Rattle.std.proofs.Common.{◌≡◌, ℕ, ◌+◌, ◌-◌, ◌<◌, ◌≤◌, Bool, true, false, leb, ltb, eqb, List, [], ◌∷◌, ◌++◌, length}
use Rattle.std.proofs.Common.{take, drop, Option, Some, None, Ok, refl, sym, ap, subst, ◌∙◌, arith}
use Rattle.std.specs.Prelude.{slice_get, if◌then◌else◌, is_some, option_and_then, option_map}
use Rattle.std.specs.Option.{option_map_or}
use Rattle.std.specs.Str.{bytes_eq}
use Rattle.std.proofs.lemmas.Bool.{leb-true, leb-false, ltb-true, ltb-false, eqb-true, eqb-false}
use Rattle.std.proofs.lemmas.List.{length-take-le}
use Rattle.std.proofs.lemmas.Option.{slice_get_within}
use Rattle.tx_tree.specs.Paths.{subtree}
use Rattle.tx_tree.specs.WideTree.{WideTree, leaf, node, forest, trees, children_of}
use Rattle.tx_tree.proofs.Walking.{step_down}
use Rattle.tx_mod.specs.declared.faults.ModFault.TheVariants.{Differ}
use Rattle.tx_mod.specs.declared.mods.Mod.{Mod}
use Rattle.tx_mod.specs.declared.mods.Mod.TheVariants.{Assign, Insert, Remove, Split, Join, AssignNode, InsertNode}
use Rattle.tx_mod.specs.declared.mods.Mod.TheVariants.{RemoveNode}
use Rattle.tx_mod.specs.Mods.{path_of, put_in, taken_out, extent, tree_up_to, tree_from, with_child_at, replaced}
use Rattle.tx_mod.specs.Changes.{inserted, removed, split, joined, joined_at, labelled, unwrapped, changed_at}
use Rattle.tx_mod.specs.Moves.{rest_behind, child_or_self, shifted, some_path, carried_by_insert, carried_by_remove}
use Rattle.tx_mod.specs.Moves.{carried_in_split, carried_by_split, carried_in_join, carried_by_join, carried_by_unwrap}
use Rattle.tx_mod.specs.Moves.{carried_at}
use Rattle.tx_mod.specs.Followed.{CarriesSubtree}
use Rattle.tx_mod.proofs.Cases.{by_test}
use Rattle.tx_mod.proofs.Replacing.{down, replaced_down, child_of_with, other_child_of_with, subtree_of_replaced}
use Rattle.tx_mod.proofs.Back.{ok_asked, same_tree, made_of}
use Rattle.tx_mod.proofs.Shapes.{get_front, get_behind, get_take, get_drop, put_before, put_behind, left_before}
use Rattle.tx_mod.proofs.Shapes.{left_behind, child_in, child_is, child_stays, shape_inserted, shape_removed}
use Rattle.tx_mod.proofs.Shapes.{shape_split, shape_joined, shape_labelled, shape_wrapped, shape_unwrapped}

-- ---- unchanged children

pub insert_stays : (s x v c : WideTree) (i k : ℕ) → inserted s i x ≡ Ok v → slice_get (children_of s) k ≡ Some c
    → slice_get (children_of v) (shifted i (extent x) k) ≡ Some c
insert_stays (leaf text) x v c i k e f = absurd (cc)
insert_stays (node l ts) x v c i k e f =
    let h = shape_inserted l ts x v i e in
    let T : List WideTree = trees ts in
    let U : List WideTree = children_of x in
    by_test (λ j. slice_get (children_of v) j ≡ Some c) (leb i k) (k + extent x) k
    (λ t. child_in v h.label (put_in T i U) (k + extent x) c h.is (ap (λ n. slice_get (put_in T i U) (k + n)) h.many
    ∙ put_behind T U i k c (leb-true i k t) f))
    (λ t. child_in v h.label (put_in T i U) k c h.is (put_before T U i k c (leb-false i k t) f))

pub remove_front : (s v c : WideTree) (i n k : ℕ) → removed s i n ≡ Ok v → k < i → slice_get (children_of s) k ≡ Some c
    → slice_get (children_of v) k ≡ Some c
remove_front (leaf text) v c i n k e lt f = absurd (cc)
remove_front (node l ts) v c i n k e lt f =
    let h = shape_removed l ts v i n e in
    child_in v h.label (taken_out (trees ts) i n) k c h.is (left_before (trees ts) i n k c lt f)

pub remove_back : (s v c : WideTree) (i n k : ℕ) → removed s i n ≡ Ok v → i + n ≤ k
    → slice_get (children_of s) k ≡ Some c → slice_get (children_of v) (k - n) ≡ Some c
remove_back (leaf text) v c i n k e le f = absurd (cc)
remove_back (node l ts) v c i n k e le f =
    let h = shape_removed l ts v i n e in
    child_in v h.label (taken_out (trees ts) i n) (k - n) c h.is (left_behind (trees ts) i n k c le f)

-- a list with two elements in place of the one at i
two_front : (T rest : List WideTree) (i k : ℕ) (c : WideTree) → k < i → slice_get T k ≡ Some c
    → slice_get (take i T ++ rest) k ≡ Some c
two_front T rest i k c lt f = get_front (take i T) rest k c (get_take T i k c f lt)

at_cut : (T rest : List WideTree) (i j k : ℕ) (c : WideTree) → i ≤ length T → j ≡ i + k → slice_get rest k ≡ Some c
    → slice_get (take i T ++ rest) j ≡ Some c
at_cut T rest i j k c le e f = let front : length (take i T) ≡ i = length-take-le i T le in
    get_behind (take i T) rest j k c (omega arith) f

pub split_front : (s v c : WideTree) (i j k : ℕ) → split s i j ≡ Ok v → k < i → slice_get (children_of s) k ≡ Some c
    → slice_get (children_of v) k ≡ Some c
split_front s v c i j k e lt f =
    let h = shape_split s v i j e in
    let T : List WideTree = children_of s in
    let rest : List WideTree = tree_up_to h.child j ∷ tree_from h.child j ∷ drop (i + 1) T in
    child_in v h.label (take i T ++ rest) k c h.is (two_front T rest i k c lt f)

pub split_back : (s v c : WideTree) (i j k : ℕ) → split s i j ≡ Ok v → i < k → slice_get (children_of s) k ≡ Some c
    → slice_get (children_of v) (k + 1) ≡ Some c
split_back s v c i j k e lt f =
    let h = shape_split s v i j e in
    let T : List WideTree = children_of s in
    let rest : List WideTree = tree_up_to h.child j ∷ tree_from h.child j ∷ drop (i + 1) T in
    let within : i < length T = slice_get_within T i h.child h.found in
    child_in v h.label (take i T ++ rest) (k + 1) c h.is
    (at_cut T rest i (k + 1) (2 + (k - (i + 1))) c (omega arith) (omega arith)
    (get_behind (tree_up_to h.child j ∷ tree_from h.child j ∷ []) (drop (i + 1) T) (2 + (k - (i + 1)))
    (k - (i + 1)) c refl
    (get_drop T (i + 1) k (k - (i + 1)) c f (omega arith))))

pub split_left : (s v c : WideTree) (i j : ℕ) → split s i j ≡ Ok v → slice_get (children_of s) i ≡ Some c
    → slice_get (children_of v) i ≡ Some (tree_up_to c j)
split_left s v c i j e f =
    let h = shape_split s v i j e in
    let T : List WideTree = children_of s in
    let rest : List WideTree = tree_up_to h.child j ∷ tree_from h.child j ∷ drop (i + 1) T in
    let within : i < length T = slice_get_within T i h.child h.found in
    let same : h.child ≡ c = same_some h.child c (sym h.found ∙ f) in
    child_in v h.label (take i T ++ rest) i (tree_up_to c j) h.is
    (at_cut T rest i i 0 (tree_up_to c j) (omega arith) (omega arith) (ap (λ z. Some (tree_up_to z j)) same))
  where
    same_some : (a b : WideTree) → ◌≡◌ {A = Option WideTree} (Some a) (Some b) → a ≡ b
    same_some a b g = cc

pub split_right : (s v c : WideTree) (i j : ℕ) → split s i j ≡ Ok v → slice_get (children_of s) i ≡ Some c
    → slice_get (children_of v) (i + 1) ≡ Some (tree_from c j)
split_right s v c i j e f =
    let h = shape_split s v i j e in
    let T : List WideTree = children_of s in
    let rest : List WideTree = tree_up_to h.child j ∷ tree_from h.child j ∷ drop (i + 1) T in
    let within : i < length T = slice_get_within T i h.child h.found in
    let same : h.child ≡ c = same_some h.child c (sym h.found ∙ f) in
    child_in v h.label (take i T ++ rest) (i + 1) (tree_from c j) h.is
    (at_cut T rest i (i + 1) 1 (tree_from c j) (omega arith) (omega arith) (ap (λ z. Some (tree_from z j)) same))
  where
    same_some : (a b : WideTree) → ◌≡◌ {A = Option WideTree} (Some a) (Some b) → a ≡ b
    same_some a b g = cc

pub before_child : (c d : WideTree) (j l : ℕ) → l < j → slice_get (children_of c) l ≡ Some d
    → slice_get (children_of (tree_up_to c j)) l ≡ Some d
before_child (leaf text) d j l lt f = absurd (cc)
before_child (node m us) d j l lt f =
    child_in (tree_up_to (node m us) j) m (take j (trees us)) l d refl (get_take (trees us) j l d f lt)

pub behind_child : (c d : WideTree) (j l : ℕ) → j ≤ l → slice_get (children_of c) l ≡ Some d
    → slice_get (children_of (tree_from c j)) (l - j) ≡ Some d
behind_child (leaf text) d j l le f = absurd (cc)
behind_child (node m us) d j l le f =
    child_in (tree_from (node m us) j) m (drop j (trees us)) (l - j) d refl
    (get_drop (trees us) j l (l - j) d f (omega arith))

pub join_front : (s v c : WideTree) (i k : ℕ) → joined_at s i ≡ Ok v → k < i → slice_get (children_of s) k ≡ Some c
    → slice_get (children_of v) k ≡ Some c
join_front s v c i k e lt f =
    let h = shape_joined s v i e in
    let T : List WideTree = children_of s in
    child_in v h.label (take i T ++ h.both ∷ drop (i + 2) T) k c h.is (two_front T (h.both ∷ drop (i + 2) T) i k c lt f)

pub join_behind : (s v c : WideTree) (i k : ℕ) → joined_at s i ≡ Ok v → i + 1 < k → slice_get (children_of s) k ≡ Some c
    → slice_get (children_of v) (k - 1) ≡ Some c
join_behind s v c i k e lt f =
    let h = shape_joined s v i e in
    let T : List WideTree = children_of s in
    let within : i < length T = slice_get_within T i h.left h.first in
    child_in v h.label (take i T ++ h.both ∷ drop (i + 2) T) (k - 1) c h.is
    (at_cut T (h.both ∷ drop (i + 2) T) i (k - 1) (1 + (k - (i + 2))) c (omega arith) (omega arith)
    (get_behind (h.both ∷ []) (drop (i + 2) T) (1 + (k - (i + 2))) (k - (i + 2)) c refl
    (get_drop T (i + 2) k (k - (i + 2)) c f (omega arith))))

pub join_at : (s v a b c : WideTree) (i : ℕ) → joined_at s i ≡ Ok v → slice_get (children_of s) i ≡ Some a
    → slice_get (children_of s) (i + 1) ≡ Some b → joined a b ≡ Ok c
    → slice_get (children_of v) i ≡ Some c
join_at s v a b c i e f g t =
    let h = shape_joined s v i e in
    let T : List WideTree = children_of s in
    let within : i < length T = slice_get_within T i h.left h.first in
    let left : h.left ≡ a = same_some h.left a (sym h.first ∙ f) in
    let right : h.right ≡ b = same_some h.right b (sym h.second ∙ g) in
    let both : h.both ≡ c =
    same_tree h.both c (sym h.one ∙ ap (λ z. joined z h.right) left ∙ ap (joined a) right ∙ t) in
    child_in v h.label (take i T ++ h.both ∷ drop (i + 2) T) i c h.is
    (at_cut T (h.both ∷ drop (i + 2) T) i i 0 c (omega arith) (omega arith) (ap (λ z. Some z) both))
  where
    same_some : (a b : WideTree) → ◌≡◌ {A = Option WideTree} (Some a) (Some b) → a ≡ b
    same_some a b g = cc

pub left_child : (a b c d : WideTree) (l : ℕ) → joined a b ≡ Ok c → slice_get (children_of a) l ≡ Some d
    → slice_get (children_of c) l ≡ Some d
left_child (leaf x) b c d l e f = absurd (cc)
left_child (node m ts) (leaf y) c d l e f = absurd (cc)
left_child (node m ts) (node n us) c d l e f =
    let a = ok_asked (bytes_eq m n) Differ _ c e in
    child_in c m (trees ts ++ trees us) l d (sym (same_tree (node m (forest (trees ts ++ trees us))) c a.1))
    (get_front (trees ts) (trees us) l d f)

pub right_child : (a b c d : WideTree) (l : ℕ) → joined a b ≡ Ok c → slice_get (children_of b) l ≡ Some d
    → slice_get (children_of c) (l + extent a) ≡ Some d
right_child a (leaf y) c d l e f = absurd (cc)
right_child (leaf x) (node n us) c d l e f = absurd (cc)
right_child (node m ts) (node n us) c d l e f =
    let a = ok_asked (bytes_eq m n) Differ _ c e in
    child_in c m (trees ts ++ trees us) (l + length (trees ts)) d
    (sym (same_tree (node m (forest (trees ts ++ trees us))) c a.1))
    (get_behind (trees ts) (trees us) (l + length (trees ts)) l d (omega arith) f)

-- ---- paths of the changed subtree

-- if the path is carried, it then leads to the same subtree
abbrev Keeps : WideTree → WideTree → List ℕ → Option (List ℕ) → Type 0
Keeps v x r o = o ≡ Some r → subtree v r ≡ Some x

keeps_none : (v x : WideTree) (r : List ℕ) → Keeps v x r None
keeps_none v x r e = absurd (cc)

keeps_some : (v x : WideTree) (r q : List ℕ) → subtree v q ≡ Some x → Keeps v x r (Some q)
keeps_some v x r q f e = let same : q ≡ r = same_path q r e in subst (λ p. subtree v p ≡ Some x) same f
  where
    same_path : (a b : List ℕ) → ◌≡◌ {A = Option (List ℕ)} (Some a) (Some b) → a ≡ b
    same_path a b g = cc

insert_keeps : (s y v x : WideTree) (i : ℕ) (q r : List ℕ) → inserted s i y ≡ Ok v → subtree s q ≡ Some x
    → Keeps v x r (carried_by_insert i (extent y) q)
insert_keeps s y v x i [] r e f = keeps_none v x r
insert_keeps s y v x i (k ∷ u) r e f =
    keeps_some v x r (shifted i (extent y) k ∷ u)
    (child_stays s v k (shifted i (extent y) k) u x (λ c g. insert_stays s y v c i k e g) f)

remove_keeps : (s v x : WideTree) (i n : ℕ) (q r : List ℕ) → removed s i n ≡ Ok v → subtree s q ≡ Some x
    → Keeps v x r (carried_by_remove i n q)
remove_keeps s v x i n [] r e f = keeps_none v x r
remove_keeps s v x i n (k ∷ u) r e f =
    by_test (Keeps v x r) (leb (i + n) k) (Some ((k - n) ∷ u)) _
    (λ t. keeps_some v x r ((k - n) ∷ u)
    (child_stays s v k (k - n) u x (λ c g. remove_back s v c i n k e (leb-true (i + n) k t) g) f))
    (λ t. by_test (Keeps v x r) (leb i k) None (Some (k ∷ u)) (λ t'. keeps_none v x r)
    (λ t'. keeps_some v x r (k ∷ u)
    (child_stays s v k k u x (λ c g. remove_front s v c i n k e (leb-false i k t') g) f)))

split_child_keeps : (s v x c : WideTree) (i j : ℕ) (q r : List ℕ) → split s i j ≡ Ok v
    → slice_get (children_of s) i ≡ Some c → subtree c q ≡ Some x → Keeps v x r (carried_in_split i j q)
split_child_keeps s v x c i j [] r e g f = keeps_none v x r
split_child_keeps s v x c i j (l ∷ w) r e g f =
    by_test (Keeps v x r) (leb j l) (Some ((i + 1) ∷ (l - j) ∷ w)) (Some (i ∷ l ∷ w))
    (λ t. keeps_some v x r ((i + 1) ∷ (l - j) ∷ w)
    (step_down v (tree_from c j) (i + 1) ((l - j) ∷ w) (split_right s v c i j e g)
    ∙ child_stays c (tree_from c j) l (l - j) w x (λ d h. behind_child c d j l (leb-true j l t) h) f))
    (λ t. keeps_some v x r (i ∷ l ∷ w)
    (step_down v (tree_up_to c j) i (l ∷ w) (split_left s v c i j e g)
    ∙ child_stays c (tree_up_to c j) l l w x (λ d h. before_child c d j l (leb-false j l t) h) f))

split_keeps : (s v x : WideTree) (i j : ℕ) (q r : List ℕ) → split s i j ≡ Ok v → subtree s q ≡ Some x
    → Keeps v x r (carried_by_split i j q)
split_keeps s v x i j [] r e f = keeps_none v x r
split_keeps s v x i j (k ∷ u) r e f =
    by_test (Keeps v x r) (ltb i k) (Some ((k + 1) ∷ u)) _
    (λ t. keeps_some v x r ((k + 1) ∷ u)
    (child_stays s v k (k + 1) u x (λ c g. split_back s v c i j k e (ltb-true i k t) g) f))
    (λ t. by_test (Keeps v x r) (eqb k i) (carried_in_split i j u) (Some (k ∷ u))
    (λ t'. let same : k ≡ i = eqb-true k i t' in
    let d = down s i u x (subst (λ n. subtree s (n ∷ u) ≡ Some x) same f) in
    split_child_keeps s v x d.child i j u r e d.found d.further)
    (λ t'. let le : k ≤ i = ltb-false i k t in
    let ne : k ≡ i → ⊥ = eqb-false k i t' in
    keeps_some v x r (k ∷ u) (child_stays s v k k u x (λ c g. split_front s v c i j k e (omega arith) g) f)))

join_child_keeps : (s v x a b c : WideTree) (i n : ℕ) (q r : List ℕ) → slice_get (children_of v) i ≡ Some c
    → joined a b ≡ Ok c → n ≡ extent a → subtree b q ≡ Some x → Keeps v x r (carried_in_join i n q)
join_child_keeps s v x a b c i n [] r g t is f = keeps_none v x r
join_child_keeps s v x a b c i n (l ∷ w) r g t is f =
    keeps_some v x r (i ∷ (l + n) ∷ w)
    (step_down v c i ((l + n) ∷ w) g
    ∙ child_stays b c l (l + n) w x
    (λ d h. subst (λ m. slice_get (children_of c) (l + m) ≡ Some d) (sym is) (right_child a b c d l t h)) f)

left_keeps : (v x a b c : WideTree) (i : ℕ) (q r : List ℕ) → slice_get (children_of v) i ≡ Some c → joined a b ≡ Ok c
    → subtree a q ≡ Some x
    → Keeps v x r (option_map (λ w. i ∷ w) (some_path q))
left_keeps v x a b c i [] r g t f = keeps_none v x r
left_keeps v x a b c i (l ∷ w) r g t f =
    keeps_some v x r (i ∷ l ∷ w)
    (step_down v c i (l ∷ w) g ∙ child_stays a c l l w x (λ d h. left_child a b c d l t h) f)

join_keeps : (s v x : WideTree) (i : ℕ) (q r : List ℕ) → joined_at s i ≡ Ok v → subtree s q ≡ Some x
    → Keeps v x r (carried_by_join i (extent (child_or_self s i)) q)
join_keeps s v x i [] r e f = keeps_none v x r
join_keeps s v x i (k ∷ u) r e f =
    let h = shape_joined s v i e in
    let n : ℕ = extent (child_or_self s i) in
    let is : n ≡ extent h.left = ap extent (child_is s h.left i h.first) in
    let here : slice_get (children_of v) i ≡ Some h.both =
    join_at s v h.left h.right h.both i e h.first h.second h.one in
    by_test (Keeps v x r) (ltb (i + 1) k) (Some ((k - 1) ∷ u)) _
    (λ t. keeps_some v x r ((k - 1) ∷ u)
    (child_stays s v k (k - 1) u x (λ c g. join_behind s v c i k e (ltb-true (i + 1) k t) g) f))
    (λ t. by_test (Keeps v x r) (eqb k (i + 1)) (carried_in_join i n u) _
    (λ t'. let same : k ≡ i + 1 = eqb-true k (i + 1) t' in
    let d = down s (i + 1) u x (subst (λ m. subtree s (m ∷ u) ≡ Some x) same f) in
    let right : d.child ≡ h.right = same_some d.child h.right (sym d.found ∙ h.second) in
    join_child_keeps s v x h.left h.right h.both i n u r here h.one is
    (subst (λ z. subtree z u ≡ Some x) right d.further))
    (λ t'. by_test (Keeps v x r) (eqb k i) (option_map (λ w. i ∷ w) (some_path u)) (Some (k ∷ u))
    (λ t''. let same : k ≡ i = eqb-true k i t'' in
    let d = down s i u x (subst (λ m. subtree s (m ∷ u) ≡ Some x) same f) in
    let left : d.child ≡ h.left = same_some d.child h.left (sym d.found ∙ h.first) in
    left_keeps v x h.left h.right h.both i u r here h.one (subst (λ z. subtree z u ≡ Some x) left d.further))
    (λ t''. let le : k ≤ i + 1 = ltb-false (i + 1) k t in
    let ne : k ≡ i + 1 → ⊥ = eqb-false k (i + 1) t' in
    let ne' : k ≡ i → ⊥ = eqb-false k i t'' in
    keeps_some v x r (k ∷ u) (child_stays s v k k u x (λ c g. join_front s v c i k e (omega arith) g) f))))
  where
    same_some : (a b : WideTree) → ◌≡◌ {A = Option WideTree} (Some a) (Some b) → a ≡ b
    same_some a b g = cc

label_keeps : (s v x : WideTree) (l : List ℕ) (q r : List ℕ) → labelled s l ≡ Ok v → subtree s q ≡ Some x
    → Keeps v x r (some_path q)
label_keeps s v x l [] r e f = keeps_none v x r
label_keeps s v x l (k ∷ u) r e f =
    keeps_some v x r (k ∷ u)
    (child_stays s v k k u x (λ c g. child_in v l (children_of s) k c (shape_labelled s v l e) g) f)

unwrap_keeps : (s v x : WideTree) (i : ℕ) (q r : List ℕ) → unwrapped s i ≡ Ok v → subtree s q ≡ Some x
    → Keeps v x r (carried_by_unwrap i q)
unwrap_keeps s v x i [] r e f = keeps_none v x r
unwrap_keeps s v x i (k ∷ u) r e f =
    by_test (Keeps v x r) (eqb k i) (Some u) None
    (λ t. let same : k ≡ i = eqb-true k i t in
    let here : subtree s (i ∷ u) ≡ subtree v u = step_down s v i u (shape_unwrapped s v i e) in
    keeps_some v x r u (sym here ∙ subst (λ n. subtree s (n ∷ u) ≡ Some x) same f))
    (λ t. keeps_none v x r)

-- ---- all kinds

keeps_at : (m : Mod) (s v x : WideTree) (q r : List ℕ) → changed_at m s ≡ Ok v → subtree s q ≡ Some x
    → Keeps v x r (carried_at m s q)
keeps_at (Assign p y) s v x q r e f = keeps_none v x r
keeps_at (Insert p i y) s v x q r e f = insert_keeps s y v x i q r e f
keeps_at (Remove p i n) s v x q r e f = remove_keeps s v x i n q r e f
keeps_at (Split p i j) s v x q r e f = split_keeps s v x i j q r e f
keeps_at (Join p i) s v x q r e f = join_keeps s v x i q r e f
keeps_at (AssignNode p l) s v x q r e f = label_keeps s v x l q r e f
keeps_at (InsertNode p i y) s v x q r e f = keeps_some v x r (i ∷ q) (step_down v s i q (shape_wrapped s y v i e) ∙ f)
keeps_at (RemoveNode p i) s v x q r e f = unwrap_keeps s v x i q r e f

-- ---- paths of the whole tree

-- a path after another leads on from where that leads
pub subtree_behind : (p q : List ℕ) (t s : WideTree) → subtree t p ≡ Some s → subtree t (p ++ q) ≡ subtree s q
subtree_behind [] q t s e = let same : t ≡ s = cc in ap (λ z. subtree z q) same
subtree_behind (i ∷ p) q t s e = let d = down t i p s e in step_down t d.child i (p ++ q) d.found
    ∙ subtree_behind p q d.child s d.further

pub rest_is : (p q r : List ℕ) → rest_behind p q ≡ Some r → q ≡ p ++ r
rest_is [] q r e = cc
rest_is (i ∷ p) [] r e = absurd (cc)
rest_is (i ∷ p) (k ∷ q) r e =
    by_test (λ o. o ≡ Some r → k ∷ q ≡ i ∷ (p ++ r)) (eqb i k) (rest_behind p q) None
    (λ t f. let same : i ≡ k = eqb-true i k t in ap (λ z. k ∷ z) (rest_is p q r f) ∙ ap (λ z. z ∷ (p ++ r)) (sym same))
    (λ t f. absurd (cc)) e

-- two paths that part lead to other subtrees
pub parted : (p q : List ℕ) (t s v : WideTree) → rest_behind p q ≡ None → rest_behind q p ≡ None → subtree t p ≡ Some s
    → subtree (replaced t p v) q ≡ subtree t q
parted [] q t s v e f g = absurd (cc)
parted (i ∷ p) [] t s v e f g = absurd (cc)
parted (i ∷ p) (k ∷ q) t s v e f g =
    let d = down t i p s g in
    let n : WideTree = replaced d.child p v in
    ap (λ z. subtree z (k ∷ q)) (replaced_down t d.child i p v d.found)
    ∙ tested d.child n (eqb i k) (eqb k i) refl refl d.found (λ h h'. parted p q d.child s v h h' d.further) e f
  where
    tested : (c n : WideTree) (b b' : Bool) → eqb i k ≡ b → eqb k i ≡ b' → slice_get (children_of t) i ≡ Some c
        → (rest_behind p q ≡ None → rest_behind q p ≡ None → subtree n q ≡ subtree c q)
        → (if b then rest_behind p q else None) ≡ None → (if b' then rest_behind q p else None) ≡ None
        → subtree (with_child_at t i n) (k ∷ q) ≡ subtree t (k ∷ q)
    tested c n true true t1 t2 found ih h h' =
        let same : i ≡ k = eqb-true i k t1 in
        subst (λ z. subtree (with_child_at t i n) (z ∷ q) ≡ subtree t (z ∷ q)) same
        (step_down (with_child_at t i n) n i q (child_of_with t c n i found) ∙ ih h h' ∙ sym (step_down t c i q found))
    tested c n true false t1 t2 found ih h h' = absurd (eqb-false k i t2 (sym (eqb-true i k t1)))
    tested c n false b' t1 t2 found ih h h' =
        let ne : k ≡ i → ⊥ = λ z. eqb-false i k t1 (sym z) in
        ap (option_and_then (λ z. subtree z q)) (other_child_of_with t n i k ne)

pub carries_subtree : (m : Mod) (t : WideTree) (q : List ℕ) → CarriesSubtree m t q
carries_subtree m t q u x r e f g =
    let d = made_of m t u e in
    let p : List ℕ = path_of m in
    let to : carried_to (Some d.old) ≡ Some r = ap carried_to (sym d.found) ∙ g in
    ap (λ z. subtree z r) d.is ∙ followed (rest_behind p q) (rest_behind q p) refl refl d.old d.new d.found d.at to
  where
    carried_to : Option WideTree → Option (List ℕ)
    carried_to o =
        option_map_or
        (λ s. option_map_or (λ b. option_map (λ w. path_of m ++ w) (carried_at m s b)) (rest_behind (path_of m) q)
        (if is_some (rest_behind q (path_of m)) then None else Some q)) o None

    below : (s v : WideTree) (b : List ℕ) (o : Option (List ℕ)) → subtree t (path_of m) ≡ Some s
        → ((c : List ℕ) → o ≡ Some c → subtree v c ≡ Some x) → option_map (λ w. path_of m ++ w) o ≡ Some r
        → subtree (replaced t (path_of m) v) r ≡ Some x
    below s v b None found ih h = absurd (cc)
    below s v b (Some c) found ih h =
        let same : path_of m ++ c ≡ r = cc in
        subst (λ z. subtree (replaced t (path_of m) v) z ≡ Some x) same
        (subtree_behind (path_of m) c (replaced t (path_of m) v) v (subtree_of_replaced (path_of m) t s v found)
        ∙ ih c refl)

    followed : (o o' : Option (List ℕ)) → rest_behind (path_of m) q ≡ o → rest_behind q (path_of m) ≡ o'
        → (s v : WideTree) → subtree t (path_of m) ≡ Some s → changed_at m s ≡ Ok v
        → carried_to (Some s) ≡ Some r → subtree (replaced t (path_of m) v) r ≡ Some x
    followed (Some b) o' a a' s v found at h =
        let here : subtree s b ≡ Some x = sym (subtree_behind (path_of m) b t s found)
        ∙ ap (subtree t) (sym (rest_is (path_of m) q b a)) ∙ f in
        below s v b (carried_at m s b) found (λ c k. keeps_at m s v x b c at here k)
        (sym (ap (λ z. option_map_or (λ y. option_map (λ w. path_of m ++ w) (carried_at m s y)) z
        (if is_some (rest_behind q (path_of m)) then None else Some q)) a) ∙ h)
    followed None (Some b) a a' s v found at h =
        let none : carried_to (Some s) ≡ None =
        ap (λ z. option_map_or (λ y. option_map (λ w. path_of m ++ w) (carried_at m s y)) z
        (if is_some (rest_behind q (path_of m)) then None else Some q)) a
        ∙ ap (λ z. if is_some z then None else Some q) a' in
        let no : ◌≡◌ {A = Option (List ℕ)} None (Some r) = sym none ∙ h in
        absurd (cc)
    followed None None a a' s v found at h =
        let stays : carried_to (Some s) ≡ Some q =
        ap (λ z. option_map_or (λ y. option_map (λ w. path_of m ++ w) (carried_at m s y)) z
        (if is_some (rest_behind q (path_of m)) then None else Some q)) a
        ∙ ap (λ z. if is_some z then None else Some q) a' in
        let same : ◌≡◌ {A = Option (List ℕ)} (Some q) (Some r) = sym stays ∙ h in
        let path : q ≡ r = cc in
        ap (subtree (replaced t (path_of m) v)) (sym path) ∙ parted (path_of m) q t s v a a' found ∙ f
