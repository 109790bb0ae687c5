-- A moved place is a place of the changed tree.
use Rattle.std.proofs.Common.{◌≡◌, ℕ, ◌+◌, ◌-◌, ◌<◌, ◌≤◌, Bool, true, false, leb, ltb, eqb, List, [], ◌∷◌, ◌++◌, length}
use Rattle.std.proofs.Common.{take, drop, Option, Some, None, Ok, refl, sym, ap, subst, ◌∙◌, length-append, arith}
use Rattle.std.specs.Prelude.{slice_get, if◌then◌else◌, IsSomeAnd}
use Rattle.std.specs.Option.{option_map_or}
use Rattle.std.specs.Str.{bytes_eq}
use Rattle.std.proofs.lemmas.Bool.{leb-true, leb-false, ltb-true, ltb-false, eqb-true, eqb-false}
use Rattle.std.proofs.lemmas.List.{length-take-le, take-append-drop}
use Rattle.tx_tree.specs.declared.places.Place.{Place}
use Rattle.tx_tree.specs.Cuts.{is_cut}
use Rattle.tx_tree.specs.Limits.{IsWellFormed}
use Rattle.tx_tree.specs.Paths.{subtree}
use Rattle.tx_tree.specs.Places.{IsOffset, IsPlace}
use Rattle.tx_tree.specs.Texts.{IsText, IsCut}
use Rattle.tx_tree.specs.WideTree.{WideTree, Forest, leaf, node, forest, trees, children_of}
use Rattle.tx_tree.proofs.Walking.{step_down}
use Rattle.tx_mod.specs.declared.faults.ModFault.TheVariants.{Differ, BadPlace, CutsSymbol}
use Rattle.tx_mod.specs.declared.mods.Mod.{Mod}
use Rattle.tx_mod.specs.declared.mods.Mod.TheVariants.{Assign, Insert, Remove, Split, Join, AssignNode, InsertNode}
use Rattle.tx_mod.specs.declared.mods.Mod.TheVariants.{RemoveNode}
use Rattle.tx_mod.specs.Mods.{path_of, put_in, taken_out, extent, is_clean, tree_up_to, tree_from, with_child_at}
use Rattle.tx_mod.specs.Mods.{replaced}
use Rattle.tx_mod.specs.Changes.{inserted, removed, split, joined, joined_at, labelled, unwrapped, changed_at}
use Rattle.tx_mod.specs.Moves.{rest_behind, place, place_from_above, child_or_self, shifted, moved_by_insert}
use Rattle.tx_mod.specs.Moves.{moved_by_remove}
use Rattle.tx_mod.specs.Moves.{moved_in_split, moved_by_split, moved_in_join, moved_by_join, moved_by_unwrap, moved_at}
use Rattle.tx_mod.specs.Moves.{moved_place}
use Rattle.tx_mod.specs.Sound.{IsSoundMod}
use Rattle.tx_mod.specs.Followed.{StaysPlace}
use Rattle.tx_mod.proofs.Cases.{by_test}
use Rattle.tx_mod.proofs.Replacing.{down, replaced_down, child_of_with, other_child_of_with, subtree_of_replaced}
use Rattle.tx_mod.proofs.Remade.{texts_together, text_before, text_behind}
use Rattle.tx_mod.proofs.Back.{ok_asked, same_tree, made_of, child_well_formed, well_formed_at}
use Rattle.tx_mod.proofs.CutPlaces.{cut_of, cut_push, cut_append, cut_in_front, cut_behind}
use Rattle.tx_mod.proofs.Shapes.{child_in, child_is, child_stays, shape_inserted, shape_removed, shape_split}
use Rattle.tx_mod.proofs.Shapes.{shape_joined, shape_labelled, shape_wrapped, shape_unwrapped}
use Rattle.tx_mod.proofs.Kept.{insert_stays, remove_front, remove_back, split_front, split_back, split_left}
use Rattle.tx_mod.proofs.Kept.{split_right, before_child, behind_child, join_front, join_behind, join_at, left_child}
use Rattle.tx_mod.proofs.Kept.{right_child, subtree_behind, rest_is}

-- ---- places

-- the tree has this place
abbrev Has : WideTree → Place → Type 0
Has v at = IsPlace v at.path at.offset

record IsAt (t : WideTree) (path : List ℕ) (o : ℕ) : Type 0 where
  at : WideTree
  found : subtree t path ≡ Some at
  offset : IsOffset at o

place_at : (t : WideTree) (path : List ℕ) (o : ℕ) → IsPlace t path o → IsAt t path o
place_at t path o h = found (subtree t path) refl h
  where
    found : (s : Option WideTree) → subtree t path ≡ s → IsSomeAnd s (λ x. IsOffset x o) → IsAt t path o
    found None e k = absurd k
    found (Some s) e k = record { at = s; found = e; offset = k }

place_of : (t : WideTree) (path : List ℕ) (o : ℕ) (s : WideTree) → subtree t path ≡ Some s → IsOffset s o
    → IsPlace t path o
place_of t path o s e h = subst (λ z. IsSomeAnd z (λ x. IsOffset x o)) (sym e) h

no_place : (text : List ℕ) (k : ℕ) (u : List ℕ) (o : ℕ) → IsPlace (leaf text) (k ∷ u) o → ⊥
no_place text k u o h = h

-- where a child is child j of another tree, places below it are places
below_child : (s v : WideTree) (k j : ℕ) (u : List ℕ) (o : ℕ)
    → ((c : WideTree) → slice_get (children_of s) k ≡ Some c → slice_get (children_of v) j ≡ Some c)
    → IsPlace s (k ∷ u) o → IsPlace v (j ∷ u) o
below_child s v k j u o f h = let a = place_at s (k ∷ u) o h in
    place_of v (j ∷ u) o a.at (child_stays s v k j u a.at f a.found) a.offset

-- a place of child i
at_child : (v c : WideTree) (i : ℕ) (u : List ℕ) (o : ℕ) → slice_get (children_of v) i ≡ Some c → IsPlace c u o
    → IsPlace v (i ∷ u) o
at_child v c i u o e h = subst (λ z. IsSomeAnd z (λ x. IsOffset x o)) (sym (step_down v c i u e)) h

of_child : (s c : WideTree) (i : ℕ) (u : List ℕ) (o : ℕ) → slice_get (children_of s) i ≡ Some c → IsPlace s (i ∷ u) o
    → IsPlace c u o
of_child s c i u o e h = subst (λ z. IsSomeAnd z (λ x. IsOffset x o)) (step_down s c i u e) h

node_place : (v : WideTree) (l : List ℕ) (ts : Forest) (o : ℕ) → v ≡ node l ts → o ≤ 1 → IsPlace v [] o
node_place v l ts o e h = subst (λ z. IsOffset z o) (sym e) h

leaf_place : (v : WideTree) (text : List ℕ) (o : ℕ) → v ≡ leaf text → IsCut text o → IsPlace v [] o
leaf_place v text o e h = subst (λ z. IsOffset z o) (sym e) h

first_place : (v : WideTree) → IsWellFormed v → IsPlace v [] 0
first_place (leaf text) h = cut_of [] text text 0 refl refl ([], tt, refl) h
first_place (node l ts) h = omega arith

-- ---- insertion and removal

insert_place : (s x v : WideTree) (i : ℕ) (r : List ℕ) (o : ℕ) → IsWellFormed s → IsWellFormed x → inserted s i x ≡ Ok v
    → IsPlace s r o → Has v (moved_by_insert s i (extent x) r o)
insert_place (leaf text) x v i (k ∷ u) o f f' e h = absurd h
insert_place (leaf text) (node m us) v i [] o f f' e h = absurd (cc)
insert_place (leaf text) (leaf more) v i [] o f f' e h =
    let a = ok_asked (leb i (length text)) (BadPlace (length text)) _ v e in
    let b = ok_asked (is_cut text i) (CutsSymbol i) _ v a.1 in
    let le : i ≤ length text = leb-true i (length text) a.0 in
    let front : length (take i text) ≡ i = length-take-le i text le in
    let ha : IsText (take i text) = text_before text i f b.0 in
    let hb : IsText (drop i text) = text_behind text i f b.0 in
    let whole : text ≡ take i text ++ drop i text = sym (take-append-drop i text) in
    leaf_place v (put_in text i more) (shifted i (length more) o) (sym (same_tree (leaf (put_in text i more)) v b.1))
    (by_test (IsCut (put_in text i more)) (leb i o) (o + length more) o
    (λ t. let le' : i ≤ o = leb-true i o t in
    cut_push (take i text ++ more) (drop i text) (put_in text i more) (o - i) (o + length more) refl
    (omega (arith, length-append (take i text) more)) (together ha f')
    (cut_behind (take i text) (drop i text) text o (o - i) whole (omega arith) ha hb h))
    (λ t. let lt : o < i = leb-false i o t in
    cut_append (take i text ++ more) (drop i text) (put_in text i more) o refl
    (cut_append (take i text) more (take i text ++ more) o refl
    (cut_in_front (take i text) (drop i text) text o whole ha (omega arith) h) f') hb))
  where
    together : IsText (take i text) → IsText more → IsText (take i text ++ more)
    together = texts_together (take i text) more
insert_place (node l ts) x v i [] o f f' e h = let g = shape_inserted l ts x v i e in node_place v g.label _ o g.is h
insert_place (node l ts) x v i (k ∷ u) o f f' e h =
    below_child (node l ts) v k (shifted i (extent x) k) u o (λ c g. insert_stays (node l ts) x v c i k e g) h

remove_place : (s v : WideTree) (i n : ℕ) (r : List ℕ) (o : ℕ) → IsWellFormed s → removed s i n ≡ Ok v → IsPlace s r o
    → Has v (moved_by_remove s i n r o)
remove_place (leaf text) v i n (k ∷ u) o f e h = absurd h
remove_place (leaf text) v i n [] o f e h =
    let a = ok_asked (leb (i + n) (length text)) (BadPlace (length text)) _ v e in
    let b = ok_asked (is_cut text i) (CutsSymbol i) _ v a.1 in
    let c = ok_asked (is_cut text (i + n)) (CutsSymbol (i + n)) _ v b.1 in
    let le : i + n ≤ length text = leb-true (i + n) (length text) a.0 in
    let front : length (take i text) ≡ i = length-take-le i text (omega arith) in
    let both : length (take (i + n) text) ≡ i + n = length-take-le (i + n) text le in
    let ha : IsText (take i text) = text_before text i f b.0 in
    let hb : IsText (drop i text) = text_behind text i f b.0 in
    let hc : IsText (take (i + n) text) = text_before text (i + n) f c.0 in
    let hd : IsText (drop (i + n) text) = text_behind text (i + n) f c.0 in
    let w : List ℕ = taken_out text i n in
    leaf_place v w (if leb (i + n) o then o - n else (if leb i o then i else o)) (sym (same_tree (leaf w) v c.1))
    (by_test (IsCut w) (leb (i + n) o) (o - n) _
    (λ t. let le' : i + n ≤ o = leb-true (i + n) o t in
    cut_push (take i text) (drop (i + n) text) w (o - (i + n)) (o - n) refl (omega arith) ha
    (cut_behind (take (i + n) text) (drop (i + n) text) text o (o - (i + n)) (sym (take-append-drop (i + n) text))
    (omega arith) hc hd h))
    (λ t. by_test (IsCut w) (leb i o) i o
    (λ t'. cut_of (take i text) (drop (i + n) text) w i refl (sym front) ha hd)
    (λ t'. let lt : o < i = leb-false i o t' in
    cut_append (take i text) (drop (i + n) text) w o refl
    (cut_in_front (take i text) (drop i text) text o (sym (take-append-drop i text)) ha (omega arith) h) hd)))
remove_place (node l ts) v i n [] o f e h = let g = shape_removed l ts v i n e in node_place v g.label _ o g.is h
remove_place (node l ts) v i n (k ∷ u) o f e h =
    let g = shape_removed l ts v i n e in
    by_test (Has v) (leb (i + n) k) (place ((k - n) ∷ u) o) _
    (λ t. below_child (node l ts) v k (k - n) u o (λ c q. remove_back (node l ts) v c i n k e (leb-true (i + n) k t) q)
    h)
    (λ t. by_test (Has v) (leb i k) (place [] 0) (place (k ∷ u) o) (λ t'. node_place v g.label _ 0 g.is (omega arith))
    (λ t'. below_child (node l ts) v k k u o (λ c q. remove_front (node l ts) v c i n k e (leb-false i k t') q) h))

-- ---- splitting and joining

split_child_place : (s v c : WideTree) (i j : ℕ) (u : List ℕ) (o : ℕ) → IsWellFormed c → is_clean c j ≡ true
    → j ≤ extent c → split s i j ≡ Ok v → slice_get (children_of s) i ≡ Some c → IsPlace c u o
    → Has v (moved_in_split c i j u o)
split_child_place s v (leaf text) i j (k ∷ w) o f clean fits e g h = absurd h
split_child_place s v (leaf text) i j [] o f clean fits e g h =
    let front : length (take j text) ≡ j = length-take-le j text fits in
    let ha : IsText (take j text) = text_before text j f clean in
    let hb : IsText (drop j text) = text_behind text j f clean in
    let whole : text ≡ take j text ++ drop j text = sym (take-append-drop j text) in
    by_test (Has v) (leb j o) (place ((i + 1) ∷ []) (o - j)) (place (i ∷ []) o)
    (λ t. let le : j ≤ o = leb-true j o t in
    at_child v (leaf (drop j text)) (i + 1) [] (o - j) (split_right s v (leaf text) i j e g)
    (cut_behind (take j text) (drop j text) text o (o - j) whole (omega arith) ha hb h))
    (λ t. let lt : o < j = leb-false j o t in
    at_child v (leaf (take j text)) i [] o (split_left s v (leaf text) i j e g)
    (cut_in_front (take j text) (drop j text) text o whole ha (omega arith) h))
split_child_place s v (node m us) i j [] o f clean fits e g h =
    by_test (Has v) (eqb o 1) (place ((i + 1) ∷ []) 1) (place (i ∷ []) o)
    (λ t. at_child v (tree_from (node m us) j) (i + 1) [] 1 (split_right s v (node m us) i j e g) (omega arith))
    (λ t. at_child v (tree_up_to (node m us) j) i [] o (split_left s v (node m us) i j e g) h)
split_child_place s v (node m us) i j (l ∷ w) o f clean fits e g h =
    by_test (Has v) (leb j l) (place ((i + 1) ∷ (l - j) ∷ w) o) (place (i ∷ l ∷ w) o)
    (λ t. at_child v (tree_from (node m us) j) (i + 1) ((l - j) ∷ w) o (split_right s v (node m us) i j e g)
    (below_child (node m us) (tree_from (node m us) j) l (l - j) w o
    (λ d q. behind_child (node m us) d j l (leb-true j l t) q) h))
    (λ t. at_child v (tree_up_to (node m us) j) i (l ∷ w) o (split_left s v (node m us) i j e g)
    (below_child (node m us) (tree_up_to (node m us) j) l l w o
    (λ d q. before_child (node m us) d j l (leb-false j l t) q)
    h))

split_place : (s v : WideTree) (i j : ℕ) (r : List ℕ) (o : ℕ) → IsWellFormed s → split s i j ≡ Ok v → IsPlace s r o
    → Has v (moved_by_split s i j r o)
split_place (leaf text) v i j r o f e h = absurd (cc)
split_place (node l ts) v i j [] o f e h = let g = shape_split (node l ts) v i j e in node_place v g.label _ o g.is h
split_place (node l ts) v i j (k ∷ u) o f e h =
    let s : WideTree = node l ts in
    let g = shape_split s v i j e in
    by_test (Has v) (ltb i k) (place ((k + 1) ∷ u) o) _
    (λ t. below_child s v k (k + 1) u o (λ c q. split_back s v c i j k e (ltb-true i k t) q) h)
    (λ t. by_test (Has v) (eqb k i) (moved_in_split (child_or_self s i) i j u o) (place (k ∷ u) o)
    (λ t'. let same : k ≡ i = eqb-true k i t' in
    subst (λ c. Has v (moved_in_split c i j u o)) (sym (child_is s g.child i g.found))
    (split_child_place s v g.child i j u o (child_well_formed ts i g.child f.1 g.found) g.clean g.fits e g.found
    (of_child s g.child i u o g.found (subst (λ n. IsPlace s (n ∷ u) o) same h))))
    (λ t'. let le : k ≤ i = ltb-false i k t in
    let ne : k ≡ i → ⊥ = eqb-false k i t' in
    below_child s v k k u o (λ c q. split_front s v c i j k e (omega arith) q) h))

join_right_place : (v a b c : WideTree) (i : ℕ) (u : List ℕ) (o : ℕ) → IsWellFormed a
    → slice_get (children_of v) i ≡ Some c → joined a b ≡ Ok c → IsPlace b u o
    → Has v (moved_in_join b i (extent a) u o)
join_right_place v a (leaf y) c i (k ∷ w) o f g t h = absurd h
join_right_place v (node m ts) (leaf y) c i [] o f g t h = absurd (cc)
join_right_place v (leaf x) (leaf y) c i [] o f g t h =
    at_child v c i [] (o + length x) g
    (leaf_place c (x ++ y) (o + length x) (sym (same_tree (leaf (x ++ y)) c t))
    (cut_push x y (x ++ y) o (o + length x) refl (omega arith) f h))
join_right_place v (leaf x) (node n us) c i u o f g t h = absurd (cc)
join_right_place v (node m ts) (node n us) c i [] o f g t h =
    let a = ok_asked (bytes_eq m n) Differ _ c t in
    at_child v c i [] o g (node_place c m _ o (sym (same_tree (node m (forest (trees ts ++ trees us))) c a.1)) h)
join_right_place v (node m ts) (node n us) c i (l ∷ w) o f g t h =
    at_child v c i ((l + length (trees ts)) ∷ w) o g
    (below_child (node n us) c l (l + length (trees ts)) w o (λ d q. right_child (node m ts) (node n us) c d l t q) h)

join_left_place : (v a b c : WideTree) (i : ℕ) (u : List ℕ) (o : ℕ) → IsWellFormed b
    → slice_get (children_of v) i ≡ Some c → joined a b ≡ Ok c → IsPlace a u o → Has v (place (i ∷ u) o)
join_left_place v (leaf x) b c i (k ∷ w) o f g t h = absurd h
join_left_place v (leaf x) (node n us) c i [] o f g t h = absurd (cc)
join_left_place v (leaf x) (leaf y) c i [] o f g t h =
    at_child v c i [] o g
    (leaf_place c (x ++ y) o (sym (same_tree (leaf (x ++ y)) c t)) (cut_append x y (x ++ y) o refl h f))
join_left_place v (node m ts) (leaf y) c i u o f g t h = absurd (cc)
join_left_place v (node m ts) (node n us) c i [] o f g t h =
    let a = ok_asked (bytes_eq m n) Differ _ c t in
    at_child v c i [] o g (node_place c m _ o (sym (same_tree (node m (forest (trees ts ++ trees us))) c a.1)) h)
join_left_place v (node m ts) (node n us) c i (l ∷ w) o f g t h =
    at_child v c i (l ∷ w) o g
    (below_child (node m ts) c l l w o (λ d q. left_child (node m ts) (node n us) c d l t q) h)

join_place : (s v : WideTree) (i : ℕ) (r : List ℕ) (o : ℕ) → IsWellFormed s → joined_at s i ≡ Ok v → IsPlace s r o
    → Has v (moved_by_join s i r o)
join_place (leaf text) v i r o f e h = absurd (cc)
join_place (node l ts) v i [] o f e h = let g = shape_joined (node l ts) v i e in node_place v g.label _ o g.is h
join_place (node l ts) v i (k ∷ u) o f e h =
    let s : WideTree = node l ts in
    let g = shape_joined s v i e in
    let here : slice_get (children_of v) i ≡ Some g.both =
    join_at s v g.left g.right g.both i e g.first g.second g.one in
    let fa : IsWellFormed g.left = child_well_formed ts i g.left f.1 g.first in
    let fb : IsWellFormed g.right = child_well_formed ts (i + 1) g.right f.1 g.second in
    by_test (Has v) (ltb (i + 1) k) (place ((k - 1) ∷ u) o) _
    (λ t. below_child s v k (k - 1) u o (λ c q. join_behind s v c i k e (ltb-true (i + 1) k t) q) h)
    (λ t. by_test (Has v) (eqb k (i + 1)) (moved_in_join (child_or_self s (i + 1)) i (extent (child_or_self s i)) u o)
    (place (k ∷ u) o)
    (λ t'. let same : k ≡ i + 1 = eqb-true k (i + 1) t' in
    subst (λ b. Has v (moved_in_join b i (extent (child_or_self s i)) u o)) (sym (child_is s g.right (i + 1) g.second))
    (subst (λ a. Has v (moved_in_join g.right i (extent a) u o)) (sym (child_is s g.left i g.first))
    (join_right_place v g.left g.right g.both i u o fa here g.one
    (of_child s g.right (i + 1) u o g.second (subst (λ n. IsPlace s (n ∷ u) o) same h)))))
    (λ t'. stays v g.left g.right g.both here fb g.first g.one (ltb-false (i + 1) k t) (eqb-false k (i + 1) t') e
    (eqb k i) refl h))
  where
    stays : (v a b c : WideTree) → slice_get (children_of v) i ≡ Some c → IsWellFormed b
        → slice_get (trees ts) i ≡ Some a → joined a b ≡ Ok c → k ≤ i + 1 → (k ≡ i + 1 → ⊥)
        → joined_at (node l ts) i ≡ Ok v
        → (d : Bool) → eqb k i ≡ d → IsPlace (node l ts) (k ∷ u) o → IsPlace v (k ∷ u) o
    stays v a b c here fb first one le ne e true t h =
        let same : k ≡ i = eqb-true k i t in
        subst (λ n. IsPlace v (n ∷ u) o) (sym same)
        (join_left_place v a b c i u o fb here one
        (of_child (node l ts) a i u o first (subst (λ n. IsPlace (node l ts) (n ∷ u) o) same h)))
    stays v a b c here fb first one le ne e false t h =
        let ne' : k ≡ i → ⊥ = eqb-false k i t in
        below_child (node l ts) v k k u o (λ d q. join_front (node l ts) v d i k e (omega arith) q) h

-- ---- labels and unwrapping

label_place : (s v : WideTree) (l : List ℕ) (r : List ℕ) (o : ℕ) → labelled s l ≡ Ok v → IsPlace s r o → IsPlace v r o
label_place (leaf text) v l r o e h = absurd (cc)
label_place (node m ts) v l [] o e h = node_place v l _ o (shape_labelled (node m ts) v l e) h
label_place (node m ts) v l (k ∷ u) o e h =
    below_child (node m ts) v k k u o (λ c g. child_in v l (trees ts) k c (shape_labelled (node m ts) v l e) g) h

unwrap_place : (s v : WideTree) (i : ℕ) (r : List ℕ) (o : ℕ) → IsWellFormed s → unwrapped s i ≡ Ok v → IsPlace s r o
    → Has v (moved_by_unwrap i r o)
unwrap_place (leaf text) v i r o f e h = absurd (cc)
unwrap_place (node l ts) v i [] o f e h =
    first_place v (child_well_formed ts i v f.1 (shape_unwrapped (node l ts) v i e))
unwrap_place (node l ts) v i (k ∷ u) o f e h =
    let found : slice_get (trees ts) i ≡ Some v = shape_unwrapped (node l ts) v i e in
    by_test (Has v) (eqb k i) (place u o) (place [] 0)
    (λ t. let same : k ≡ i = eqb-true k i t in
    of_child (node l ts) v i u o found (subst (λ n. IsPlace (node l ts) (n ∷ u) o) same h))
    (λ t. first_place v (child_well_formed ts i v f.1 found))

-- ---- all kinds

place_of_changed : (m : Mod) (s v : WideTree) (r : List ℕ) (o : ℕ) → IsSoundMod m → IsWellFormed s
    → changed_at m s ≡ Ok v
    → IsPlace s r o → Has v (moved_at m s r o)
place_of_changed (Assign p x) s v r o k f e h = subst (λ z. IsPlace z [] 0) (same_tree x v e) (first_place x k)
place_of_changed (Insert p i x) s v r o k f e h = insert_place s x v i r o f k e h
place_of_changed (Remove p i n) s v r o k f e h = remove_place s v i n r o f e h
place_of_changed (Split p i j) s v r o k f e h = split_place s v i j r o f e h
place_of_changed (Join p i) s v r o k f e h = join_place s v i r o f e h
place_of_changed (AssignNode p l) s v r o k f e h = label_place s v l r o e h
place_of_changed (InsertNode p i x) s v r o k f e h = at_child v s i r o (shape_wrapped s x v i e) h
place_of_changed (RemoveNode p i) s v r o k f e h = unwrap_place s v i r o f e h

-- ---- places of the whole tree

with_offset : (t n : WideTree) (i o : ℕ) → IsOffset t o → IsOffset (with_child_at t i n) o
with_offset (leaf text) n i o h = h
with_offset (node l ts) n i o h = h

-- a place that isn't in the changed subtree
place_aside : (p q : List ℕ) (t s v : WideTree) (o : ℕ) → rest_behind p q ≡ None → subtree t p ≡ Some s → IsPlace t q o
    → IsPlace (replaced t p v) q o
place_aside [] q t s v o e g h = absurd (cc)
place_aside (i ∷ p) [] t s v o e g h =
    let d = down t i p s g in
    subst (λ z. IsOffset z o) (sym (replaced_down t d.child i p v d.found)) (with_offset t (replaced d.child p v) i o h)
place_aside (i ∷ p) (k ∷ q) t s v o e g h =
    let d = down t i p s g in
    let n : WideTree = replaced d.child p v in
    subst (λ z. IsPlace z (k ∷ q) o) (sym (replaced_down t d.child i p v d.found))
    (tested d.child n (eqb i k) refl d.found (λ a b. place_aside p q d.child s v o a d.further b) e)
  where
    tested : (c n : WideTree) (b : Bool) → eqb i k ≡ b → slice_get (children_of t) i ≡ Some c
        → (rest_behind p q ≡ None → IsPlace c q o → IsPlace n q o) → (if b then rest_behind p q else None) ≡ None
        → IsPlace (with_child_at t i n) (k ∷ q) o
    tested c n true a found ih f =
        let same : i ≡ k = eqb-true i k a in
        subst (λ z. IsPlace (with_child_at t i n) (z ∷ q) o) same
        (at_child (with_child_at t i n) n i q o (child_of_with t c n i found)
        (ih f (of_child t c i q o found (subst (λ z. IsPlace t (z ∷ q) o) (sym same) h))))
    tested c n false a found ih f =
        let ne : k ≡ i → ⊥ = λ z. eqb-false i k a (sym z) in
        below_child t (with_child_at t i n) k k q o (λ d f'. other_child_of_with t n i k ne ∙ f') h

pub stays_place : (m : Mod) (t : WideTree) (at : Place) → StaysPlace m t at
stays_place m t at u sound formed e h =
    let d = made_of m t u e in
    let here : Has (replaced t (path_of m) d.new) (moved_to (Some d.old)) =
    stands (rest_behind (path_of m) at.path) refl d.old d.new d.found
    (λ r k. place_of_changed m d.old d.new r at.offset sound (well_formed_at (path_of m) t d.old d.found formed)
    d.at k) in
    subst (λ z. Has z (moved_place m t at)) (sym d.is)
    (subst (λ o. Has (replaced t (path_of m) d.new) (moved_to o)) (sym d.found) here)
  where
    moved_to : Option WideTree → Place
    moved_to o =
        option_map_or
        (λ s. option_map_or (λ r. place_from_above (path_of m) (moved_at m s r at.offset))
        (rest_behind (path_of m) at.path) at) o
        at

    stands : (o : Option (List ℕ)) → rest_behind (path_of m) at.path ≡ o → (s v : WideTree)
        → subtree t (path_of m) ≡ Some s
        → ((r : List ℕ) → IsPlace s r at.offset → Has v (moved_at m s r at.offset))
        → Has (replaced t (path_of m) v) (moved_to (Some s))
    stands None a s v found f =
        subst (λ o.
        Has (replaced t (path_of m) v)
        (option_map_or (λ r. place_from_above (path_of m) (moved_at m s r at.offset)) o at))
        (sym a) (place_aside (path_of m) at.path t s v at.offset a found h)
    stands (Some r) a s v found f =
        let was : IsPlace s r at.offset =
        subst (λ z. IsSomeAnd z (λ x. IsOffset x at.offset)) (ap (subtree t) (rest_is (path_of m) at.path r a)
        ∙ subtree_behind (path_of m) r t s found) h in
        let now : Place = moved_at m s r at.offset in
        subst (λ o.
        Has (replaced t (path_of m) v)
        (option_map_or (λ b. place_from_above (path_of m) (moved_at m s b at.offset)) o at))
        (sym a)
        (subst (λ z. IsSomeAnd z (λ x. IsOffset x now.offset))
        (sym (subtree_behind (path_of m) now.path (replaced t (path_of m) v) v
        (subtree_of_replaced (path_of m) t s v found))) (f r was))
