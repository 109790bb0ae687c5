-- What modifications make of a node, as pieces of its children, and of a node with another child.
use Rattle.std.proofs.Common.{◌≡◌, ℕ, ◌+◌, ◌-◌, ◌<◌, ◌≤◌, true, false, leb, List, [], ◌∷◌, ◌++◌, length, take, drop, set}
use Rattle.std.proofs.Common.{Option, Some, Ok, refl, sym, ap, ◌∙◌, arith, length-append}
use Rattle.std.specs.Prelude.{slice_get}
use Rattle.std.specs.Option.{option_map_or}
use Rattle.std.specs.Str.{bytes_eq}
use Rattle.std.proofs.lemmas.Bool.{leb-true, leb-false, le-leb}
use Rattle.std.proofs.lemmas.List.{length-set, set-append_left, set-append_right}
use Rattle.std.proofs.lemmas.Option.{slice_get_within}
use Rattle.tx_tree.specs.WideTree.{WideTree, Forest, leaf, node, forest, trees, children_of}
use Rattle.tx_tree.proofs.Children.{trees_forest, forest_trees}
use Rattle.tx_mod.specs.declared.faults.ModFault.TheVariants.{NotNode, BadPlace, CutsSymbol, Differ}
use Rattle.tx_mod.specs.Mods.{tuple, put_in, taken_out, extent, is_clean, tree_up_to, tree_from, with_child_at}
use Rattle.tx_mod.specs.Changes.{asking, inserted, removed, split, split_child, joined, joined_at, in_place_of_two, labelled}
use Rattle.tx_mod.specs.Changes.{wrapped, unwrapped}
use Rattle.tx_mod.specs.Moves.{shifted}
use Rattle.tx_mod.proofs.Back.{ok_asked, ok_got, same_tree}
use Rattle.tx_mod.proofs.Cases.{by_test}
use Rattle.tx_mod.proofs.Lists.{get_of_set, get_of_set_other}
use Rattle.tx_mod.proofs.Measuring.{split_is, join_is, unwrap_is}
use Rattle.tx_mod.proofs.Remade.{asked_ok}
use Rattle.tx_mod.proofs.Shapes.{shape_joined}
use Rattle.tx_commute.proofs.Pieces.{piece, put_in_is, piece_before, piece_inside, piece_behind, piece_aside}

pub with_in_node : (v : WideTree) (l : List ℕ) (ws : List WideTree) (k : ℕ) (c : WideTree) → v ≡ node l (forest ws)
    → with_child_at v k c ≡ node l (forest (set ws k c))
with_in_node v l ws k c e = ap (λ z. with_child_at z k c) e ∙ ap (λ us. node l (forest (set us k c))) (trees_forest ws)

-- ---- what is made

pub insert_made : (l m : List ℕ) (zs : List WideTree) (us : Forest) (i : ℕ) → bytes_eq m tuple ≡ true → i ≤ length zs
    → inserted (node l (forest zs)) i (node m us) ≡ Ok (node l (forest (piece zs i i (trees us))))
insert_made l m zs us i named le =
    ap (λ ws.
    asking (bytes_eq m tuple) NotNode
    (asking (leb i (length ws)) (BadPlace (length ws)) (Ok (node l (forest (put_in ws i (trees us)))))))
    (trees_forest zs)
    ∙ asked_ok (bytes_eq m tuple) NotNode _ named
    ∙ asked_ok (leb i (length zs)) (BadPlace (length zs)) _ (le-leb i (length zs) le)
    ∙ ap (λ ws. Ok (node l (forest ws))) (put_in_is zs (trees us) i)

pub remove_made : (l : List ℕ) (zs : List WideTree) (i n : ℕ) → i + n ≤ length zs
    → removed (node l (forest zs)) i n ≡ Ok (node l (forest (piece zs i (i + n) [])))
remove_made l zs i n le =
    ap (λ ws. asking (leb (i + n) (length ws)) (BadPlace (length ws)) (Ok (node l (forest (taken_out ws i n)))))
    (trees_forest zs)
    ∙ asked_ok (leb (i + n) (length zs)) (BadPlace (length zs)) _ (le-leb (i + n) (length zs) le)

pub split_made : (l : List ℕ) (zs : List WideTree) (i j : ℕ) (c : WideTree) → slice_get zs i ≡ Some c → j ≤ extent c
    → is_clean c j ≡ true
    → split (node l (forest zs)) i j ≡ Ok (node l (forest (piece zs i (i + 1) (tree_up_to c j ∷ tree_from c j ∷ []))))
split_made l zs i j c f le clean =
    split_is (node l (forest zs)) l zs i j c refl f
    ∙ asked_ok (leb j (extent c)) (BadPlace (extent c)) _ (le-leb j (extent c) le)
    ∙ asked_ok (is_clean c j) (CutsSymbol j) _ clean

pub record IsSplitOf (l : List ℕ) (ts : Forest) (v : WideTree) (i j : ℕ) : Type 0 where
  pub child : WideTree
  pub found : slice_get (trees ts) i ≡ Some child
  pub fits : j ≤ extent child
  pub clean : is_clean child j ≡ true
  pub is : v ≡ node l (forest (piece (trees ts) i (i + 1) (tree_up_to child j ∷ tree_from child j ∷ [])))

pub split_parts : (l : List ℕ) (ts : Forest) (v : WideTree) (i j : ℕ) → split (node l ts) i j ≡ Ok v
    → IsSplitOf l ts v i j
split_parts l ts v i j e =
    let T : List WideTree = trees ts in
    let g = ok_got (split_child l T i j) (BadPlace (length T)) (slice_get T i) v e in
    let c : WideTree = g.0 in
    let a = ok_asked (leb j (extent c)) (BadPlace (extent c)) _ v g.2 in
    let b = ok_asked (is_clean c j) (CutsSymbol j) _ v a.1 in
    record {
      child = c;
      found = g.1;
      fits = leb-true j (extent c) a.0;
      clean = b.0;
      is = sym (same_tree (node l (forest (take i T ++ tree_up_to c j ∷ tree_from c j ∷ drop (i + 1) T))) v b.1);
    }

pub join_made : (l : List ℕ) (zs : List WideTree) (i : ℕ) (a b c : WideTree) → slice_get zs i ≡ Some a
    → slice_get zs (i + 1) ≡ Some b → joined a b ≡ Ok c
    → joined_at (node l (forest zs)) i ≡ Ok (node l (forest (piece zs i (i + 2) (c ∷ []))))
join_made l zs i a b c f g e =
    join_is (node l (forest zs)) l zs i a b refl f g ∙ ap (in_place_of_two l zs i) e

pub record IsJoinOf (l : List ℕ) (ts : Forest) (v : WideTree) (i : ℕ) : Type 0 where
  pub left : WideTree
  pub right : WideTree
  pub both : WideTree
  pub first : slice_get (trees ts) i ≡ Some left
  pub second : slice_get (trees ts) (i + 1) ≡ Some right
  pub one : joined left right ≡ Ok both
  pub is : v ≡ node l (forest (piece (trees ts) i (i + 2) (both ∷ [])))

pub join_parts : (l : List ℕ) (ts : Forest) (v : WideTree) (i : ℕ) → joined_at (node l ts) i ≡ Ok v → IsJoinOf l ts v i
join_parts l ts v i e =
    let h = shape_joined (node l ts) v i e in
    let made : joined_at (node l ts) i ≡ Ok (node l (forest (piece (trees ts) i (i + 2) (h.both ∷ [])))) =
    ap (λ us. joined_at (node l us) i) (sym (forest_trees ts))
    ∙ join_made l (trees ts) i h.left h.right h.both h.first h.second h.one in
    record {
      left = h.left;
      right = h.right;
      both = h.both;
      first = h.first;
      second = h.second;
      one = h.one;
      is = same_tree v (node l (forest (piece (trees ts) i (i + 2) (h.both ∷ [])))) (sym e ∙ made);
    }

-- ---- and of a node with another child

insert_in : (l : List ℕ) (ts : Forest) (m : List ℕ) (us : Forest) (v d : WideTree) (i k n : ℕ)
    → inserted (node l ts) i (node m us) ≡ Ok v
    → (i ≤ length (trees ts) → piece (set (trees ts) k d) i i (trees us) ≡ set (piece (trees ts) i i (trees us)) n d)
    → inserted (with_child_at (node l ts) k d) i (node m us) ≡ Ok (with_child_at v n d)
insert_in l ts m us v d i k n e same =
    let T : List WideTree = trees ts in
    let U : List WideTree = trees us in
    let a = ok_asked (bytes_eq m tuple) NotNode _ v e in
    let b = ok_asked (leb i (length T)) (BadPlace (length T)) _ v a.1 in
    let le : i ≤ length T = leb-true i (length T) b.0 in
    let is : v ≡ node l (forest (piece T i i U)) =
    sym (same_tree (node l (forest (put_in T i U))) v b.1) ∙ ap (λ ws. node l (forest ws)) (put_in_is T U i) in
    insert_made l m (set T k d) us i a.0 (omega (arith, length-set T k d))
    ∙ ap (λ ws. Ok (node l (forest ws))) (same le)
    ∙ ap (λ z. Ok z) (sym (with_in_node v l (piece T i i U) n d is))

pub insert_with : (s x v d : WideTree) (i k : ℕ) → inserted s i x ≡ Ok v → k < length (children_of s)
    → inserted (with_child_at s k d) i x ≡ Ok (with_child_at v (shifted i (extent x) k) d)
insert_with (leaf text) x v d i k e lt = absurd (omega arith)
insert_with (node l ts) (leaf more) v d i k e lt = absurd (cc)
insert_with (node l ts) (node m us) v d i k e lt =
    let T : List WideTree = trees ts in
    let U : List WideTree = trees us in
    by_test (λ n. inserted (with_child_at (node l ts) k d) i (node m us) ≡ Ok (with_child_at v n d)) (leb i k)
    (k + length U) k
    (λ t. insert_in l ts m us v d i k (k + length U) e
    (λ le. let at : i ≤ k = leb-true i k t in piece_behind T U i i k (k + length U) d (omega arith) at le (omega arith)))
    (λ t. insert_in l ts m us v d i k k e (λ le. piece_before T U i i k d (leb-false i k t) (omega arith) le))

remove_in : (l : List ℕ) (ts : Forest) (v d : WideTree) (i n k j : ℕ) → removed (node l ts) i n ≡ Ok v
    → (i + n ≤ length (trees ts) → piece (set (trees ts) k d) i (i + n) [] ≡ set (piece (trees ts) i (i + n) []) j d)
    → removed (with_child_at (node l ts) k d) i n ≡ Ok (with_child_at v j d)
remove_in l ts v d i n k j e same =
    let T : List WideTree = trees ts in
    let a = ok_asked (leb (i + n) (length T)) (BadPlace (length T)) _ v e in
    let le : i + n ≤ length T = leb-true (i + n) (length T) a.0 in
    let is : v ≡ node l (forest (piece T i (i + n) [])) = sym (same_tree (node l (forest (taken_out T i n))) v a.1) in
    remove_made l (set T k d) i n (omega (arith, length-set T k d))
    ∙ ap (λ ws. Ok (node l (forest ws))) (same le)
    ∙ ap (λ z. Ok z) (sym (with_in_node v l (piece T i (i + n) []) j d is))

pub remove_with_front : (s v d : WideTree) (i n k : ℕ) → removed s i n ≡ Ok v → k < length (children_of s) → k < i
    → removed (with_child_at s k d) i n ≡ Ok (with_child_at v k d)
remove_with_front (leaf text) v d i n k e lt front = absurd (omega arith)
remove_with_front (node l ts) v d i n k e lt front =
    remove_in l ts v d i n k k e (λ le. piece_before (trees ts) [] i (i + n) k d front (omega arith) (omega arith))

pub remove_with_back : (s v d : WideTree) (i n k : ℕ) → removed s i n ≡ Ok v → k < length (children_of s) → i + n ≤ k
    → removed (with_child_at s k d) i n ≡ Ok (with_child_at v (k - n) d)
remove_with_back (leaf text) v d i n k e lt back = absurd (omega arith)
remove_with_back (node l ts) v d i n k e lt back =
    remove_in l ts v d i n k (k - n) e
    (λ le. piece_behind (trees ts) [] i (i + n) k (k - n) d (omega arith) back (omega arith) (omega arith))

split_in : (l : List ℕ) (ts : Forest) (v d c : WideTree) (i j k n : ℕ) → split (node l ts) i j ≡ Ok v
    → slice_get (trees ts) i ≡ Some c → slice_get (set (trees ts) k d) i ≡ Some c
    → ((a b : WideTree) → piece (set (trees ts) k d) i (i + 1) (a ∷ b ∷ []) ≡ set (piece (trees ts) i (i + 1) (a ∷ b ∷ [])) n d)
    → split (with_child_at (node l ts) k d) i j ≡ Ok (with_child_at v n d)
split_in l ts v d c i j k n e was now same =
    let T : List WideTree = trees ts in
    let h = split_parts l ts v i j e in
    let child : h.child ≡ c = same_some h.child c (sym h.found ∙ was) in
    let ws : List WideTree = piece T i (i + 1) (tree_up_to h.child j ∷ tree_from h.child j ∷ []) in
    split_made l (set T k d) i j h.child (now ∙ ap (λ z. Some z) (sym child)) h.fits h.clean
    ∙ ap (λ zs. Ok (node l (forest zs))) (same (tree_up_to h.child j) (tree_from h.child j))
    ∙ ap (λ z. Ok z) (sym (with_in_node v l ws n d h.is))
  where
    same_some : (a b : WideTree) → ◌≡◌ {A = Option WideTree} (Some a) (Some b) → a ≡ b
    same_some a b g = cc

pub split_with_front : (s v d : WideTree) (i j k : ℕ) → split s i j ≡ Ok v → k < i
    → split (with_child_at s k d) i j ≡ Ok (with_child_at v k d)
split_with_front (leaf text) v d i j k e lt = absurd (cc)
split_with_front (node l ts) v d i j k e lt =
    let T : List WideTree = trees ts in
    let h = split_parts l ts v i j e in
    let within : i < length T = slice_get_within T i h.child h.found in
    split_in l ts v d h.child i j k k e h.found (get_of_set_other T k i d (λ z. omega (arith, z)) ∙ h.found)
    (λ a b. piece_before T (a ∷ b ∷ []) i (i + 1) k d lt (omega arith) (omega arith))

pub split_with_back : (s v d : WideTree) (i j k : ℕ) → split s i j ≡ Ok v → i < k
    → split (with_child_at s k d) i j ≡ Ok (with_child_at v (k + 1) d)
split_with_back (leaf text) v d i j k e lt = absurd (cc)
split_with_back (node l ts) v d i j k e lt =
    let T : List WideTree = trees ts in
    let h = split_parts l ts v i j e in
    let within : i < length T = slice_get_within T i h.child h.found in
    split_in l ts v d h.child i j k (k + 1) e h.found (get_of_set_other T k i d (λ z. omega (arith, z)) ∙ h.found)
    (λ a b. piece_behind T (a ∷ b ∷ []) i (i + 1) k (k + 1) d (omega arith) (omega arith) (omega arith) (omega arith))

join_in : (l : List ℕ) (ts : Forest) (v d : WideTree) (i k n : ℕ) → joined_at (node l ts) i ≡ Ok v
    → (k ≡ i → ⊥) → (k ≡ i + 1 → ⊥)
    → ((a : WideTree) → piece (set (trees ts) k d) i (i + 2) (a ∷ []) ≡ set (piece (trees ts) i (i + 2) (a ∷ [])) n d)
    → joined_at (with_child_at (node l ts) k d) i ≡ Ok (with_child_at v n d)
join_in l ts v d i k n e ne ne' same =
    let T : List WideTree = trees ts in
    let h = join_parts l ts v i e in
    let ws : List WideTree = piece T i (i + 2) (h.both ∷ []) in
    join_made l (set T k d) i h.left h.right h.both (get_of_set_other T k i d (λ z. ne (sym z)) ∙ h.first)
    (get_of_set_other T k (i + 1) d (λ z. ne' (sym z)) ∙ h.second) h.one
    ∙ ap (λ zs. Ok (node l (forest zs))) (same h.both)
    ∙ ap (λ z. Ok z) (sym (with_in_node v l ws n d h.is))

pub join_with_front : (s v d : WideTree) (i k : ℕ) → joined_at s i ≡ Ok v → k < i
    → joined_at (with_child_at s k d) i ≡ Ok (with_child_at v k d)
join_with_front (leaf text) v d i k e lt = absurd (cc)
join_with_front (node l ts) v d i k e lt =
    let T : List WideTree = trees ts in
    let h = join_parts l ts v i e in
    let within : i < length T = slice_get_within T i h.left h.first in
    join_in l ts v d i k k e (λ z. omega (arith, z)) (λ z. omega (arith, z))
    (λ a. piece_before T (a ∷ []) i (i + 2) k d lt (omega arith) (omega arith))

pub join_with_back : (s v d : WideTree) (i k : ℕ) → joined_at s i ≡ Ok v → i + 1 < k
    → joined_at (with_child_at s k d) i ≡ Ok (with_child_at v (k - 1) d)
join_with_back (leaf text) v d i k e lt = absurd (cc)
join_with_back (node l ts) v d i k e lt =
    let T : List WideTree = trees ts in
    let h = join_parts l ts v i e in
    let within : i < length T = slice_get_within T i h.left h.first in
    join_in l ts v d i k (k - 1) e (λ z. omega (arith, z)) (λ z. omega (arith, z))
    (λ a. piece_behind T (a ∷ []) i (i + 2) k (k - 1) d (omega arith) (omega arith) (omega arith) (omega arith))

pub label_with : (s v d : WideTree) (l : List ℕ) (k : ℕ) → labelled s l ≡ Ok v
    → labelled (with_child_at s k d) l ≡ Ok (with_child_at v k d)
label_with (leaf text) v d l k e = absurd (cc)
label_with (node m ts) v d l k e = ap (λ z. Ok (with_child_at z k d)) (same_tree (node l ts) v e)

pub wrap_with : (s x v y : WideTree) (i : ℕ) → wrapped s i x ≡ Ok v → wrapped y i x ≡ Ok (with_child_at v i y)
wrap_with s (leaf text) v y i e = absurd (cc)
wrap_with s (node l ts) v y i e =
    let T : List WideTree = trees ts in
    let a = ok_asked (leb i (length T)) (BadPlace (length T)) _ v e in
    let le : i ≤ length T = leb-true i (length T) a.0 in
    let is : v ≡ node l (forest (piece T i i (s ∷ []))) =
    sym (same_tree (node l (forest (put_in T i (s ∷ [])))) v a.1)
    ∙ ap (λ ws. node l (forest ws)) (put_in_is T (s ∷ []) i) in
    asked_ok (leb i (length T)) (BadPlace (length T)) _ a.0
    ∙ ap (λ ws. Ok (node l (forest ws)))
    (put_in_is T (y ∷ []) i ∙ piece_inside T (s ∷ []) i i i 0 y le (omega arith) (omega arith))
    ∙ ap (λ z. Ok z) (sym (with_in_node v l (piece T i i (s ∷ [])) i y is))

pub unwrap_with : (s v d : WideTree) (i : ℕ) → unwrapped s i ≡ Ok v → unwrapped (with_child_at s i d) i ≡ Ok d
unwrap_with (leaf text) v d i e = absurd (cc)
unwrap_with (node l ts) v d i e =
    let T : List WideTree = trees ts in
    let g = ok_got (λ c. Ok c) (BadPlace (length T)) (slice_get T i) v e in
    unwrap_is (node l (forest (set T i d))) l (set T i d) i d refl (get_of_set T i g.0 d g.1)

-- ---- a child that is split or joined, with another child of its own
