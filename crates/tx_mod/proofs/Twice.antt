-- What undoes the undoing of a modification is the modification itself.
use Rattle.std.proofs.Common.{◌≡◌, ℕ, ◌+◌, ◌<◌, ◌≤◌, leb, List, [], ◌∷◌, ◌++◌, length, take, drop, Some, Ok, refl, sym}
use Rattle.std.proofs.Common.{ap, ◌∙◌, length-drop, append_assoc, arith}
use Rattle.std.specs.Prelude.{slice_get, unwrap_or}
use Rattle.std.specs.Option.{option_map_or}
use Rattle.std.specs.Str.{bytes_eq}
use Rattle.std.proofs.lemmas.Bool.{leb-true}
use Rattle.std.proofs.lemmas.List.{take_at, drop_at, length-take-le}
use Rattle.std.proofs.lemmas.Slice.Eq.{bytes_eq-Decides}
use Rattle.std.proofs.lemmas.Option.{slice_get_within}
use Rattle.tx_tree.specs.Cuts.{is_cut}
use Rattle.tx_tree.specs.Paths.{subtree}
use Rattle.tx_tree.specs.WideTree.{WideTree, leaf, node, forest, trees, children_of, label_of}
use Rattle.tx_tree.proofs.Children.{trees_forest, forest_trees}
use Rattle.tx_mod.specs.declared.faults.ModFault.TheVariants.{NotNode, BadPlace, CutsSymbol}
use Rattle.tx_mod.specs.declared.mods.Mod.{Mod}
use Rattle.tx_mod.specs.declared.mods.Mod.TheVariants.{Assign, Insert, Remove, Split, Join, AssignNode, InsertNode}
use Rattle.tx_mod.specs.declared.mods.Mod.TheVariants.{RemoveNode}
use Rattle.tx_mod.specs.Mods.{path_of, tuple, put_in, taken_out, slice_of, extent, is_clean, tree_up_to, tree_from}
use Rattle.tx_mod.specs.Changes.{inserted, removed, split, split_child, labelled, wrapped, changed_at}
use Rattle.tx_mod.specs.Inverses.{removed_part, without_child, inverse_at, inverse_of}
use Rattle.tx_mod.specs.Sound.{IsMadeAgain}
use Rattle.tx_mod.proofs.Back.{ok_asked, ok_got, same_tree, get_at, put_taken, made_of, same_path}
use Rattle.tx_mod.proofs.Replacing.{subtree_of_replaced}

-- what was put in among others is the part there
part_put : {X : Type 0} (xs ys : List X) (i : ℕ) → i ≤ length xs → slice_of (put_in xs i ys) i (length ys) ≡ ys
part_put {X} xs ys i le =
    let front : length (take i xs) ≡ i = length-take-le {A = X} i xs le in
    ap (λ z. take (length ys) (drop i z)) (append_assoc (take i xs) ys (drop i xs))
    ∙ ap (take (length ys)) (drop_at (take i xs) (ys ++ drop i xs) i front)
    ∙ take_at ys (drop i xs) (length ys) refl

insert_again : (s x v : WideTree) (i : ℕ) → inserted s i x ≡ Ok v → removed_part v i (extent x) ≡ x
insert_again (leaf text) (leaf more) v i e =
    let a = ok_asked (leb i (length text)) (BadPlace (length text)) _ v e in
    let b = ok_asked (is_cut text i) (CutsSymbol i) _ v a.1 in
    ap (λ z. removed_part z i (length more)) (sym (same_tree (leaf (put_in text i more)) v b.1))
    ∙ ap leaf (part_put text more i (leb-true i (length text) a.0))
insert_again (leaf text) (node m us) v i e = absurd (cc)
insert_again (node l ts) (leaf more) v i e = absurd (cc)
insert_again (node l ts) (node m us) v i e =
    let a = ok_asked (bytes_eq m tuple) NotNode _ v e in
    let b = ok_asked (leb i (length (trees ts))) (BadPlace (length (trees ts))) _ v a.1 in
    let named : m ≡ tuple = (bytes_eq-Decides m tuple).0 a.0 in
    let ws : List WideTree = put_in (trees ts) i (trees us) in
    ap (λ z. removed_part z i (length (trees us))) (sym (same_tree (node l (forest ws)) v b.1))
    ∙ ap (λ zs. node tuple (forest (slice_of zs i (length (trees us))))) (trees_forest ws)
    ∙ ap (λ zs. node tuple (forest zs)) (part_put (trees ts) (trees us) i (leb-true i (length (trees ts)) b.0))
    ∙ ap (node tuple) (forest_trees us)
    ∙ ap (λ n. node n us) (sym named)

part_length : {X : Type 0} (xs : List X) (i n : ℕ) → i + n ≤ length xs → length (slice_of xs i n) ≡ n
part_length {X} xs i n le = length-take-le {A = X} n (drop i xs) (omega (arith, length-drop {A = X} i xs))

remove_again : (s v : WideTree) (i n : ℕ) → removed s i n ≡ Ok v → extent (removed_part s i n) ≡ n
remove_again (leaf text) v i n e = let a = ok_asked (leb (i + n) (length text)) (BadPlace (length text)) _ v e in
    part_length text i n (leb-true (i + n) (length text) a.0)
remove_again (node l ts) v i n e =
    let a = ok_asked (leb (i + n) (length (trees ts))) (BadPlace (length (trees ts))) _ v e in
    ap length (trees_forest (slice_of (trees ts) i n))
    ∙ part_length (trees ts) i n (leb-true (i + n) (length (trees ts)) a.0)

extent_before : (c : WideTree) (j : ℕ) → j ≤ extent c → extent (tree_up_to c j) ≡ j
extent_before (leaf text) j le = length-take-le j text le
extent_before (node l ts) j le = ap length (trees_forest (take j (trees ts))) ∙ length-take-le j (trees ts) le

split_again : (s v : WideTree) (i j : ℕ) → split s i j ≡ Ok v → option_map_or extent (slice_get (children_of v) i) 0 ≡ j
split_again (leaf text) v i j e = absurd (cc)
split_again (node l ts) v i j e =
    let T : List WideTree = trees ts in
    let g = ok_got (split_child l T i j) (BadPlace (length T)) (slice_get T i) v e in
    let c : WideTree = g.0 in
    let a = ok_asked (leb j (extent c)) (BadPlace (extent c)) _ v g.2 in
    let b = ok_asked (is_clean c j) (CutsSymbol j) _ v a.1 in
    let within : i < length T = slice_get_within T i c g.1 in
    let rest : List WideTree = tree_from c j ∷ drop (i + 1) T in
    let ws : List WideTree = take i T ++ tree_up_to c j ∷ rest in
    ap (λ z. option_map_or extent (slice_get (children_of z) i) 0) (sym (same_tree (node l (forest ws)) v b.1))
    ∙ ap (λ zs. option_map_or extent (slice_get zs i) 0) (trees_forest ws)
    ∙ ap (λ o. option_map_or extent o 0) (get_at (take i T) (tree_up_to c j) rest i (length-take-le i T (omega arith)))
    ∙ extent_before c j (leb-true j (extent c) a.0)

label_again : (s v : WideTree) (l : List ℕ) → labelled s l ≡ Ok v → unwrap_or (label_of v) [] ≡ l
label_again (leaf text) v l e = absurd (cc)
label_again (node m ts) v l e = ap (λ z. unwrap_or (label_of z) []) (sym (same_tree (node l ts) v e))

wrap_again : (s x v : WideTree) (i : ℕ) → wrapped s i x ≡ Ok v → without_child v i ≡ x
wrap_again s (leaf text) v i e = absurd (cc)
wrap_again s (node l ts) v i e =
    let T : List WideTree = trees ts in
    let a = ok_asked (leb i (length T)) (BadPlace (length T)) _ v e in
    let ws : List WideTree = put_in T i (s ∷ []) in
    ap (λ z. without_child z i) (sym (same_tree (node l (forest ws)) v a.1))
    ∙ ap (λ zs. node l (forest (taken_out zs i 1))) (trees_forest ws)
    ∙ ap (λ zs. node l (forest zs)) (put_taken T (s ∷ []) i (leb-true i (length T) a.0))
    ∙ ap (node l) (forest_trees ts)

again_at : (m : Mod) (s v : WideTree) → changed_at m s ≡ Ok v → inverse_at (inverse_at m s) v ≡ m
again_at (Assign p x) s v e = ap (Assign p) (sym (same_tree x v e))
again_at (Insert p i x) s v e = ap (Insert p i) (insert_again s x v i e)
again_at (Remove p i n) s v e = ap (Remove p i) (remove_again s v i n e)
again_at (Split p i j) s v e = ap (Split p i) (split_again s v i j e)
again_at (Join p i) s v e = refl
again_at (AssignNode p l) s v e = ap (AssignNode p) (label_again s v l e)
again_at (InsertNode p i x) s v e = ap (InsertNode p i) (wrap_again s x v i e)
again_at (RemoveNode p i) s v e = refl

pub made_again : (m : Mod) (t : WideTree) → IsMadeAgain m t
made_again m t u e =
    let d = made_of m t u e in
    let n : Mod = inverse_at m d.old in
    let first : inverse_of m t ≡ n = ap (λ o. option_map_or (inverse_at m) o m) d.found in
    let found : subtree u (path_of n) ≡ Some d.new =
    ap (subtree u) (same_path m d.old) ∙ ap (λ x. subtree x (path_of m)) d.is
    ∙ subtree_of_replaced (path_of m) t d.old d.new d.found in
    ap (λ k. inverse_of k u) first ∙ ap (λ o. option_map_or (inverse_at n) o n) found ∙ again_at m d.old d.new d.at
