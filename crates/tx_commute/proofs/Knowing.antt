-- Modifications with their inverses are taken past each other as the modifications are, and still have their inverses.
use Rattle.std.proofs.Common.{◌≡◌, ℕ, ◌+◌, ◌-◌, leb, ◌<◌, ◌≤◌, Bool, true, false, List, [], ◌∷◌, ◌++◌, length, Option, Some, None, Ok}
use Rattle.std.proofs.Common.{refl, sym, ap, subst, ◌∙◌, arith}
use Rattle.std.specs.Prelude.{if◌then◌else◌, option_and_then, option_map, is_some, slice_get}
use Rattle.std.specs.Option.{option_map_or}
use Rattle.std.specs.Str.{bytes_eq}
use Rattle.std.proofs.lemmas.Option.{slice_get_within}
use Rattle.std.proofs.lemmas.Slice.Eq.{bytes_eq-Decides}
use Rattle.tx_tree.specs.Paths.{subtree}
use Rattle.tx_tree.specs.WideTree.{WideTree, leaf, node, trees, children_of}
use Rattle.tx_mod.specs.declared.mods.Mod.{Mod}
use Rattle.tx_mod.specs.declared.mods.Mod.TheVariants.{Assign, Insert, Remove, Split, Join, AssignNode, InsertNode}
use Rattle.tx_mod.specs.declared.mods.Mod.TheVariants.{RemoveNode}
use Rattle.tx_mod.specs.Mods.{path_of, extent, tree_up_to, tree_from, replaced}
use Rattle.tx_mod.specs.Changes.{split, changed, changed_at}
use Rattle.tx_mod.specs.Inverses.{inverse_at, inverse_of}
use Rattle.tx_mod.specs.Moves.{rest_behind, child_or_self, carried_by_join, carried_at, carried_path}
use Rattle.tx_mod.specs.Sound.{IsSoundMod}
use Rattle.tx_mod.proofs.Back.{same_path}
use Rattle.tx_mod.proofs.Replacing.{subtree_of_replaced, replaced_again, replaced_by_same}
use Rattle.tx_mod.proofs.Shapes.{child_is, shape_joined}
use Rattle.tx_commute.specs.declared.known.Known.{Known}
use Rattle.tx_commute.specs.Free.{freely}
use Rattle.tx_commute.specs.Pasts.{Pair, at_path, or_else, insert_past, remove_past, by_table, past_from, past}
use Rattle.tx_commute.specs.Knowing.{IsKnown, cut_of, place_of, at_place, carried_at_by, carried_by, known_at, known_by}
use Rattle.tx_commute.specs.Knowing.{KnownPair, past_known, AreKnown, known_put, insert_places, remove_places, places}
use Rattle.tx_commute.proofs.Came.{kids_are, front_extent}
use Rattle.tx_commute.proofs.Law.{path_of_at, same_change, made_at}
use Rattle.tx_commute.proofs.Made.{split_parts}
use Rattle.tx_commute.proofs.Passing.{passing, came}
use Rattle.tx_commute.proofs.Pieces.{piece, get_inside}
use Rattle.tx_commute.proofs.Routes.{free_of, free_changed}
use Rattle.tx_commute.proofs.Tables.{Both, table_rows}
use Rattle.tx_commute.proofs.Undoing.{inverse_is_at, inverse_stays}

-- ---- paths are carried by what is known

carried_at_known : (m : Mod) (s v : WideTree) (r : List ℕ) → changed_at m s ≡ Ok v
    → carried_at_by m (inverse_at m s) r ≡ carried_at m s r
carried_at_known (Assign p x) s v r e = refl
carried_at_known (Insert p i x) s v r e = refl
carried_at_known (Remove p i n) s v r e = refl
carried_at_known (Split p i j) s v r e = refl
carried_at_known (Join p i) s v r e =
    let h = shape_joined s v i e in
    ap (λ n. carried_by_join i n r) (ap (λ o. option_map_or extent o 0) h.first ∙ sym (ap extent (child_is s h.left i h.first)))
carried_at_known (AssignNode p l) s v r e = refl
carried_at_known (InsertNode p i x) s v r e = refl
carried_at_known (RemoveNode p i) s v r e = refl

split_extent : (s v : WideTree) (i j : ℕ) → split s i j ≡ Ok v → extent (child_or_self v i) ≡ j
split_extent (leaf text) v i j e = absurd (cc)
split_extent (node l ts) v i j e =
    let T : List WideTree = trees ts in
    let h = split_parts l ts v i j e in
    let c : WideTree = h.child in
    let two : List WideTree = tree_up_to c j ∷ tree_from c j ∷ [] in
    let inside : i < length T = slice_get_within T i c h.found in
    let first : slice_get (children_of v) i ≡ Some (tree_up_to c j) =
    ap (λ w. slice_get w i) (kids_are v l (piece T i (i + 1) two) h.is)
    ∙ get_inside T two i (i + 1) i 0 (omega arith) (omega arith) (omega arith) in
    ap extent (child_is v (tree_up_to c j) i first) ∙ front_extent c j h.fits

carried_back_known : (m : Mod) (s v : WideTree) (r : List ℕ) → changed_at m s ≡ Ok v
    → carried_at_by (inverse_at m s) m r ≡ carried_at (inverse_at m s) v r
carried_back_known (Assign p x) s v r e = refl
carried_back_known (Insert p i x) s v r e = refl
carried_back_known (Remove p i n) s v r e = refl
carried_back_known (Split p i j) s v r e = ap (λ n. carried_by_join i n r) (sym (split_extent s v i j e))
carried_back_known (Join p i) s v r e = refl
carried_back_known (AssignNode p l) s v r e = refl
carried_back_known (InsertNode p i x) s v r e = refl
carried_back_known (RemoveNode p i) s v r e = refl

carried_same : (m undo : Mod) (t s : WideTree) (q : List ℕ) → subtree t (path_of m) ≡ Some s
    → ((r : List ℕ) → carried_at_by m undo r ≡ carried_at m s r) → carried_by m undo q ≡ carried_path m t q
carried_same m undo t s q f h =
    by_rest (rest_behind (path_of m) q)
    ∙ sym (ap (λ o.
    option_map_or (λ x. option_map_or (λ r. option_map (λ v. path_of m ++ v) (carried_at m x r)) (rest_behind (path_of m) q)
    (if is_some (rest_behind q (path_of m)) then None else Some q)) o None) f)
  where
    other : Option (List ℕ)
    other = if is_some (rest_behind q (path_of m)) then None else Some q

    by_rest : (o : Option (List ℕ)) → option_map_or (λ r. option_map (λ v. path_of m ++ v) (carried_at_by m undo r)) o other
        ≡ option_map_or (λ r. option_map (λ v. path_of m ++ v) (carried_at m s r)) o other
    by_rest None = refl
    by_rest (Some r) = ap (option_map (λ v. path_of m ++ v)) (h r)

-- ---- pairs agree

inverse_at_path : (m : Mod) (s : WideTree) (q : List ℕ) → inverse_at (at_path m q) s ≡ at_path (inverse_at m s) q
inverse_at_path (Assign p x) s q = refl
inverse_at_path (Insert p i x) s q = refl
inverse_at_path (Remove p i n) s q = refl
inverse_at_path (Split p i j) s q = refl
inverse_at_path (Join p i) s q = refl
inverse_at_path (AssignNode p l) s q = refl
inverse_at_path (InsertNode p i x) s q = refl
inverse_at_path (RemoveNode p i) s q = refl

-- the inverse at another path where the same subtree is
inverse_elsewhere : (m : Mod) (t s : WideTree) (q : List ℕ) → subtree t q ≡ Some s
    → inverse_of (at_path m q) t ≡ at_path (inverse_at m s) q
inverse_elsewhere m t s q f =
    inverse_is_at (at_path m q) t s (ap (subtree t) (path_of_at m q) ∙ f) ∙ inverse_at_path m s q

-- known pairs are pairs, and known
abbrev pub Agree : WideTree → Option KnownPair → Option Pair → Type 0
Agree t None None = Unit {0}
Agree t None (Some r) = ⊥
Agree t (Some k) None = ⊥
Agree t (Some k) (Some r) = (k.0.does ≡ r.0) × (k.1.does ≡ r.1) × AreKnown t k.0 k.1

agree_else : (t : WideTree) (o n : Option KnownPair) (o' n' : Option Pair) → Agree t o o' → Agree t n n'
    → Agree t (or_else o n) (or_else o' n')
agree_else t None n None n' h k = k
agree_else t None n (Some r) n' h k = absurd h
agree_else t (Some x) n None n' h k = absurd h
agree_else t (Some x) n (Some r) n' h k = h

agree_map : (t : WideTree) (f : List ℕ → KnownPair) (g : List ℕ → Pair) (o o' : Option (List ℕ)) → o ≡ o'
    → ((r : List ℕ) → o' ≡ Some r → Agree t (Some (f r)) (Some (g r))) → Agree t (option_map f o) (option_map g o')
agree_map t f g o None e h = subst (λ w. Agree t (option_map f w) None) (sym e) tt
agree_map t f g o (Some r) e h = subst (λ w. Agree t (option_map f w) (Some (g r))) (sym e) (h r refl)

-- places agree with the table
abbrev Placed : Mod → Mod → Option (ℕ × ℕ) → Option Pair → Type 0
Placed a b None None = Unit {0}
Placed a b None (Some r) = ⊥
Placed a b (Some p) None = ⊥
Placed a b (Some p) (Some r) = (r.0 ≡ at_place b p.0) × (r.1 ≡ at_place a p.1) × (place_of r.0 ≡ p.0) × (place_of r.1 ≡ p.1)

placed_test : (a b : Mod) (c : Bool) (o n : Option (ℕ × ℕ)) (o' n' : Option Pair) → Placed a b o o' → Placed a b n n'
    → Placed a b (if c then o else n) (if c then o' else n')
placed_test a b true o n o' n' h k = h
placed_test a b false o n o' n' h k = k

insert_placed : (p : List ℕ) (i : ℕ) (x : WideTree) (b : Mod)
    → Placed (Insert p i x) b (insert_places i (extent x) b) (insert_past p i x b)
insert_placed p i x (Assign q y) = tt
insert_placed p i x (Insert q j y) =
    placed_test (Insert p i x) (Insert q j y) (leb j i) (Some (j, i + extent y)) _ _ _ (refl, refl, refl, refl)
    (placed_test (Insert p i x) (Insert q j y) (leb (i + extent x) j) (Some (j - extent x, i)) None _ None
    (refl, refl, refl, refl) tt)
insert_placed p i x (Remove q j m) =
    placed_test (Insert p i x) (Remove q j m) (leb (j + m) i) (Some (j, i - m)) _ _ _ (refl, refl, refl, refl)
    (placed_test (Insert p i x) (Remove q j m) (leb (i + extent x) j) (Some (j - extent x, i)) None _ None
    (refl, refl, refl, refl) tt)
insert_placed p i x (Split q j k) = tt
insert_placed p i x (Join q j) = tt
insert_placed p i x (AssignNode q l) = tt
insert_placed p i x (InsertNode q j y) = tt
insert_placed p i x (RemoveNode q j) = tt

remove_placed : (p : List ℕ) (i n : ℕ) (b : Mod) → Placed (Remove p i n) b (remove_places i n b) (remove_past p i n b)
remove_placed p i n (Assign q y) = tt
remove_placed p i n (Insert q j y) =
    placed_test (Remove p i n) (Insert q j y) (leb j i) (Some (j, i + extent y)) (Some (j + n, i)) _ _
    (refl, refl, refl, refl) (refl, refl, refl, refl)
remove_placed p i n (Remove q j m) =
    placed_test (Remove p i n) (Remove q j m) (leb (j + m) i) (Some (j, i - m)) _ _ _ (refl, refl, refl, refl)
    (placed_test (Remove p i n) (Remove q j m) (leb i j) (Some (j + n, i)) None _ None (refl, refl, refl, refl) tt)
remove_placed p i n (Split q j k) = tt
remove_placed p i n (Join q j) = tt
remove_placed p i n (AssignNode q l) = tt
remove_placed p i n (InsertNode q j y) = tt
remove_placed p i n (RemoveNode q j) = tt

placed : (a b : Mod) → Placed a b (places a b) (by_table a b)
placed (Assign p x) b = tt
placed (Insert p i x) b = insert_placed p i x b
placed (Remove p i n) b = remove_placed p i n b
placed (Split p i j) b = tt
placed (Join p i) b = tt
placed (AssignNode p l) b = tt
placed (InsertNode p i x) b = tt
placed (RemoveNode p i) b = tt

abbrev same_known : Mod → Mod → Known
same_known m n = record { does = m; undoes = n }

agree_table : (t : WideTree) (a b : Known) (o : Option (ℕ × ℕ)) (o' : Option Pair) → Placed a.does b.does o o'
    → ((r : Pair) → o' ≡ Some r → AreKnown t (known_by b r.0) (known_by a r.1))
    → Agree t (option_map (λ p. (known_put b p.0, known_put a p.1)) o) o'
agree_table t a b None None j h = tt
agree_table t a b None (Some r) j h = absurd j
agree_table t a b (Some p) None j h = absurd j
agree_table t a b (Some p) (Some r) j h =
    let first : known_by b r.0 ≡ known_put b p.0 =
    ap (λ m. same_known m (at_place b.undoes (place_of r.0))) j.0
    ∙ ap (λ n. same_known (at_place b.does p.0) (at_place b.undoes n)) j.2 in
    let second : known_by a r.1 ≡ known_put a p.1 =
    ap (λ m. same_known m (at_place a.undoes (place_of r.1))) j.1
    ∙ ap (λ n. same_known (at_place a.does p.1) (at_place a.undoes n)) j.3 in (
      sym j.0,
      sym j.1,
      subst (λ k. AreKnown t k (known_put a p.1)) first (subst (λ k. AreKnown t (known_by b r.0) k) second (h r refl)),
    )

agree_test : (t : WideTree) (c : Bool) (o : Option KnownPair) (o' : Option Pair) → (c ≡ true → Agree t o o')
    → Agree t (if c then o else None) (if c then o' else None)
agree_test t true o o' h = h refl
agree_test t false o o' h = tt

pub same_free : (m : Mod) (t u v : WideTree) → freely m t ≡ Some u → freely m t ≡ Some v → u ≡ v
same_free m t u v e f = same_some u v (sym e ∙ f)
  where
    same_some : (x y : WideTree) → ◌≡◌ {A = Option WideTree} (Some x) (Some y) → x ≡ y
    same_some x y k = cc

pub known_agrees : (t u v : WideTree) (a b : Known) → IsSoundMod a.does → IsSoundMod b.does → freely a.does t ≡ Some u
    → freely b.does u ≡ Some v → IsKnown a t → IsKnown b u → Agree t (past_known a b) (past t a.does b.does)
known_agrees t u v a b h h' e f ka kb =
    let m : Mod = a.does in
    let n : Mod = b.does in
    let da = free_of m t u e in
    let db = free_of n u v f in
    let there : subtree u (path_of m) ≡ Some da.new =
    ap (λ w. subtree w (path_of m)) da.is ∙ subtree_of_replaced (path_of m) t da.old da.new da.found in
    let back : replaced u (path_of m) da.old ≡ t =
    ap (λ w. replaced w (path_of m) da.old) da.is ∙ replaced_again (path_of m) t da.old da.new da.old da.found
    ∙ replaced_by_same (path_of m) t da.old da.found in
    let ia : a.undoes ≡ inverse_at m da.old = ka ∙ inverse_is_at m t da.old da.found in
    let ib : b.undoes ≡ inverse_at n db.old = kb ∙ inverse_is_at n u db.old db.found in
    let first : carried_by n b.undoes (path_of m) ≡ carried_path n u (path_of m) =
    carried_same n b.undoes u db.old (path_of m) db.found
    (λ r. ap (λ w. carried_at_by n w r) ib ∙ carried_at_known n db.old db.new r db.at) in
    let second : carried_by a.undoes m (path_of n) ≡ carried_path (inverse_of m t) u (path_of n) =
    ap (λ w. carried_by w m (path_of n)) ia
    ∙ carried_same (inverse_at m da.old) m u da.new (path_of n) (ap (subtree u) (same_path m da.old) ∙ there)
    (λ r. carried_back_known m da.old da.new r da.at)
    ∙ ap (λ w. carried_path w u (path_of n)) (sym (inverse_is_at m t da.old da.found)) in
    subst (λ w. Agree t (past_known a b) w) (sym (ap (option_and_then (λ w. past_from t w m n)) e))
    (agree_else t _ _ _ _
    (agree_map t (λ p. (b, known_at a p)) (λ p. (n, at_path m p)) (carried_by n b.undoes (path_of m))
    (carried_path n u (path_of m)) first
    (λ r k. (refl, refl, carried da.old da.new db.old r ia there back db.found k)))
    (agree_else t _ _ _ _
    (agree_map t (λ q. (known_at b q, a)) (λ q. (at_path n q, m)) (carried_by a.undoes m (path_of n))
    (carried_path (inverse_of m t) u (path_of n)) second
    (λ r k. (refl, refl, carried_back da.old db.old db.new r ib da.found db.found db.at k)))
    (agree_test t (bytes_eq (path_of m) (path_of n)) _ (by_table m n)
    (λ c. agree_table t a b (places m n) (by_table m n) (placed m n)
    (λ r k. at_same da.old da.new db.old db.new ((bytes_eq-Decides (path_of m) (path_of n)).0 c) ia ib da.found da.at there
    db.found db.at r k)))))
  where
    carried : (s x z : WideTree) (r : List ℕ) → a.undoes ≡ inverse_at a.does s → subtree u (path_of a.does) ≡ Some x
        → replaced u (path_of a.does) s ≡ t → subtree u (path_of b.does) ≡ Some z
        → carried_path b.does u (path_of a.does) ≡ Some r → AreKnown t b (known_at a r)
    carried s x z r ia there back found k =
        let c = passing b.does u v x s (path_of a.does) r f there k in
        let middle : WideTree = replaced v r s in
        let made : freely b.does t ≡ Some middle = ap (freely b.does) (sym back) ∙ c.made in
        record {
          first = kb ∙ sym (inverse_stays b.does u z s x (path_of a.does) r found there k) ∙ ap (inverse_of b.does) back;
          second = λ w g.
              ap (λ y. at_path y r) ia
              ∙ sym (inverse_elsewhere a.does middle s r (subtree_of_replaced r v x s c.there))
              ∙ ap (inverse_of (at_path a.does r)) (same_free b.does t middle w made g);
        }

    carried_back : (s z y : WideTree) (r : List ℕ) → b.undoes ≡ inverse_at b.does z → subtree t (path_of a.does) ≡ Some s
        → subtree u (path_of b.does) ≡ Some z → changed_at b.does z ≡ Ok y
        → carried_path (inverse_of a.does t) u (path_of b.does) ≡ Some r → AreKnown t (known_at b r) a
    carried_back s z y r ib found there at k =
        let c = came a.does t u z (path_of b.does) r e there k in
        let made : freely (at_path b.does r) t ≡ Some (replaced t r y) =
        made_at (at_path b.does r) t z y r (path_of_at b.does r) c.0 (same_change b.does r z ∙ at) in
        record {
          first = ap (λ w. at_path w r) ib ∙ sym (inverse_elsewhere b.does t z r c.0);
          second = λ w g.
              ka ∙ sym (inverse_stays a.does t s y z r (path_of b.does) found c.0 c.1)
              ∙ ap (inverse_of a.does) (same_free (at_path b.does r) t (replaced t r y) w made g);
        }

    same_some : (x y : WideTree) → ◌≡◌ {A = Option WideTree} (Some x) (Some y) → x ≡ y
    same_some x y k = cc

    at_same : (s x z y : WideTree) → path_of a.does ≡ path_of b.does → a.undoes ≡ inverse_at a.does s
        → b.undoes ≡ inverse_at b.does z → subtree t (path_of a.does) ≡ Some s → changed_at a.does s ≡ Ok x
        → subtree u (path_of a.does) ≡ Some x → subtree u (path_of b.does) ≡ Some z → changed_at b.does z ≡ Ok y
        → (r : Pair) → by_table a.does b.does ≡ Some r → AreKnown t (known_by b r.0) (known_by a r.1)
    at_same s x z y same ia ib found at there found' at' r k =
        let p : List ℕ = path_of a.does in
        let one : z ≡ x = same_some z x (sym found' ∙ ap (subtree u) (sym same) ∙ there) in
        let row = table_rows a.does b.does s x y h h' at (ap (changed_at b.does) (sym one) ∙ at') r.0 r.1 k in
        let both : Both s x a.does b.does r.0 r.1 y = row.0 in
        let middle : WideTree = replaced t p both.middle in
        let made : freely r.0 t ≡ Some middle = made_at r.0 t s both.middle p (row.1 ∙ sym same) found both.first in
        record {
          first = ap (λ w. at_place w (place_of r.0)) (ib ∙ ap (inverse_at b.does) one) ∙ sym both.back_first
              ∙ sym (inverse_is_at r.0 t s (ap (subtree t) (row.1 ∙ sym same) ∙ found));
          second = λ w g.
              ap (λ n. at_place n (place_of r.1)) ia ∙ sym both.back_second
              ∙ sym (inverse_is_at r.1 middle both.middle
              (ap (subtree middle) row.2 ∙ subtree_of_replaced p t s both.middle found))
              ∙ ap (inverse_of r.1) (same_free r.0 t middle w made g);
        }

-- ---- the pair of two modifications

pairs_agree : (t : WideTree) (o : Option KnownPair) (o' : Option Pair) → Agree t o o'
    → option_map (λ r. (r.0.does, r.1.does)) o ≡ o'
pairs_agree t None None h = refl
pairs_agree t None (Some r) h = absurd h
pairs_agree t (Some k) None h = absurd h
pairs_agree t (Some k) (Some r) h = ap (λ m. Some (m, k.1.does)) h.0 ∙ ap (λ m. Some (r.0, m)) h.1

pub pair_of : (t u v : WideTree) (m n : Mod) (a b : Known) → changed m t ≡ Ok u → changed n u ≡ Ok v → IsSoundMod m
    → IsSoundMod n → a.does ≡ m → b.does ≡ n → a.undoes ≡ inverse_of m t → b.undoes ≡ inverse_of n u
    → option_map (λ r. (r.0.does, r.1.does)) (past_known a b) ≡ past t m n
pair_of t u v m n a b e f h k ia ib ja jb =
    pairs_agree t (past_known a b) (past t m n)
    (subst (λ x. Agree t (past_known a b) (past t x n)) ia
    (subst (λ x. Agree t (past_known a b) (past t a.does x)) ib
    (known_agrees t u v a b (subst IsSoundMod (sym ia) h) (subst IsSoundMod (sym ib) k)
    (ap (λ x. freely x t) ia ∙ free_changed m t u e) (ap (λ x. freely x u) ib ∙ free_changed n u v f)
    (ja ∙ ap (λ x. inverse_of x t) (sym ia)) (jb ∙ ap (λ x. inverse_of x u) (sym ib)))))
