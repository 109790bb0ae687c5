-- What a changed subtree is made of, kind by kind.
use Rattle.std.proofs.Common.{◌≡◌, ℕ, zero, suc, ◌+◌, ◌-◌, ◌<◌, ◌≤◌, true, leb, List, [], ◌∷◌, ◌++◌, length, take, drop}
use Rattle.std.proofs.Common.{Some, Ok, Err, refl, sym, ap, subst, ◌∙◌, length-append, arith}
use Rattle.std.specs.Prelude.{slice_get}
use Rattle.std.specs.Option.{option_map_or}
use Rattle.std.specs.Str.{bytes_eq}
use Rattle.std.proofs.lemmas.Bool.{leb-true}
use Rattle.std.proofs.lemmas.List.{length-take-le}
use Rattle.std.proofs.lemmas.Option.{slice_get_within}
use Rattle.tx_tree.specs.Paths.{subtree}
use Rattle.tx_tree.specs.WideTree.{WideTree, leaf, node, forest, trees, children_of}
use Rattle.tx_tree.proofs.Children.{trees_forest, forest_trees}
use Rattle.tx_tree.proofs.Walking.{step_down}
use Rattle.tx_mod.specs.declared.faults.ModFault.TheVariants.{NotNode, BadPlace, CutsSymbol}
use Rattle.tx_mod.specs.Mods.{tuple, put_in, taken_out, extent, is_clean, tree_up_to, tree_from}
use Rattle.tx_mod.specs.Changes.{inserted, removed, split, split_child, joined, joined_at, in_place_of_two, labelled}
use Rattle.tx_mod.specs.Changes.{wrapped, unwrapped}
use Rattle.tx_mod.specs.Moves.{child_or_self}
use Rattle.tx_mod.proofs.Replacing.{down}
use Rattle.tx_mod.proofs.Back.{ok_asked, ok_got, ok_two, same_tree}

-- ---- elements of lists

pub get_front : {X : Type 0} → (xs ys : List X) (k : ℕ) (x : X) → slice_get xs k ≡ Some x
    → slice_get (xs ++ ys) k ≡ Some x
get_front [] ys k x e = absurd (cc)
get_front (z ∷ xs) ys zero x e = e
get_front {X} (z ∷ xs) ys (suc k) x e = get_front {X = X} xs ys k x e

pub get_behind : {X : Type 0} → (xs ys : List X) (j k : ℕ) (x : X) → j ≡ length xs + k → slice_get ys k ≡ Some x
    → slice_get (xs ++ ys) j ≡ Some x
get_behind [] ys j k x e f = let same : k ≡ j = omega arith in subst (λ n. slice_get ys n ≡ Some x) same f
get_behind (z ∷ xs) ys zero k x e f = absurd (omega arith)
get_behind {X} (z ∷ xs) ys (suc j) k x e f = get_behind {X = X} xs ys j k x (omega arith) f

pub get_take : {X : Type 0} → (xs : List X) (i k : ℕ) (x : X) → slice_get xs k ≡ Some x → k < i
    → slice_get (take i xs) k ≡ Some x
get_take [] i k x e lt = absurd (cc)
get_take (z ∷ xs) zero k x e lt = absurd (omega arith)
get_take (z ∷ xs) (suc i) zero x e lt = e
get_take {X} (z ∷ xs) (suc i) (suc k) x e lt = get_take {X = X} xs i k x e (omega arith)

pub get_drop : {X : Type 0} → (xs : List X) (i k j : ℕ) (x : X) → slice_get xs k ≡ Some x → k ≡ i + j
    → slice_get (drop i xs) j ≡ Some x
get_drop [] i k j x e f = absurd (cc)
get_drop (z ∷ xs) zero k j x e f = let same : k ≡ j = omega arith in subst (λ n. slice_get (z ∷ xs) n ≡ Some x) same e
get_drop (z ∷ xs) (suc i) zero j x e f = absurd (omega arith)
get_drop {X} (z ∷ xs) (suc i) (suc k) j x e f = get_drop {X = X} xs i k j x e (omega arith)

-- a list that is put in among another
pub put_before : {X : Type 0} (xs ys : List X) (i k : ℕ) (x : X) → k < i → slice_get xs k ≡ Some x
    → slice_get (put_in xs i ys) k ≡ Some x
put_before {X} xs ys i k x lt e =
    get_front {X = X} (take i xs ++ ys) (drop i xs) k x
    (get_front {X = X} (take i xs) ys k x (get_take {X = X} xs i k x e lt))

pub put_behind : {X : Type 0} (xs ys : List X) (i k : ℕ) (x : X) → i ≤ k → slice_get xs k ≡ Some x
    → slice_get (put_in xs i ys) (k + length ys) ≡ Some x
put_behind {X} xs ys i k x le e =
    let within : k < length xs = slice_get_within {A = X} xs k x e in
    let front : length (take i xs) ≡ i = length-take-le {A = X} i xs (omega arith) in
    get_behind {X = X} (take i xs ++ ys) (drop i xs) (k + length ys) (k - i) x
    (omega (arith, front, length-append {A = X} (take i xs) ys)) (get_drop {X = X} xs i k (k - i) x e (omega arith))

pub left_before : {X : Type 0} (xs : List X) (i n k : ℕ) (x : X) → k < i → slice_get xs k ≡ Some x
    → slice_get (taken_out xs i n) k ≡ Some x
left_before {X} xs i n k x lt e = get_front {X = X} (take i xs) (drop (i + n) xs) k x (get_take {X = X} xs i k x e lt)

pub left_behind : {X : Type 0} (xs : List X) (i n k : ℕ) (x : X) → i + n ≤ k → slice_get xs k ≡ Some x
    → slice_get (taken_out xs i n) (k - n) ≡ Some x
left_behind {X} xs i n k x le e =
    let within : k < length xs = slice_get_within {A = X} xs k x e in
    let front : length (take i xs) ≡ i = length-take-le {A = X} i xs (omega arith) in
    get_behind {X = X} (take i xs) (drop (i + n) xs) (k - n) (k - (i + n)) x (omega arith)
    (get_drop {X = X} xs (i + n) k (k - (i + n)) x e (omega arith))

-- ---- children

pub child_in : (v : WideTree) (l : List ℕ) (ws : List WideTree) (j : ℕ) (c : WideTree) → v ≡ node l (forest ws)
    → slice_get ws j ≡ Some c → slice_get (children_of v) j ≡ Some c
child_in v l ws j c is e = ap (λ z. slice_get (children_of z) j) is ∙ ap (λ us. slice_get us j) (trees_forest ws) ∙ e

pub child_is : (s c : WideTree) (i : ℕ) → slice_get (children_of s) i ≡ Some c → child_or_self s i ≡ c
child_is s c i e = ap (λ o. option_map_or (λ z. z) o s) e

-- where a child is child j of another tree, paths below it lead to the same
pub child_stays : (s v : WideTree) (k j : ℕ) (u : List ℕ) (x : WideTree)
    → ((c : WideTree) → slice_get (children_of s) k ≡ Some c → slice_get (children_of v) j ≡ Some c)
    → subtree s (k ∷ u) ≡ Some x
    → subtree v (j ∷ u) ≡ Some x
child_stays s v k j u x f e = let d = down s k u x e in step_down v d.child j u (f d.child d.found) ∙ d.further

-- ---- kinds

pub record IsInserted (s x v : WideTree) (i : ℕ) : Type 0 where
  pub label : List ℕ
  pub there : i ≤ length (children_of s)
  pub many : extent x ≡ length (children_of x)
  pub is : v ≡ node label (forest (put_in (children_of s) i (children_of x)))

pub shape_inserted : (l : List ℕ) (ts : _) (x v : WideTree) (i : ℕ) → inserted (node l ts) i x ≡ Ok v
    → IsInserted (node l ts) x v i
shape_inserted l ts (leaf more) v i e = absurd (cc)
shape_inserted l ts (node m us) v i e =
    let a = ok_asked (bytes_eq m tuple) NotNode _ v e in
    let b = ok_asked (leb i (length (trees ts))) (BadPlace (length (trees ts))) _ v a.1 in
    record {
      label = l;
      there = leb-true i (length (trees ts)) b.0;
      many = refl;
      is = sym (same_tree (node l (forest (put_in (trees ts) i (trees us)))) v b.1);
    }

pub record IsRemoved (s v : WideTree) (i n : ℕ) : Type 0 where
  pub label : List ℕ
  pub there : i + n ≤ length (children_of s)
  pub is : v ≡ node label (forest (taken_out (children_of s) i n))

pub shape_removed : (l : List ℕ) (ts : _) (v : WideTree) (i n : ℕ) → removed (node l ts) i n ≡ Ok v
    → IsRemoved (node l ts) v i n
shape_removed l ts v i n e =
    let a = ok_asked (leb (i + n) (length (trees ts))) (BadPlace (length (trees ts))) _ v e in
    record {
      label = l;
      there = leb-true (i + n) (length (trees ts)) a.0;
      is = sym (same_tree (node l (forest (taken_out (trees ts) i n))) v a.1);
    }

pub record IsSplitAt (s v : WideTree) (i j : ℕ) : Type 0 where
  pub label : List ℕ
  pub child : WideTree
  pub found : slice_get (children_of s) i ≡ Some child
  pub fits : j ≤ extent child
  pub clean : is_clean child j ≡ true
  pub is : v ≡ node label
      (forest (take i (children_of s) ++ tree_up_to child j ∷ tree_from child j ∷ drop (i + 1) (children_of s)))

pub shape_split : (s v : WideTree) (i j : ℕ) → split s i j ≡ Ok v → IsSplitAt s v i j
shape_split (leaf text) v i j e = absurd (cc)
shape_split (node l ts) v i j e =
    let T : List WideTree = trees ts in
    let g = ok_got (split_child l T i j) (BadPlace (length T)) (slice_get T i) v e in
    let c : WideTree = g.0 in
    let a = ok_asked (leb j (extent c)) (BadPlace (extent c)) _ v g.2 in
    let b = ok_asked (is_clean c j) (CutsSymbol j) _ v a.1 in
    record {
      label = l;
      child = c;
      found = g.1;
      fits = leb-true j (extent c) a.0;
      clean = b.0;
      is = sym (same_tree (node l (forest (take i T ++ tree_up_to c j ∷ tree_from c j ∷ drop (i + 1) T))) v b.1);
    }

pub record IsJoinedAt (s v : WideTree) (i : ℕ) : Type 0 where
  pub label : List ℕ
  pub left : WideTree
  pub right : WideTree
  pub both : WideTree
  pub first : slice_get (children_of s) i ≡ Some left
  pub second : slice_get (children_of s) (i + 1) ≡ Some right
  pub one : joined left right ≡ Ok both
  pub is : v ≡ node label (forest (take i (children_of s) ++ both ∷ drop (i + 2) (children_of s)))

pub shape_joined : (s v : WideTree) (i : ℕ) → joined_at s i ≡ Ok v → IsJoinedAt s v i
shape_joined (leaf text) v i e = absurd (cc)
shape_joined (node l ts) v i e =
    let T : List WideTree = trees ts in
    let g = ok_got
    (λ a. option_map_or (λ b. in_place_of_two l T i (joined a b)) (slice_get T (i + 1)) (Err (BadPlace (length T))))
    (BadPlace (length T)) (slice_get T i) v e in
    let a : WideTree = g.0 in
    let k = ok_got (λ b. in_place_of_two l T i (joined a b)) (BadPlace (length T)) (slice_get T (i + 1)) v g.2 in
    let b : WideTree = k.0 in
    let t = ok_two l T i (joined a b) v k.2 in
    record { label = l; left = a; right = b; both = t.0; first = g.1; second = k.1; one = t.1; is = sym t.2 }

pub shape_labelled : (s v : WideTree) (l : List ℕ) → labelled s l ≡ Ok v → v ≡ node l (forest (children_of s))
shape_labelled (leaf text) v l e = absurd (cc)
shape_labelled (node m ts) v l e = sym (same_tree (node l ts) v e) ∙ ap (node l) (sym (forest_trees ts))

pub shape_wrapped : (s x v : WideTree) (i : ℕ) → wrapped s i x ≡ Ok v → slice_get (children_of v) i ≡ Some s
shape_wrapped s (leaf text) v i e = absurd (cc)
shape_wrapped s (node l ts) v i e =
    let T : List WideTree = trees ts in
    let a = ok_asked (leb i (length T)) (BadPlace (length T)) _ v e in
    let front : length (take i T) ≡ i = length-take-le i T (leb-true i (length T) a.0) in
    child_in v l (put_in T i (s ∷ [])) i s (sym (same_tree (node l (forest (put_in T i (s ∷ [])))) v a.1))
    (get_front (take i T ++ s ∷ []) (drop i T) i s (get_behind (take i T) (s ∷ []) i 0 s (omega arith) refl))

pub shape_unwrapped : (s v : WideTree) (i : ℕ) → unwrapped s i ≡ Ok v → slice_get (children_of s) i ≡ Some v
shape_unwrapped (leaf text) v i e = absurd (cc)
shape_unwrapped (node l ts) v i e =
    let g = ok_got (λ c. Ok c) (BadPlace (length (trees ts))) (slice_get (trees ts) i) v e in
    g.1 ∙ ap (λ z. Some z) (same_tree g.0 v g.2)
