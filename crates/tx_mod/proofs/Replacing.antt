-- A tree in which the subtree of a path is replaced.
use Rattle.std.proofs.Common.{◌≡◌, ℕ, zero, suc, ◌+◌, ◌≤◌, max, List, [], ◌∷◌, take, drop, set, Some, refl, sym, ap}
use Rattle.std.proofs.Common.{◌∙◌, arith}
use Rattle.std.specs.Prelude.{slice_get}
use Rattle.std.specs.Option.{option_map_or}
use Rattle.std.proofs.lemmas.Option.{option_and_then_some}
use Rattle.tx_tree.specs.Paths.{subtree}
use Rattle.tx_tree.specs.WideTree.{WideTree, Forest, leaf, node, nil, cons, forest, trees, children_of, size_of}
use Rattle.tx_tree.specs.WideTree.{total_size, depth_of, deepest, arity_of, widest, count, text_length_of, longest_text}
use Rattle.tx_tree.proofs.Children.{trees_forest, forest_trees}
use Rattle.tx_tree.proofs.Walking.{step_down}
use Rattle.tx_mod.specs.Mods.{with_child_at, replaced}
use Rattle.tx_mod.proofs.Lists.{get_of_set, get_of_set_other, set_to_same, total_size_of_set, deepest_of_set}
use Rattle.tx_mod.proofs.Lists.{longest_text_of_set, text_length_in_set, widest_of_set, arity_in_set, count_of_set}

-- a path that leads goes to a child first
pub record IsDown (t : WideTree) (i : ℕ) (path : List ℕ) (s : WideTree) : Type 0 where
  pub child : WideTree
  pub found : slice_get (children_of t) i ≡ Some child
  pub further : subtree child path ≡ Some s

pub down : (t : WideTree) (i : ℕ) (path : List ℕ) (s : WideTree) → subtree t (i ∷ path) ≡ Some s → IsDown t i path s
down t i path s e =
    option_and_then_some (λ u. subtree u path) (slice_get (children_of t) i) s e
    (λ c f g. record { child = c; found = f; further = g })

pub replaced_down : (t c : WideTree) (i : ℕ) (path : List ℕ) (u : WideTree) → slice_get (children_of t) i ≡ Some c
    → replaced t (i ∷ path) u ≡ with_child_at t i (replaced c path u)
replaced_down t c i path u e = ap (λ o. option_map_or (λ x. with_child_at t i (replaced x path u)) o t) e

-- ---- a tree with another child

pub child_of_with : (t c v : WideTree) (i : ℕ) → slice_get (children_of t) i ≡ Some c
    → slice_get (children_of (with_child_at t i v)) i ≡ Some v
child_of_with (leaf text) c v i e = absurd (cc)
child_of_with (node l ts) c v i e = ap (λ us. slice_get us i) (trees_forest (set (trees ts) i v))
    ∙ get_of_set (trees ts) i c v e

pub other_child_of_with : (t v : WideTree) (i j : ℕ) → (j ≡ i → ⊥)
    → slice_get (children_of (with_child_at t i v)) j ≡ slice_get (children_of t) j
other_child_of_with (leaf text) v i j h = refl
other_child_of_with (node l ts) v i j h = ap (λ us. slice_get us j) (trees_forest (set (trees ts) i v))
    ∙ get_of_set_other (trees ts) i j v h

set_set : {X : Type 0} → (xs : List X) (i : ℕ) (x y : X) → set (set xs i x) i y ≡ set xs i y
set_set [] i x y = refl
set_set (z ∷ xs) zero x y = refl
set_set {X} (z ∷ xs) (suc i) x y = ap (λ w. z ∷ w) (set_set {X = X} xs i x y)

pub with_with_child : (t v w : WideTree) (i : ℕ) → with_child_at (with_child_at t i v) i w ≡ with_child_at t i w
with_with_child (leaf text) v w i = refl
with_with_child (node l ts) v w i = ap (λ us. node l (forest (set us i w))) (trees_forest (set (trees ts) i v))
    ∙ ap (λ us. node l (forest us)) (set_set (trees ts) i v w)

pub with_same_child : (t c : WideTree) (i : ℕ) → slice_get (children_of t) i ≡ Some c → with_child_at t i c ≡ t
with_same_child (leaf text) c i e = refl
with_same_child (node l ts) c i e = ap (λ us. node l (forest us)) (set_to_same (trees ts) i c e)
    ∙ ap (node l) (forest_trees ts)

-- ---- a tree with another subtree at a path

pub subtree_of_replaced : (path : List ℕ) (t s u : WideTree) → subtree t path ≡ Some s
    → subtree (replaced t path u) path ≡ Some u
subtree_of_replaced [] t s u e = refl
subtree_of_replaced (i ∷ path) t s u e =
    let d = down t i path s e in
    ap (λ x. subtree x (i ∷ path)) (replaced_down t d.child i path u d.found)
    ∙ step_down (with_child_at t i (replaced d.child path u)) (replaced d.child path u) i path
    (child_of_with t d.child (replaced d.child path u) i d.found)
    ∙ subtree_of_replaced path d.child s u d.further

pub replaced_again : (path : List ℕ) (t s u v : WideTree) → subtree t path ≡ Some s
    → replaced (replaced t path u) path v ≡ replaced t path v
replaced_again [] t s u v e = refl
replaced_again (i ∷ path) t s u v e =
    let d = down t i path s e in
    let c : WideTree = replaced d.child path u in
    ap (λ x. replaced x (i ∷ path) v) (replaced_down t d.child i path u d.found)
    ∙ replaced_down (with_child_at t i c) c i path v (child_of_with t d.child c i d.found)
    ∙ with_with_child t c (replaced c path v) i
    ∙ ap (with_child_at t i) (replaced_again path d.child s u v d.further)
    ∙ sym (replaced_down t d.child i path v d.found)

pub replaced_by_same : (path : List ℕ) (t s : WideTree) → subtree t path ≡ Some s → replaced t path s ≡ t
replaced_by_same [] t s e = let same : t ≡ s = cc in sym same
replaced_by_same (i ∷ path) t s e =
    let d = down t i path s e in
    replaced_down t d.child i path s d.found ∙ ap (with_child_at t i) (replaced_by_same path d.child s d.further)
    ∙ with_same_child t d.child i d.found

-- ---- numbers of a tree with another child

size_with : (t c v : WideTree) (i : ℕ) → slice_get (children_of t) i ≡ Some c
    → size_of (with_child_at t i v) + size_of c ≡ size_of t + size_of v
size_with (leaf text) c v i e = absurd (cc)
size_with (node l ts) c v i e = omega (arith, total_size_of_set (trees ts) i c v e, ap total_size (forest_trees ts))

-- the depth of the children but one
abbrev pub aside : WideTree → ℕ → ℕ
aside t i = max (deepest (forest (take i (children_of t)))) (deepest (forest (drop (i + 1) (children_of t))))

pub depth_with : (t c v : WideTree) (i : ℕ) → slice_get (children_of t) i ≡ Some c
    → depth_of (with_child_at t i v) ≡ 1 + max (aside t i) (depth_of v)
depth_with (leaf text) c v i e = absurd (cc)
depth_with (node l ts) c v i e = omega (arith, deepest_of_set (trees ts) i c v e)

text_with : (t v : WideTree) (i : ℕ) → text_length_of (with_child_at t i v) ≤ max (text_length_of t) (text_length_of v)
text_with (leaf text) v i = omega arith
text_with (node l ts) v i = omega (arith, longest_text_of_set (trees ts) i v, ap longest_text (forest_trees ts))

text_in : (t c v : WideTree) (i : ℕ) → slice_get (children_of t) i ≡ Some c
    → text_length_of v ≤ text_length_of (with_child_at t i v)
text_in (leaf text) c v i e = absurd (cc)
text_in (node l ts) c v i e = text_length_in_set (trees ts) i c v e

arity_with : (t v : WideTree) (i : ℕ) → arity_of (with_child_at t i v) ≤ max (arity_of t) (arity_of v)
arity_with (leaf text) v i = omega arith
arity_with (node l ts) v i =
    omega (
      arith,
      widest_of_set (trees ts) i v,
      count_of_set (trees ts) i v,
      ap widest (forest_trees ts),
      ap count (forest_trees ts),
    )

arity_in : (t c v : WideTree) (i : ℕ) → slice_get (children_of t) i ≡ Some c
    → arity_of v ≤ arity_of (with_child_at t i v)
arity_in (leaf text) c v i e = absurd (cc)
arity_in (node l ts) c v i e = omega (arith, arity_in_set (trees ts) i c v e)

-- ---- numbers of a tree with another subtree at a path

pub size_of_replaced : (path : List ℕ) (t s u : WideTree) → subtree t path ≡ Some s
    → size_of (replaced t path u) + size_of s ≡ size_of t + size_of u
size_of_replaced [] t s u e = let same : t ≡ s = cc in rw same (omega arith)
size_of_replaced (i ∷ path) t s u e =
    let d = down t i path s e in
    let c : WideTree = replaced d.child path u in
    omega (
      arith,
      ap size_of (replaced_down t d.child i path u d.found),
      size_with t d.child c i d.found,
      size_of_replaced path d.child s u d.further,
    )

pub text_of_replaced : (path : List ℕ) (t s u : WideTree) → subtree t path ≡ Some s
    → text_length_of (replaced t path u) ≤ max (text_length_of t) (text_length_of u)
text_of_replaced [] t s u e = omega arith
text_of_replaced (i ∷ path) t s u e =
    let d = down t i path s e in
    let c : WideTree = replaced d.child path u in
    omega (
      arith,
      ap text_length_of (replaced_down t d.child i path u d.found),
      text_with t c i,
      text_of_child t d.child i d.found,
      text_of_replaced path d.child s u d.further,
    )
  where
    longest : (us : Forest) (j : ℕ) (x : WideTree) → slice_get (trees us) j ≡ Some x
        → text_length_of x ≤ longest_text us
    longest nil j x f = absurd (cc)
    longest (cons y us) zero x f = let same : y ≡ x = cc in rw (← same) (omega arith)
    longest (cons y us) (suc j) x f = omega (arith, longest us j x f)

    text_of_child : (p x : WideTree) (j : ℕ) → slice_get (children_of p) j ≡ Some x
        → text_length_of x ≤ text_length_of p
    text_of_child (leaf text) x j f = absurd (cc)
    text_of_child (node l us) x j f = longest us j x f

pub text_in_replaced : (path : List ℕ) (t s u : WideTree) → subtree t path ≡ Some s
    → text_length_of u ≤ text_length_of (replaced t path u)
text_in_replaced [] t s u e = omega arith
text_in_replaced (i ∷ path) t s u e =
    let d = down t i path s e in
    let c : WideTree = replaced d.child path u in
    omega (
      arith,
      ap text_length_of (replaced_down t d.child i path u d.found),
      text_in t d.child c i d.found,
      text_in_replaced path d.child s u d.further,
    )

pub arity_of_replaced : (path : List ℕ) (t s u : WideTree) → subtree t path ≡ Some s
    → arity_of (replaced t path u) ≤ max (arity_of t) (arity_of u)
arity_of_replaced [] t s u e = omega arith
arity_of_replaced (i ∷ path) t s u e =
    let d = down t i path s e in
    let c : WideTree = replaced d.child path u in
    omega (
      arith,
      ap arity_of (replaced_down t d.child i path u d.found),
      arity_with t c i,
      arity_of_child t d.child i d.found,
      arity_of_replaced path d.child s u d.further,
    )
  where
    wide : (us : Forest) (j : ℕ) (x : WideTree) → slice_get (trees us) j ≡ Some x → arity_of x ≤ widest us
    wide nil j x f = absurd (cc)
    wide (cons y us) zero x f = let same : y ≡ x = cc in rw (← same) (omega arith)
    wide (cons y us) (suc j) x f = omega (arith, wide us j x f)

    arity_of_child : (p x : WideTree) (j : ℕ) → slice_get (children_of p) j ≡ Some x → arity_of x ≤ arity_of p
    arity_of_child (leaf text) x j f = absurd (cc)
    arity_of_child (node l us) x j f = omega (arith, wide us j x f)

pub arity_in_replaced : (path : List ℕ) (t s u : WideTree) → subtree t path ≡ Some s
    → arity_of u ≤ arity_of (replaced t path u)
arity_in_replaced [] t s u e = omega arith
arity_in_replaced (i ∷ path) t s u e =
    let d = down t i path s e in
    let c : WideTree = replaced d.child path u in
    omega (
      arith,
      ap arity_of (replaced_down t d.child i path u d.found),
      arity_in t d.child c i d.found,
      arity_in_replaced path d.child s u d.further,
    )

pub depth_of_replaced : (t c u : WideTree) (i : ℕ) (path : List ℕ) → slice_get (children_of t) i ≡ Some c
    → depth_of (replaced t (i ∷ path) u) ≡ 1 + max (aside t i) (depth_of (replaced c path u))
depth_of_replaced t c u i path e = ap depth_of (replaced_down t c i path u e) ∙ depth_with t c (replaced c path u) i e

pub size_of_subtree : (path : List ℕ) (t s : WideTree) → subtree t path ≡ Some s → size_of s ≤ size_of t
size_of_subtree path t s e = let z = size_of_replaced path t s (leaf []) e in let more = size_more path t s e in more
  where
    size_more : (q : List ℕ) (x y : WideTree) → subtree x q ≡ Some y → size_of y ≤ size_of x
    size_more [] x y f = let same : x ≡ y = cc in rw same (omega arith)
    size_more (i ∷ q) x y f = let d = down x i q y f in
        omega (arith, size_of_child x d.child i d.found, size_more q d.child y d.further)
      where
        total : (us : Forest) (j : ℕ) (a : WideTree) → slice_get (trees us) j ≡ Some a → size_of a ≤ total_size us
        total nil j a g = absurd (cc)
        total (cons b us) zero a g = let same : b ≡ a = cc in rw (← same) (omega arith)
        total (cons b us) (suc j) a g = omega (arith, total us j a g)

        size_of_child : (p a : WideTree) (j : ℕ) → slice_get (children_of p) j ≡ Some a → size_of a ≤ size_of p
        size_of_child (leaf text) a j g = absurd (cc)
        size_of_child (node l us) a j g = omega (arith, total us j a g)
