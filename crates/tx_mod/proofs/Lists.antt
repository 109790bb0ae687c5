-- Elements of lists, and lists of trees.
use Rattle.std.proofs.Common.{◌≡◌, ℕ, zero, suc, ◌+◌, ◌≤◌, max, List, [], ◌∷◌, ◌++◌, take, drop, set, Some, refl, sym}
use Rattle.std.proofs.Common.{ap, ◌∙◌, arith}
use Rattle.std.specs.Prelude.{slice_get}
use Rattle.tx_tree.specs.WideTree.{WideTree, forest, size_of, total_size, depth_of, deepest, arity_of, widest, count}
use Rattle.tx_tree.specs.WideTree.{text_length_of, longest_text}

pub get_of_set : {X : Type 0} → (xs : List X) (i : ℕ) (x v : X) → slice_get xs i ≡ Some x
    → slice_get (set xs i v) i ≡ Some v
get_of_set [] i x v e = absurd (cc)
get_of_set (y ∷ xs) zero x v e = refl
get_of_set {X} (y ∷ xs) (suc i) x v e = get_of_set {X = X} xs i x v e

pub get_of_set_other : {X : Type 0} → (xs : List X) (i j : ℕ) (v : X) → (j ≡ i → ⊥)
    → slice_get (set xs i v) j ≡ slice_get xs j
get_of_set_other [] i j v h = refl
get_of_set_other (y ∷ xs) zero zero v h = absurd (h refl)
get_of_set_other (y ∷ xs) zero (suc j) v h = refl
get_of_set_other (y ∷ xs) (suc i) zero v h = refl
get_of_set_other {X} (y ∷ xs) (suc i) (suc j) v h = get_of_set_other {X = X} xs i j v (λ e. h (ap suc e))

pub set_to_same : {X : Type 0} → (xs : List X) (i : ℕ) (x : X) → slice_get xs i ≡ Some x → set xs i x ≡ xs
set_to_same [] i x e = refl
set_to_same (y ∷ xs) zero x e = let same : y ≡ x = cc in ap (λ z. z ∷ xs) (sym same)
set_to_same {X} (y ∷ xs) (suc i) x e = ap (λ z. y ∷ z) (set_to_same {X = X} xs i x e)

pub drop_past : {X : Type 0} (xs : List X) (y : X) (i : ℕ) → drop (suc i + 1) (y ∷ xs) ≡ drop (i + 1) xs
drop_past {X} xs y i = ap (λ n. drop {A = X} n (y ∷ xs)) (let e : suc i + 1 ≡ suc (i + 1) = omega arith in e)

-- a list round one of its elements
pub list_at : {X : Type 0} → (xs : List X) (i : ℕ) (x : X) → slice_get xs i ≡ Some x
    → xs ≡ take i xs ++ x ∷ drop (i + 1) xs
list_at [] i x e = absurd (cc)
list_at (y ∷ xs) zero x e = let same : y ≡ x = cc in ap (λ z. z ∷ xs) same
list_at {X} (y ∷ xs) (suc i) x e = let rest : xs ≡ take i xs ++ x ∷ drop (i + 1) xs = list_at {X = X} xs i x e in
    ap (λ z. y ∷ z) (rest ∙ ap (λ z. take i xs ++ x ∷ z) (sym (drop_past xs y i)))

pub set_list_at : {X : Type 0} → (xs : List X) (i : ℕ) (x v : X) → slice_get xs i ≡ Some x
    → set xs i v ≡ take i xs ++ v ∷ drop (i + 1) xs
set_list_at [] i x v e = absurd (cc)
set_list_at (y ∷ xs) zero x v e = refl
set_list_at {X} (y ∷ xs) (suc i) x v e = let rest : set xs i v ≡ take i xs ++ v ∷ drop (i + 1) xs =
    set_list_at {X = X} xs i x v e in ap (λ z. y ∷ z) (rest ∙ ap (λ z. take i xs ++ v ∷ z) (sym (drop_past xs y i)))

-- ---- numbers of a list of trees with one put in place of another

pub total_size_of_set : (ts : List WideTree) (i : ℕ) (c v : WideTree) → slice_get ts i ≡ Some c
    → total_size (forest (set ts i v)) + size_of c ≡ total_size (forest ts) + size_of v
total_size_of_set [] i c v e = absurd (cc)
total_size_of_set (t ∷ ts) zero c v e = let same : t ≡ c = cc in rw same (omega arith)
total_size_of_set (t ∷ ts) (suc i) c v e = omega (arith, total_size_of_set ts i c v e)

pub deepest_of_set : (ts : List WideTree) (i : ℕ) (c v : WideTree) → slice_get ts i ≡ Some c
    → deepest (forest (set ts i v)) ≡ max (max (deepest (forest (take i ts))) (deepest (forest (drop (i + 1) ts))))
    (depth_of v)
deepest_of_set [] i c v e = absurd (cc)
deepest_of_set (t ∷ ts) zero c v e = omega arith
deepest_of_set (t ∷ ts) (suc i) c v e =
    let rest : deepest (forest (set ts i v)) ≡ max
    (max (deepest (forest (take i ts))) (deepest (forest (drop (i + 1) ts)))) (depth_of v) =
    deepest_of_set ts i c v e in
    let same : deepest (forest (drop (suc i + 1) (t ∷ ts))) ≡ deepest (forest (drop (i + 1) ts)) =
    ap (λ us. deepest (forest us)) (drop_past ts t i) in
    omega (arith, rest, same)

pub longest_text_of_set : (ts : List WideTree) (i : ℕ) (v : WideTree)
    → longest_text (forest (set ts i v)) ≤ max (longest_text (forest ts)) (text_length_of v)
longest_text_of_set [] i v = omega arith
longest_text_of_set (t ∷ ts) zero v = omega arith
longest_text_of_set (t ∷ ts) (suc i) v = omega (arith, longest_text_of_set ts i v)

pub text_length_in_set : (ts : List WideTree) (i : ℕ) (c v : WideTree) → slice_get ts i ≡ Some c
    → text_length_of v ≤ longest_text (forest (set ts i v))
text_length_in_set [] i c v e = absurd (cc)
text_length_in_set (t ∷ ts) zero c v e = omega arith
text_length_in_set (t ∷ ts) (suc i) c v e = omega (arith, text_length_in_set ts i c v e)

pub widest_of_set : (ts : List WideTree) (i : ℕ) (v : WideTree)
    → widest (forest (set ts i v)) ≤ max (widest (forest ts)) (arity_of v)
widest_of_set [] i v = omega arith
widest_of_set (t ∷ ts) zero v = omega arith
widest_of_set (t ∷ ts) (suc i) v = omega (arith, widest_of_set ts i v)

pub arity_in_set : (ts : List WideTree) (i : ℕ) (c v : WideTree) → slice_get ts i ≡ Some c
    → arity_of v ≤ widest (forest (set ts i v))
arity_in_set [] i c v e = absurd (cc)
arity_in_set (t ∷ ts) zero c v e = omega arith
arity_in_set (t ∷ ts) (suc i) c v e = omega (arith, arity_in_set ts i c v e)

pub count_of_set : (ts : List WideTree) (i : ℕ) (v : WideTree) → count (forest (set ts i v)) ≡ count (forest ts)
count_of_set [] i v = refl
count_of_set (t ∷ ts) zero v = refl
count_of_set (t ∷ ts) (suc i) v = omega (arith, count_of_set ts i v)
