-- Modifications keep the order of paths.
use Rattle.std.proofs.Common.{◌≡◌, ℕ, zero, suc, ◌+◌, ◌-◌, ◌<◌, ◌≤◌, ◌⊎◌, inl, inr, Bool, true, false, leb, ltb, eqb}
use Rattle.std.proofs.Common.{List, [], ◌∷◌, ◌++◌, length, Option, Some, None, refl, sym, ap, subst, ◌∙◌, arith}
use Rattle.std.specs.Prelude.{slice_get, if◌then◌else◌, is_some, option_and_then, option_map, nat_le, nat_lt, ◌==◌}
use Rattle.std.specs.Option.{option_map_or}
use Rattle.std.proofs.lemmas.Bool.{leb-true, leb-false, ltb-true, ltb-false, eqb-true, eqb-false}
use Rattle.tx_tree.specs.Paths.{subtree}
use Rattle.tx_tree.specs.WideTree.{WideTree, leaf, node, children_of}
use Rattle.tx_mod.specs.declared.mods.Mod.{Mod}
use Rattle.tx_mod.specs.declared.mods.Mod.TheVariants.{Assign, Insert, Remove, Split, Join, AssignNode, InsertNode}
use Rattle.tx_mod.specs.declared.mods.Mod.TheVariants.{RemoveNode}
use Rattle.tx_mod.specs.Mods.{path_of, extent}
use Rattle.tx_mod.specs.Moves.{rest_behind, child_or_self, shifted, some_path, carried_by_insert, carried_by_remove}
use Rattle.tx_mod.specs.Moves.{carried_in_split, carried_by_split, carried_in_join, carried_by_join, carried_by_unwrap}
use Rattle.tx_mod.specs.Moves.{carried_at, carried_path}
use Rattle.tx_mod.specs.Orders.{IsBefore, KeepsOrder}

-- ---- numbers of a path

-- a path that leads from a node begins with the number of a child
first_within : (t x : WideTree) (k : ℕ) (u : List ℕ) → subtree t (k ∷ u) ≡ Some x →
    (c : WideTree) × (slice_get (children_of t) k ≡ Some c) × (subtree c u ≡ Some x)
first_within t x k u h = by (slice_get (children_of t) k) refl h
  where
    by : (o : Option WideTree) → slice_get (children_of t) k ≡ o → option_and_then (λ c. subtree c u) o ≡ Some x →
        (c : WideTree) × (slice_get (children_of t) k ≡ Some c) × (subtree c u ≡ Some x)
    by None is g = absurd (cc)
    by (Some c) is g = (c, is, g)

get_within : {A : Type 0} (xs : List A) (k : ℕ) (x : A) → slice_get xs k ≡ Some x → k < length xs
get_within [] k x h = absurd (cc)
get_within (y ∷ ys) zero x h = omega arith
get_within (y ∷ ys) (suc k) x h = let le : k < length ys = get_within ys k x h in omega (arith, le)

-- the first numbers decide the order, or, where they are equal, the others do
less_first : (i j : ℕ) (p q : List ℕ) → IsBefore (i ∷ p) (j ∷ q) → (i < j) ⊎ ((i ≡ j) × IsBefore p q)
less_first i j p q h = h

some_is : {A : Type 0} (x y : A) → Some x ≡ Some y → x ≡ y
some_is x y h = cc

none_some : {A : Type 0} (x : A) → None ≡ Some x → ⊥
none_some x h = cc

-- A way of carrying what is in a subtree keeps order there.
abbrev Keeps : WideTree → (List ℕ → Option (List ℕ)) → Type 0
Keeps s g = (q r q1 r1 : List ℕ) (x y : WideTree) → subtree s q ≡ Some x → subtree s r ≡ Some y → IsBefore q r
    → g q ≡ Some q1 → g r ≡ Some r1 → IsBefore q1 r1

-- where a test gives Some, by its outcome
chosen : {A : Type 0} (b : Bool) (x y : Option A) (z : A) → (if b then x else y) ≡ Some z →
    ((b ≡ true) × (x ≡ Some z)) ⊎ ((b ≡ false) × (y ≡ Some z))
chosen true x y z h = inl (refl, h)
chosen false x y z h = inr (refl, h)

abbrev First : ℕ → List ℕ → List ℕ → Type 0
First n u r = (w : List ℕ) × (r ≡ n ∷ w)

-- ---- each kind

insert_keeps : (s : WideTree) (i n : ℕ) → Keeps s (carried_by_insert i n)
insert_keeps s i n [] r q1 r1 x y lq lr less e f = absurd (cc)
insert_keeps s i n (k ∷ u) [] q1 r1 x y lq lr less e f = absurd less
insert_keeps s i n (k ∷ u) (l ∷ w) q1 r1 x y lq lr less e f =
    subst (λ a. IsBefore a r1) (some_is _ q1 e) (subst (IsBefore (shifted i n k ∷ u)) (some_is _ r1 f)
    (elim less as (λ z. IsBefore (shifted i n k ∷ u) (shifted i n l ∷ w)) [
      | inl lt ↦ inl (up i n k l lt)
      | inr same ↦ inr (ap (shifted i n) same.0, same.1)
    ]))
  where
    up : (i n k l : ℕ) → k < l → shifted i n k < shifted i n l
    up i n k l lt = grind arith

-- a number that is unchanged or gets n less
remove_is : (i n k : ℕ) (u r : List ℕ) → carried_by_remove i n (k ∷ u) ≡ Some r →
    (j : ℕ) × (r ≡ j ∷ u) × (((i + n ≤ k) × (j ≡ k - n)) ⊎ ((k < i) × (j ≡ k)))
remove_is i n k u r h = elim (chosen (nat_le (i + n) k) _ _ r h) as (λ z. (j : ℕ) × (r ≡ j ∷ u) × (((i + n ≤ k) × (j ≡ k - n)) ⊎ ((k < i) × (j ≡ k)))) [
  | inl b ↦ (k - n, sym (some_is _ r b.1), inl (leb-true (i + n) k b.0, refl))
  | inr b ↦ elim (chosen (nat_le i k) None (Some (k ∷ u)) r b.1) as (λ z. (j : ℕ) × (r ≡ j ∷ u) × (((i + n ≤ k) × (j ≡ k - n)) ⊎ ((k < i) × (j ≡ k)))) [
    | inl c ↦ absurd (none_some r c.1)
    | inr c ↦ (k, sym (some_is _ r c.1), inr (leb-false i k c.0, refl))
  ]
]

remove_keeps : (s : WideTree) (i n : ℕ) → Keeps s (carried_by_remove i n)
remove_keeps s i n [] r q1 r1 x y lq lr less e f = absurd (cc)
remove_keeps s i n (k ∷ u) [] q1 r1 x y lq lr less e f = absurd less
remove_keeps s i n (k ∷ u) (l ∷ w) q1 r1 x y lq lr less e f =
    let a = remove_is i n k u q1 e in
    let b = remove_is i n l w r1 f in
    subst (λ z. IsBefore z r1) (sym a.1) (subst (IsBefore (a.0 ∷ u)) (sym b.1)
    (elim less as (λ z. IsBefore (a.0 ∷ u) (b.0 ∷ w)) [
      | inl lt ↦ inl (up a.0 b.0 lt a.2 b.2)
      | inr same ↦ inr (one a.0 b.0 same.0 a.2 b.2, same.1)
    ]))
  where
    up : (j m : ℕ) → k < l → ((i + n ≤ k) × (j ≡ k - n)) ⊎ ((k < i) × (j ≡ k)) →
        ((i + n ≤ l) × (m ≡ l - n)) ⊎ ((l < i) × (m ≡ l)) → j < m
    up j m lt (inl g) (inl h) = omega (arith, lt, g.0, g.1, h.0, h.1)
    up j m lt (inl g) (inr h) = omega (arith, lt, g.0, g.1, h.0, h.1)
    up j m lt (inr g) (inl h) = omega (arith, lt, g.0, g.1, h.0, h.1)
    up j m lt (inr g) (inr h) = omega (arith, lt, g.0, g.1, h.0, h.1)

    one : (j m : ℕ) → k ≡ l → ((i + n ≤ k) × (j ≡ k - n)) ⊎ ((k < i) × (j ≡ k)) →
        ((i + n ≤ l) × (m ≡ l - n)) ⊎ ((l < i) × (m ≡ l)) → j ≡ m
    one j m lt (inl g) (inl h) = omega (arith, lt, g.0, g.1, h.0, h.1)
    one j m lt (inl g) (inr h) = omega (arith, lt, g.0, g.1, h.0, h.1)
    one j m lt (inr g) (inl h) = omega (arith, lt, g.0, g.1, h.0, h.1)
    one j m lt (inr g) (inr h) = omega (arith, lt, g.0, g.1, h.0, h.1)

-- both lists by their first numbers
less_as : (r1 r2 : List ℕ) (a b : ℕ) (p q : List ℕ) → r1 ≡ a ∷ p → r2 ≡ b ∷ q → (a < b) ⊎ ((a ≡ b) × IsBefore p q) →
    IsBefore r1 r2
less_as r1 r2 a b p q e f h = subst (λ z. IsBefore z r2) (sym e) (subst (IsBefore (a ∷ p)) (sym f) h)

-- what a split or a join does with a path: it is past the child, in it, or before it
data Cut (past front : ℕ) (k : ℕ) (u r : List ℕ) (k1 : ℕ) (high : ℕ → List ℕ → Type 0) (low : ℕ → List ℕ → Type 0) :
    Type 0 where
  Past : past < k → r ≡ k1 ∷ u → Cut past front k u r k1 high low
  High : (m : ℕ) (w : List ℕ) → u ≡ m ∷ w → high m w → Cut past front k u r k1 high low
  Low : (m : ℕ) (w : List ℕ) → u ≡ m ∷ w → low m w → Cut past front k u r k1 high low
  Front : k < front → r ≡ k ∷ u → Cut past front k u r k1 high low

abbrev SplitHigh : ℕ → ℕ → ℕ → List ℕ → ℕ → List ℕ → Type 0
SplitHigh i j k r m w = (k ≡ i) × (j ≤ m) × (r ≡ (i + 1) ∷ (m - j) ∷ w)

abbrev SplitLow : ℕ → ℕ → ℕ → List ℕ → ℕ → List ℕ → Type 0
SplitLow i j k r m w = (k ≡ i) × (m < j) × (r ≡ i ∷ m ∷ w)

abbrev SplitCut : ℕ → ℕ → ℕ → List ℕ → List ℕ → Type 0
SplitCut i j k u r = Cut i i k u r (k + 1) (SplitHigh i j k r) (SplitLow i j k r)

split_in : (i j k : ℕ) (u r : List ℕ) → k ≡ i → carried_in_split i j u ≡ Some r → SplitCut i j k u r
split_in i j k [] r is h = absurd (cc)
split_in i j k (m ∷ w) r is h = elim (chosen (nat_le j m) _ _ r h) as (λ z. SplitCut i j k (m ∷ w) r) [
  | inl b ↦ High m w refl (is, leb-true j m b.0, sym (some_is _ r b.1))
  | inr b ↦ Low m w refl (is, leb-false j m b.0, sym (some_is _ r b.1))
]

split_is : (i j k : ℕ) (u r : List ℕ) → carried_by_split i j (k ∷ u) ≡ Some r → SplitCut i j k u r
split_is i j k u r h = elim (chosen (nat_lt i k) _ _ r h) as (λ z. SplitCut i j k u r) [
  | inl b ↦ Past (ltb-true i k b.0) (sym (some_is _ r b.1))
  | inr b ↦ elim (chosen (k == i) _ _ r b.1) as (λ z. SplitCut i j k u r) [
    | inl c ↦ split_in i j k u r (eqb-true k i c.0) c.1
    | inr c ↦ Front (under i k (ltb-false i k b.0) (eqb-false k i c.0)) (sym (some_is _ r c.1))
  ]
]
  where
    under : (i k : ℕ) → k ≤ i → (k ≡ i → ⊥) → k < i
    under i k le ne = grind arith

split_keeps : (s : WideTree) (i j : ℕ) → Keeps s (carried_by_split i j)
split_keeps s i j [] r q1 r1 x y lq lr less e f = absurd (cc)
split_keeps s i j (k ∷ u) [] q1 r1 x y lq lr less e f = absurd less
split_keeps s i j (k ∷ u) (l ∷ v) q1 r1 x y lq lr less e f =
    by (split_is i j k u q1 e) (split_is i j l v r1 f) less
  where
    by : SplitCut i j k u q1 → SplitCut i j l v r1 → (k < l) ⊎ ((k ≡ l) × IsBefore u v) → IsBefore q1 r1
    by (Past a e1) (Past b e2) (inl lt) = less_as q1 r1 (k + 1) (l + 1) u v e1 e2 (inl (omega (arith, lt)))
    by (Past a e1) (Past b e2) (inr same) = less_as q1 r1 (k + 1) (l + 1) u v e1 e2 (inr (ap (λ n. n + 1) same.0, same.1))
    by (Past a e1) (High m w is b) (inl lt) = less_as q1 r1 (k + 1) (i + 1) u ((m - j) ∷ w) e1 b.2 (inl (omega (arith, lt, a, b.0)))
    by (Past a e1) (High m w is b) (inr same) = less_as q1 r1 (k + 1) (i + 1) u ((m - j) ∷ w) e1 b.2 (inl (omega (arith, same.0, a, b.0)))
    by (Past a e1) (Low m w is b) (inl lt) = less_as q1 r1 (k + 1) i u (m ∷ w) e1 b.2 (inl (omega (arith, lt, a, b.0)))
    by (Past a e1) (Low m w is b) (inr same) = less_as q1 r1 (k + 1) i u (m ∷ w) e1 b.2 (inl (omega (arith, same.0, a, b.0)))
    by (Past a e1) (Front b e2) (inl lt) = less_as q1 r1 (k + 1) l u v e1 e2 (inl (omega (arith, lt, a, b)))
    by (Past a e1) (Front b e2) (inr same) = less_as q1 r1 (k + 1) l u v e1 e2 (inl (omega (arith, same.0, a, b)))
    by (High n z at a) (Past b e2) (inl lt) = less_as q1 r1 (i + 1) (l + 1) ((n - j) ∷ z) v a.2 e2 (inl (omega (arith, lt, a.0)))
    by (High n z at a) (Past b e2) (inr same) = less_as q1 r1 (i + 1) (l + 1) ((n - j) ∷ z) v a.2 e2 (inl (omega (arith, same.0, a.0, b)))
    by (High n z at a) (High m w is b) (inl lt) = less_as q1 r1 (i + 1) (i + 1) ((n - j) ∷ z) ((m - j) ∷ w) a.2 b.2 (inl (omega (arith, lt, a.0, b.0)))
    by (High n z at a) (High m w is b) (inr same) = less_as q1 r1 (i + 1) (i + 1) ((n - j) ∷ z) ((m - j) ∷ w) a.2 b.2 (inr (
      refl,
      elim (less_first n m z w (subst (λ p. IsBefore p (m ∷ w)) at (subst (IsBefore u) is same.1))) as (λ o. IsBefore ((n - j) ∷ z) ((m - j) ∷ w)) [
        | inl lt ↦ inl (let lo : j ≤ n = a.1 in omega (arith, lt, lo))
        | inr h ↦ inr (ap (λ c. c - j) h.0, h.1)
      ],
    ))
    by (High n z at a) (Low m w is b) (inl lt) = less_as q1 r1 (i + 1) i ((n - j) ∷ z) (m ∷ w) a.2 b.2 (inl (omega (arith, lt, a.0, b.0)))
    by (High n z at a) (Low m w is b) (inr same) = less_as q1 r1 (i + 1) i ((n - j) ∷ z) (m ∷ w) a.2 b.2
        (elim (less_first n m z w (subst (λ p. IsBefore p (m ∷ w)) at (subst (IsBefore u) is same.1))) as (λ o. (i + 1 < i) ⊎ ((i + 1 ≡ i) × IsBefore ((n - j) ∷ z) (m ∷ w))) [
          | inl lt ↦ inl (let lo : j ≤ n = a.1 in let hi : m < j = b.1 in omega (arith, lt, lo, hi))
          | inr h ↦ inl (let lo : j ≤ n = a.1 in let hi : m < j = b.1 in let one : n ≡ m = h.0 in omega (arith, one, lo, hi))
        ])
    by (High n z at a) (Front b e2) (inl lt) = less_as q1 r1 (i + 1) l ((n - j) ∷ z) v a.2 e2 (inl (omega (arith, lt, a.0, b)))
    by (High n z at a) (Front b e2) (inr same) = less_as q1 r1 (i + 1) l ((n - j) ∷ z) v a.2 e2 (inl (omega (arith, same.0, a.0, b)))
    by (Low n z at a) (Past b e2) o = less_as q1 r1 i (l + 1) (n ∷ z) v a.2 e2 (inl (omega (arith, b)))
    by (Low n z at a) (High m w is b) o = less_as q1 r1 i (i + 1) (n ∷ z) ((m - j) ∷ w) a.2 b.2 (inl (omega arith))
    by (Low n z at a) (Low m w is b) (inl lt) = less_as q1 r1 i i (n ∷ z) (m ∷ w) a.2 b.2 (inl (omega (arith, lt, a.0, b.0)))
    by (Low n z at a) (Low m w is b) (inr same) = less_as q1 r1 i i (n ∷ z) (m ∷ w) a.2 b.2
        (inr (refl, subst (λ p. IsBefore p (m ∷ w)) at (subst (IsBefore u) is same.1)))
    by (Low n z at a) (Front b e2) (inl lt) = less_as q1 r1 i l (n ∷ z) v a.2 e2 (inl (omega (arith, lt, a.0, b)))
    by (Low n z at a) (Front b e2) (inr same) = less_as q1 r1 i l (n ∷ z) v a.2 e2 (inl (omega (arith, same.0, a.0, b)))
    by (Front a e1) (Past b e2) o = less_as q1 r1 k (l + 1) u v e1 e2 (inl (omega (arith, a, b)))
    by (Front a e1) (High m w is b) o = less_as q1 r1 k (i + 1) u ((m - j) ∷ w) e1 b.2 (inl (omega (arith, a)))
    by (Front a e1) (Low m w is b) o = less_as q1 r1 k i u (m ∷ w) e1 b.2 (inl a)
    by (Front a e1) (Front b e2) (inl lt) = less_as q1 r1 k l u v e1 e2 (inl lt)
    by (Front a e1) (Front b e2) (inr same) = less_as q1 r1 k l u v e1 e2 (inr same)

-- ---- join

abbrev JoinHigh : ℕ → ℕ → ℕ → List ℕ → ℕ → List ℕ → Type 0
JoinHigh i n k r m w = (k ≡ i + 1) × (r ≡ i ∷ (m + n) ∷ w)

abbrev JoinLow : ℕ → ℕ → List ℕ → ℕ → List ℕ → Type 0
JoinLow i k r m w = (k ≡ i) × (r ≡ i ∷ m ∷ w)

abbrev JoinCut : ℕ → ℕ → ℕ → List ℕ → List ℕ → Type 0
JoinCut i n k u r = Cut (i + 1) i k u r (k - 1) (JoinHigh i n k r) (JoinLow i k r)

join_next : (i n k : ℕ) (u r : List ℕ) → k ≡ i + 1 → carried_in_join i n u ≡ Some r → JoinCut i n k u r
join_next i n k [] r is h = absurd (cc)
join_next i n k (m ∷ w) r is h = High m w refl (is, sym (some_is _ r h))

join_at : (i n k : ℕ) (u r : List ℕ) → k ≡ i → option_map (λ w. i ∷ w) (some_path u) ≡ Some r → JoinCut i n k u r
join_at i n k [] r is h = absurd (cc)
join_at i n k (m ∷ w) r is h = Low m w refl (is, sym (some_is _ r h))

join_is : (i n k : ℕ) (u r : List ℕ) → carried_by_join i n (k ∷ u) ≡ Some r → JoinCut i n k u r
join_is i n k u r h = elim (chosen (nat_lt (i + 1) k) _ _ r h) as (λ z. JoinCut i n k u r) [
  | inl b ↦ Past (ltb-true (i + 1) k b.0) (sym (some_is _ r b.1))
  | inr b ↦ elim (chosen (k == i + 1) _ _ r b.1) as (λ z. JoinCut i n k u r) [
    | inl c ↦ join_next i n k u r (eqb-true k (i + 1) c.0) c.1
    | inr c ↦ elim (chosen (k == i) _ _ r c.1) as (λ z. JoinCut i n k u r) [
      | inl d ↦ join_at i n k u r (eqb-true k i d.0) d.1
      | inr d ↦ Front (under i k (ltb-false (i + 1) k b.0) (eqb-false k (i + 1) c.0) (eqb-false k i d.0)) (sym (some_is _ r d.1))
    ]
  ]
]
  where
    under : (i k : ℕ) → k ≤ i + 1 → (k ≡ i + 1 → ⊥) → (k ≡ i → ⊥) → k < i
    under i k le ne other = grind arith

-- a child of the child is before those that are put after it
within_child : (s x : WideTree) (i m : ℕ) (w : List ℕ) → subtree s (i ∷ m ∷ w) ≡ Some x → m < extent (child_or_self s i)
within_child s x i m w h =
    let a = first_within s x i (m ∷ w) h in
    let b = first_within a.0 x m w a.2 in
    subst (λ c. m < extent (option_map_or (λ d. d) c s)) (sym a.1) (extent_is a.0 (get_within (children_of a.0) m b.0 b.1))
  where
    extent_is : (c : WideTree) → m < length (children_of c) → m < extent c
    extent_is (leaf t) lt = omega (arith, lt)
    extent_is (node l ts) lt = lt

join_keeps : (s : WideTree) (i : ℕ) → Keeps s (carried_by_join i (extent (child_or_self s i)))
join_keeps s i [] r q1 r1 x y lq lr less e f = absurd (cc)
join_keeps s i (k ∷ u) [] q1 r1 x y lq lr less e f = absurd less
join_keeps s i (k ∷ u) (l ∷ v) q1 r1 x y lq lr less e f =
    by (join_is i n k u q1 e) (join_is i n l v r1 f) less
  where
    n : ℕ
    n = extent (child_or_self s i)

    by : JoinCut i n k u q1 → JoinCut i n l v r1 → (k < l) ⊎ ((k ≡ l) × IsBefore u v) → IsBefore q1 r1
    by (Past a e1) (Past b e2) (inl lt) = less_as q1 r1 (k - 1) (l - 1) u v e1 e2 (inl (omega (arith, lt, a)))
    by (Past a e1) (Past b e2) (inr same) = less_as q1 r1 (k - 1) (l - 1) u v e1 e2 (inr (ap (λ c. c - 1) same.0, same.1))
    by (Past a e1) (High m w is b) (inl lt) = less_as q1 r1 (k - 1) i u ((m + n) ∷ w) e1 b.1 (inl (omega (arith, lt, a, b.0)))
    by (Past a e1) (High m w is b) (inr same) = less_as q1 r1 (k - 1) i u ((m + n) ∷ w) e1 b.1 (inl (omega (arith, same.0, a, b.0)))
    by (Past a e1) (Low m w is b) (inl lt) = less_as q1 r1 (k - 1) i u (m ∷ w) e1 b.1 (inl (omega (arith, lt, a, b.0)))
    by (Past a e1) (Low m w is b) (inr same) = less_as q1 r1 (k - 1) i u (m ∷ w) e1 b.1 (inl (omega (arith, same.0, a, b.0)))
    by (Past a e1) (Front b e2) (inl lt) = less_as q1 r1 (k - 1) l u v e1 e2 (inl (omega (arith, lt, a, b)))
    by (Past a e1) (Front b e2) (inr same) = less_as q1 r1 (k - 1) l u v e1 e2 (inl (omega (arith, same.0, a, b)))
    by (High p z at a) (Past b e2) o = less_as q1 r1 i (l - 1) ((p + n) ∷ z) v a.1 e2 (inl (omega (arith, b)))
    by (High p z at a) (High m w is b) (inl lt) = less_as q1 r1 i i ((p + n) ∷ z) ((m + n) ∷ w) a.1 b.1 (inl (omega (arith, lt, a.0, b.0)))
    by (High p z at a) (High m w is b) (inr same) = less_as q1 r1 i i ((p + n) ∷ z) ((m + n) ∷ w) a.1 b.1 (inr (
      refl,
      elim (less_first p m z w (subst (λ g. IsBefore g (m ∷ w)) at (subst (IsBefore u) is same.1))) as (λ o. IsBefore ((p + n) ∷ z) ((m + n) ∷ w)) [
        | inl lt ↦ inl (omega (arith, lt))
        | inr h ↦ inr (ap (λ c. c + n) h.0, h.1)
      ],
    ))
    by (High p z at a) (Low m w is b) (inl lt) = less_as q1 r1 i i ((p + n) ∷ z) (m ∷ w) a.1 b.1 (inl (omega (arith, lt, a.0, b.0)))
    by (High p z at a) (Low m w is b) (inr same) = less_as q1 r1 i i ((p + n) ∷ z) (m ∷ w) a.1 b.1 (inl (omega (arith, same.0, a.0, b.0)))
    by (High p z at a) (Front b e2) (inl lt) = less_as q1 r1 i l ((p + n) ∷ z) v a.1 e2 (inl (omega (arith, lt, a.0, b)))
    by (High p z at a) (Front b e2) (inr same) = less_as q1 r1 i l ((p + n) ∷ z) v a.1 e2 (inl (omega (arith, same.0, a.0, b)))
    by (Low p z at a) (Past b e2) o = less_as q1 r1 i (l - 1) (p ∷ z) v a.1 e2 (inl (omega (arith, b)))
    by (Low p z at a) (High m w is b) o = less_as q1 r1 i i (p ∷ z) ((m + n) ∷ w) a.1 b.1 (inr (
      refl,
      inl
          (let lt : p < n = within_child s x i p z
          (subst (λ g. subtree s g ≡ Some x) (ap (λ c. c ∷ u) a.0 ∙ ap (λ g. i ∷ g) at) lq) in omega (arith, lt)),
    ))
    by (Low p z at a) (Low m w is b) (inl lt) = less_as q1 r1 i i (p ∷ z) (m ∷ w) a.1 b.1 (inl (omega (arith, lt, a.0, b.0)))
    by (Low p z at a) (Low m w is b) (inr same) = less_as q1 r1 i i (p ∷ z) (m ∷ w) a.1 b.1
        (inr (refl, subst (λ g. IsBefore g (m ∷ w)) at (subst (IsBefore u) is same.1)))
    by (Low p z at a) (Front b e2) (inl lt) = less_as q1 r1 i l (p ∷ z) v a.1 e2 (inl (omega (arith, lt, a.0, b)))
    by (Low p z at a) (Front b e2) (inr same) = less_as q1 r1 i l (p ∷ z) v a.1 e2 (inl (omega (arith, same.0, a.0, b)))
    by (Front a e1) (Past b e2) o = less_as q1 r1 k (l - 1) u v e1 e2 (inl (omega (arith, a, b)))
    by (Front a e1) (High m w is b) o = less_as q1 r1 k i u ((m + n) ∷ w) e1 b.1 (inl a)
    by (Front a e1) (Low m w is b) o = less_as q1 r1 k i u (m ∷ w) e1 b.1 (inl a)
    by (Front a e1) (Front b e2) (inl lt) = less_as q1 r1 k l u v e1 e2 (inl lt)
    by (Front a e1) (Front b e2) (inr same) = less_as q1 r1 k l u v e1 e2 (inr same)

-- ---- the others

same_keeps : (s : WideTree) → Keeps s some_path
same_keeps s [] r q1 r1 x y lq lr less e f = absurd (cc)
same_keeps s (k ∷ u) [] q1 r1 x y lq lr less e f = absurd less
same_keeps s (k ∷ u) (l ∷ v) q1 r1 x y lq lr less e f = subst (λ z. IsBefore z r1) (some_is _ q1 e) (subst (IsBefore (k ∷ u)) (some_is _ r1 f) less)

wrap_keeps : (s : WideTree) (i : ℕ) → Keeps s (λ r. Some (i ∷ r))
wrap_keeps s i q r q1 r1 x y lq lr less e f = subst (λ z. IsBefore z r1) (some_is _ q1 e) (subst (IsBefore (i ∷ q)) (some_is _ r1 f) (inr (refl, less)))

unwrap_keeps : (s : WideTree) (i : ℕ) → Keeps s (carried_by_unwrap i)
unwrap_keeps s i [] r q1 r1 x y lq lr less e f = absurd (cc)
unwrap_keeps s i (k ∷ u) [] q1 r1 x y lq lr less e f = absurd less
unwrap_keeps s i (k ∷ u) (l ∷ v) q1 r1 x y lq lr less e f = by (chosen (k == i) _ None q1 e) (chosen (l == i) _ None r1 f) less
  where
    by : ((k == i ≡ true) × (Some u ≡ Some q1)) ⊎ ((k == i ≡ false) × (None ≡ Some q1)) →
        ((l == i ≡ true) × (Some v ≡ Some r1)) ⊎ ((l == i ≡ false) × (None ≡ Some r1)) →
        (k < l) ⊎ ((k ≡ l) × IsBefore u v) → IsBefore q1 r1
    by (inr a) b o = absurd (none_some q1 a.1)
    by (inl a) (inr b) o = absurd (none_some r1 b.1)
    by (inl a) (inl b) (inr same) = subst (λ z. IsBefore z r1) (some_is u q1 a.1) (subst (IsBefore u) (some_is v r1 b.1) same.1)
    by (inl a) (inl b) (inl lt) = absurd (apart k l (eqb-true k i a.0) (eqb-true l i b.0) lt)
      where
        apart : (k l : ℕ) → k ≡ i → l ≡ i → k < l → ⊥
        apart k l a b lt = grind arith

kind_keeps : (m : Mod) (s : WideTree) → Keeps s (carried_at m s)
kind_keeps (Assign p x) s = λ q r q1 r1 y z lq lr less e f. absurd (none_some q1 e)
kind_keeps (Insert p i x) s = insert_keeps s i (extent x)
kind_keeps (Remove p i n) s = remove_keeps s i n
kind_keeps (Split p i j) s = split_keeps s i j
kind_keeps (Join p i) s = join_keeps s i
kind_keeps (AssignNode p l) s = same_keeps s
kind_keeps (InsertNode p i x) s = wrap_keeps s i
kind_keeps (RemoveNode p i) s = unwrap_keeps s i

-- ---- below the path of a modification

-- A path at the base or below it is carried by g. A path above the base is carried nowhere, and every other path is
-- unchanged.
abbrev lifted : (List ℕ → Option (List ℕ)) → List ℕ → List ℕ → Option (List ℕ)
lifted g base q = option_map_or (λ r. option_map (λ v. base ++ v) (g r)) (rest_behind base q)
    (if is_some (rest_behind q base) then None else Some q)

-- where the first number is that of the base, the others are carried, and else the path is unchanged
abbrev Deeper : (List ℕ → Option (List ℕ)) → ℕ → List ℕ → ℕ → List ℕ → List ℕ → Type 0
Deeper g b base k u r =
    ((k ≡ b) × ((w : List ℕ) × (r ≡ k ∷ w) × (lifted g base u ≡ Some w))) ⊎ ((k ≡ b → ⊥) × (r ≡ k ∷ u))

abbrev lifted_by : (List ℕ → Option (List ℕ)) → List ℕ → List ℕ → Option (List ℕ) → Option (List ℕ) → Option (List ℕ)
lifted_by g base q o o2 = option_map_or (λ z. option_map (λ v. base ++ v) (g z)) o (if is_some o2 then None else Some q)

lead : (g : List ℕ → Option (List ℕ)) (b : ℕ) (base : List ℕ) (k : ℕ) (u r : List ℕ) (o o2 : Option (List ℕ)) → k ≡ b →
    lifted_by g (b ∷ base) (k ∷ u) o o2 ≡ Some r →
    (w : List ℕ) × (r ≡ k ∷ w) × (lifted_by g base u o o2 ≡ Some w)
lead g b base k u r (Some z) o2 is e = by (g z) e
  where
    by : (a : Option (List ℕ)) → option_map (λ v. b ∷ (base ++ v)) a ≡ Some r →
        (w : List ℕ) × (r ≡ k ∷ w) × (option_map (λ v. base ++ v) a ≡ Some w)
    by None h = absurd (none_some r h)
    by (Some v) h = (base ++ v, sym (some_is _ r h) ∙ ap (λ c. c ∷ (base ++ v)) (sym is), refl)
lead g b base k u r None None is e = (u, sym (some_is _ r e), refl)
lead g b base k u r None (Some z) is e = absurd (none_some r e)

aside : (g : List ℕ → Option (List ℕ)) (base q r : List ℕ) → lifted_by g base q None None ≡ Some r → r ≡ q
aside g base q r h = sym (some_is q r h)

deeper : (g : List ℕ → Option (List ℕ)) (b : ℕ) (base : List ℕ) (k : ℕ) (u r : List ℕ) →
    lifted g (b ∷ base) (k ∷ u) ≡ Some r → Deeper g b base k u r
deeper g b base k u r h = by (k == b) refl (b == k) refl
  where
    at : (d c : Bool) → b == k ≡ d → k == b ≡ c →
        lifted_by g (b ∷ base) (k ∷ u) (if d then rest_behind base u else None) (if c then rest_behind u base else None) ≡ Some r
    at d c e f = subst (λ x. lifted_by g (b ∷ base) (k ∷ u) (if x then rest_behind base u else None) (if c then rest_behind u base else None) ≡ Some r) e
        (subst (λ x. lifted_by g (b ∷ base) (k ∷ u) (if b == k then rest_behind base u else None) (if x then rest_behind u base else None) ≡ Some r) f h)

    by : (c : Bool) → k == b ≡ c → (d : Bool) → b == k ≡ d → Deeper g b base k u r
    by true is true as_is = inl (eqb-true k b is, lead g b base k u r (rest_behind base u) (rest_behind u base) (eqb-true k b is) (at true true as_is is))
    by true is false as_is = absurd (eqb-false b k as_is (sym (eqb-true k b is)))
    by false is true as_is = absurd (eqb-false k b is (sym (eqb-true b k as_is)))
    by false is false as_is = inr (eqb-false k b is, aside g (b ∷ base) (k ∷ u) r (at false false as_is is))

-- the tree to which the base leads, as a step down
below_first : (t s : WideTree) (b : ℕ) (base : List ℕ) → subtree t (b ∷ base) ≡ Some s →
    (c : WideTree) × (slice_get (children_of t) b ≡ Some c) × (subtree c base ≡ Some s)
below_first t s b base h = first_within t s b base h

same_child : (t : WideTree) (k b : ℕ) (c d : WideTree) → k ≡ b → slice_get (children_of t) k ≡ Some c →
    slice_get (children_of t) b ≡ Some d → c ≡ d
same_child t k b c d is e f = some_is c d (sym e ∙ ap (slice_get (children_of t)) is ∙ f)

nothing_lifted : (g : List ℕ → Option (List ℕ)) (b : ℕ) (base r : List ℕ) → lifted g (b ∷ base) [] ≡ Some r → ⊥
nothing_lifted g b base r h = none_some r h

at_once : (g : List ℕ → Option (List ℕ)) (q r : List ℕ) → lifted g [] q ≡ Some r → g q ≡ Some r
at_once g q r h = by (g q) h
  where
    by : (a : Option (List ℕ)) → option_map (λ v. v) a ≡ Some r → a ≡ Some r
    by None e = absurd (none_some r e)
    by (Some v) e = e

lifted_keeps : (g : List ℕ → Option (List ℕ)) (base : List ℕ) (t s : WideTree) → subtree t base ≡ Some s → Keeps s g →
    Keeps t (lifted g base)
lifted_keeps g [] t s is keeps q r q1 r1 x y lq lr less e f =
    let same : t ≡ s = some_is t s is in
    keeps q r q1 r1 x y (subst (λ z. subtree z q ≡ Some x) same lq) (subst (λ z. subtree z r ≡ Some y) same lr) less
    (at_once g q q1 e) (at_once g r r1 f)
lifted_keeps g (b ∷ base) t s is keeps [] r q1 r1 x y lq lr less e f = absurd (nothing_lifted g b base q1 e)
lifted_keeps g (b ∷ base) t s is keeps (k ∷ u) [] q1 r1 x y lq lr less e f = absurd less
lifted_keeps g (b ∷ base) t s is keeps (k ∷ u) (l ∷ v) q1 r1 x y lq lr less e f =
    by (λ c i. lifted_keeps g base c s i keeps u v) (deeper g b base k u q1 e) (deeper g b base l v r1 f) less
  where
    by : ((c : WideTree) → subtree c base ≡ Some s → (w z : List ℕ) (x y : WideTree) → subtree c u ≡ Some x → subtree c v ≡ Some y → IsBefore u v → lifted g base u ≡ Some w → lifted g base v ≡ Some z → IsBefore w z) →
        Deeper g b base k u q1 → Deeper g b base l v r1 → (k < l) ⊎ ((k ≡ l) × IsBefore u v) → IsBefore q1 r1
    by below (inl a) (inl c) (inl lt) = absurd (apart a.0 c.0 lt)
      where
        apart : k ≡ b → l ≡ b → k < l → ⊥
        apart p q lt = grind arith
    by below (inl a) (inl c) (inr same) =
        let d = first_within t s b base is in
        let uk = first_within t x k u lq in
        let vl = first_within t y l v lr in
        less_as q1 r1 k l a.1.0 c.1.0 a.1.1 c.1.1 (inr (
          same.0,
          below d.0 d.2 a.1.0 c.1.0 x y
              (subst (λ z. subtree z u ≡ Some x) (same_child t k b uk.0 d.0 a.0 uk.1 d.1) uk.2)
              (subst (λ z. subtree z v ≡ Some y) (same_child t l b vl.0 d.0 c.0 vl.1 d.1) vl.2) same.1 a.1.2 c.1.2,
        ))
    by below (inl a) (inr c) (inl lt) = less_as q1 r1 k l a.1.0 v a.1.1 c.1 (inl lt)
    by below (inl a) (inr c) (inr same) = absurd (c.0 (sym same.0 ∙ a.0))
    by below (inr a) (inl c) (inl lt) = less_as q1 r1 k l u c.1.0 a.1 c.1.1 (inl lt)
    by below (inr a) (inl c) (inr same) = absurd (a.0 (same.0 ∙ c.0))
    by below (inr a) (inr c) o = less_as q1 r1 k l u v a.1 c.1 o

-- ---- the law

carried_is : (m : Mod) (t : WideTree) (q : List ℕ) (s : WideTree) → subtree t (path_of m) ≡ Some s →
    carried_path m t q ≡ lifted (carried_at m s) (path_of m) q
carried_is m t q s is = ap (λ o. option_map_or (λ z. lifted (carried_at m z) (path_of m) q) o None) is

pub keeps_order : (m : Mod) (t : WideTree) (q r : List ℕ) → KeepsOrder m t q r
keeps_order m t q r x y q1 r1 lq lr less e f = by (subtree t (path_of m)) refl
  where
    by : (o : Option WideTree) → subtree t (path_of m) ≡ o → IsBefore q1 r1
    by None is = absurd (none_some q1 (ap (λ o. option_map_or (λ z. lifted (carried_at m z) (path_of m) q) o None) (sym is) ∙ e))
    by (Some s) is = lifted_keeps (carried_at m s) (path_of m) t s is (kind_keeps m s) q r q1 r1 x y lq lr less
        (sym (carried_is m t q s is) ∙ e) (sym (carried_is m t r s is) ∙ f)
