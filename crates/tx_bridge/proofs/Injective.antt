-- Two subtrees of a tree are never carried to one path.
use Rattle.std.proofs.Common.{◌≡◌, ℕ, ◌+◌, ◌-◌, ◌<◌, leb, ltb, eqb, List, [], ◌∷◌, ◌++◌, length}
use Rattle.std.proofs.Common.{Option, Some, None, Ok, Err, refl, sym, ap, subst, ◌∙◌, arith}
use Rattle.std.specs.Prelude.{slice_get, if◌then◌else◌, is_some, option_and_then, option_map}
use Rattle.std.specs.Option.{option_map_or}
use Rattle.std.proofs.lemmas.Bool.{leb-true, leb-false, ltb-true, ltb-false, eqb-true, eqb-false}
use Rattle.std.proofs.lemmas.Option.{same_Some, slice_get_within}
use Rattle.tx_tree.specs.Paths.{subtree}
use Rattle.tx_tree.specs.WideTree.{WideTree, leaf, node, trees, children_of}
use Rattle.tx_mod.specs.declared.mods.Mod.{Mod}
use Rattle.tx_mod.specs.declared.mods.Mod.TheVariants.{Assign, Insert, Remove, Split, Join, AssignNode, InsertNode}
use Rattle.tx_mod.specs.declared.mods.Mod.TheVariants.{RemoveNode}
use Rattle.tx_mod.specs.Mods.{path_of, extent}
use Rattle.tx_mod.specs.Changes.{Outcome, changed}
use Rattle.tx_mod.specs.Moves.{rest_behind, child_or_self, shifted, some_path, carried_by_insert, carried_by_remove}
use Rattle.tx_mod.specs.Moves.{carried_in_split, carried_by_split, carried_in_join, carried_by_join, carried_by_unwrap}
use Rattle.tx_mod.specs.Moves.{carried_at, carried_path}
use Rattle.tx_mod.specs.Followed.{CarriesSubtree, outcome_tree, changed_by_all, carried_by_all}
use Rattle.tx_mod.proofs.Cases.{by_test}
use Rattle.tx_mod.proofs.Kept.{subtree_behind}
use Rattle.tx_bridge.proofs.Inside.{rest_is, rest_own, stands_at}

-- ---- where a path was before, by where it is afterwards

abbrev less_from : ℕ → ℕ → ℕ → ℕ
less_from i n k = if leb i k then k - n else k

abbrev more_from : ℕ → ℕ → ℕ → ℕ
more_from i n k = if leb i k then k + n else k

abbrev first_by : (ℕ → ℕ) → List ℕ → List ℕ
first_by f [] = []
first_by f (k ∷ u) = f k ∷ u

abbrev before_split : ℕ → ℕ → List ℕ → List ℕ
before_split i j [] = []
before_split i j (k ∷ u) =
    if ltb (i + 1) k then (k - 1) ∷ u else (if eqb k (i + 1) then i ∷ first_by (λ l. l + j) u else k ∷ u)

abbrev before_joined : ℕ → ℕ → List ℕ → List ℕ
before_joined i n [] = i ∷ []
before_joined i n (k ∷ u) = if leb n k then (i + 1) ∷ (k - n) ∷ u else i ∷ k ∷ u

abbrev before_join : ℕ → ℕ → List ℕ → List ℕ
before_join i n [] = []
before_join i n (k ∷ u) = if ltb i k then (k + 1) ∷ u else (if eqb k i then before_joined i n u else k ∷ u)

abbrev others : List ℕ → List ℕ
others [] = []
others (k ∷ u) = u

abbrev before_at : Mod → WideTree → List ℕ → List ℕ
before_at (Assign p x) s v = v
before_at (Insert p i x) s v = first_by (less_from (i + extent x) (extent x)) v
before_at (Remove p i n) s v = first_by (more_from i n) v
before_at (Split p i j) s v = before_split i j v
before_at (Join p i) s v = before_join i (extent (child_or_self s i)) v
before_at (AssignNode p l) s v = v
before_at (InsertNode p i x) s v = others v
before_at (RemoveNode p i) s v = i ∷ v

-- ---- one modification at its own path

-- where back of one path is a, and that path is v
led : (back : List ℕ → List ℕ) (w v a : List ℕ) → back w ≡ a → Some w ≡ Some v → back v ≡ a
led back w v a h e = subst (λ z. back z ≡ a) (same_Some w v e) h

-- what is said of the result of a test, where it leads to v
abbrev Back : (List ℕ → List ℕ) → List ℕ → List ℕ → Option (List ℕ) → Type 0
Back back a v o = o ≡ Some v → back v ≡ a

unshifted : (i n k : ℕ) → less_from (i + n) n (shifted i n k) ≡ k
unshifted i n k =
    by_test (λ j. less_from (i + n) n j ≡ k) (leb i k) (k + n) k
    (λ t. by_test (λ x. x ≡ k) (leb (i + n) (k + n)) (k + n - n) (k + n) (λ g. omega arith)
    (λ f. absurd (omega (arith, leb-true i k t, leb-false (i + n) (k + n) f))))
    (λ f. by_test (λ x. x ≡ k) (leb (i + n) k) (k - n) k
    (λ t. absurd (omega (arith, leb-false i k f, leb-true (i + n) k t))) (λ g. refl))

was_inserted : (i n : ℕ) (a v : List ℕ) → carried_by_insert i n a ≡ Some v → first_by (less_from (i + n) n) v ≡ a
was_inserted i n [] v e = cc
was_inserted i n (k ∷ u) v e =
    led (first_by (less_from (i + n) n)) (shifted i n k ∷ u) v (k ∷ u) (ap (λ j. j ∷ u) (unshifted i n k)) e

was_removed : (i n : ℕ) (a v : List ℕ) → carried_by_remove i n a ≡ Some v → first_by (more_from i n) v ≡ a
was_removed i n [] v e = cc
was_removed i n (k ∷ u) v e =
    by_test (Back (first_by (more_from i n)) (k ∷ u) v) (leb (i + n) k) (Some ((k - n) ∷ u))
    (if leb i k then None else Some (k ∷ u))
    (λ t. led (first_by (more_from i n)) ((k - n) ∷ u) v (k ∷ u) (ap (λ j. j ∷ u)
    (by_test (λ x. x ≡ k) (leb i (k - n)) (k - n + n) (k - n) (λ g. omega (arith, leb-true (i + n) k t))
    (λ f. absurd (omega (arith, leb-true (i + n) k t, leb-false i (k - n) f))))))
    (λ f. by_test (Back (first_by (more_from i n)) (k ∷ u) v) (leb i k) None (Some (k ∷ u)) (λ t g. absurd (cc))
    (λ g. led (first_by (more_from i n)) (k ∷ u) v (k ∷ u)
    (ap (λ j. j ∷ u) (by_test (λ x. x ≡ k) (leb i k) (k + n) k
    (λ t. absurd (omega (arith, leb-true i k t, leb-false i k g))) (λ h. refl)))))
    e

was_split : (i j : ℕ) (a v : List ℕ) → carried_by_split i j a ≡ Some v → before_split i j v ≡ a
was_split i j [] v e = cc
was_split i j (k ∷ u) v e =
    by_test (Back (before_split i j) (k ∷ u) v) (ltb i k) (Some ((k + 1) ∷ u))
    (if eqb k i then carried_in_split i j u else Some (k ∷ u))
    (λ t. led (before_split i j) ((k + 1) ∷ u) v (k ∷ u) (behind (ltb-true i k t)))
    (λ f. by_test (Back (before_split i j) (k ∷ u) v) (eqb k i) (carried_in_split i j u) (Some (k ∷ u))
    (λ t. inside (eqb-true k i t) u)
    (λ g. led (before_split i j) (k ∷ u) v (k ∷ u) (front k u (omega (arith, ltb-false i k f, eqb-false k i g))))) e
  where
    behind : i < k → before_split i j ((k + 1) ∷ u) ≡ k ∷ u
    behind lt = by_test (λ z. z ≡ k ∷ u) (ltb (i + 1) (k + 1)) (((k + 1) - 1) ∷ u)
        (if eqb (k + 1) (i + 1) then i ∷ first_by (λ l. l + j) u else (k + 1) ∷ u)
        (λ t. ap (λ l. l ∷ u) (omega arith)) (λ f. absurd (omega (arith, lt, ltb-false (i + 1) (k + 1) f)))

    front : (l : ℕ) (w : List ℕ) → l < i + 1 → before_split i j (l ∷ w) ≡ l ∷ w
    front l w lt = by_test (λ z. z ≡ l ∷ w) (ltb (i + 1) l) ((l - 1) ∷ w)
        (if eqb l (i + 1) then i ∷ first_by (λ m. m + j) w else l ∷ w)
        (λ t. absurd (omega (arith, lt, ltb-true (i + 1) l t)))
        (λ f. by_test (λ z. z ≡ l ∷ w) (eqb l (i + 1)) (i ∷ first_by (λ m. m + j) w) (l ∷ w)
        (λ t. absurd (omega (arith, lt, eqb-true l (i + 1) t))) (λ g. refl))

    second : (w : List ℕ) → before_split i j ((i + 1) ∷ w) ≡ i ∷ first_by (λ m. m + j) w
    second w = by_test (λ z. z ≡ i ∷ first_by (λ m. m + j) w) (ltb (i + 1) (i + 1)) (((i + 1) - 1) ∷ w)
        (if eqb (i + 1) (i + 1) then i ∷ first_by (λ m. m + j) w else (i + 1) ∷ w)
        (λ t. absurd (omega (arith, ltb-true (i + 1) (i + 1) t)))
        (λ f. by_test (λ z. z ≡ i ∷ first_by (λ m. m + j) w) (eqb (i + 1) (i + 1)) (i ∷ first_by (λ m. m + j) w)
        ((i + 1) ∷ w) (λ t. refl) (λ g. absurd (eqb-false (i + 1) (i + 1) g refl)))

    inside : k ≡ i → (w : List ℕ) → carried_in_split i j w ≡ Some v → before_split i j v ≡ k ∷ w
    inside same [] h = cc
    inside same (l ∷ w) h =
        by_test (Back (before_split i j) (k ∷ l ∷ w) v) (leb j l) (Some ((i + 1) ∷ (l - j) ∷ w)) (Some (i ∷ l ∷ w))
        (λ t. led (before_split i j) ((i + 1) ∷ (l - j) ∷ w) v (k ∷ l ∷ w)
        (second ((l - j) ∷ w)
        ∙ ap (λ m. i ∷ m ∷ w) (omega (arith, leb-true j l t)) ∙ ap (λ m. m ∷ l ∷ w) (sym same)))
        (λ f. led (before_split i j) (i ∷ l ∷ w) v (k ∷ l ∷ w)
        (front i (l ∷ w) (omega arith) ∙ ap (λ m. m ∷ l ∷ w) (sym same))) h

-- a path into child i leads below its extent
abbrev IsBelow : ℕ → ℕ → List ℕ → Type 0
IsBelow i n a = (l : ℕ) (w : List ℕ) → a ≡ i ∷ l ∷ w → l < n

was_joined : (i n : ℕ) (a v : List ℕ) → IsBelow i n a → carried_by_join i n a ≡ Some v → before_join i n v ≡ a
was_joined i n [] v low e = cc
was_joined i n (k ∷ u) v low e =
    by_test (Back (before_join i n) (k ∷ u) v) (ltb (i + 1) k) (Some ((k - 1) ∷ u))
    (if eqb k (i + 1) then carried_in_join i n u
    else (if eqb k i then option_map (λ w. i ∷ w) (some_path u) else Some (k ∷ u)))
    (λ t. led (before_join i n) ((k - 1) ∷ u) v (k ∷ u) (behind (ltb-true (i + 1) k t)))
    (λ f. by_test (Back (before_join i n) (k ∷ u) v) (eqb k (i + 1)) (carried_in_join i n u)
    (if eqb k i then option_map (λ w. i ∷ w) (some_path u) else Some (k ∷ u))
    (λ t. second (eqb-true k (i + 1) t) u)
    (λ g. by_test (Back (before_join i n) (k ∷ u) v) (eqb k i) (option_map (λ w. i ∷ w) (some_path u)) (Some (k ∷ u))
    (λ t. first (eqb-true k i t) u low)
    (λ h. led (before_join i n) (k ∷ u) v (k ∷ u)
    (front (omega (arith, ltb-false (i + 1) k f, eqb-false k (i + 1) g, eqb-false k i h)))))) e
  where
    behind : i + 1 < k → before_join i n ((k - 1) ∷ u) ≡ k ∷ u
    behind lt = by_test (λ z. z ≡ k ∷ u) (ltb i (k - 1)) (((k - 1) + 1) ∷ u)
        (if eqb (k - 1) i then before_joined i n u else (k - 1) ∷ u)
        (λ t. ap (λ l. l ∷ u) (omega (arith, lt))) (λ f. absurd (omega (arith, lt, ltb-false i (k - 1) f)))

    front : k < i → before_join i n (k ∷ u) ≡ k ∷ u
    front lt = by_test (λ z. z ≡ k ∷ u) (ltb i k) ((k + 1) ∷ u) (if eqb k i then before_joined i n u else k ∷ u)
        (λ t. absurd (omega (arith, lt, ltb-true i k t)))
        (λ f. by_test (λ z. z ≡ k ∷ u) (eqb k i) (before_joined i n u) (k ∷ u)
        (λ t. absurd (omega (arith, lt, eqb-true k i t))) (λ g. refl))

    there : (w : List ℕ) → before_join i n (i ∷ w) ≡ before_joined i n w
    there w = by_test (λ z. z ≡ before_joined i n w) (ltb i i) ((i + 1) ∷ w)
        (if eqb i i then before_joined i n w else i ∷ w)
        (λ t. absurd (omega (arith, ltb-true i i t)))
        (λ f. by_test (λ z. z ≡ before_joined i n w) (eqb i i) (before_joined i n w) (i ∷ w)
        (λ t. refl) (λ g. absurd (eqb-false i i g refl)))

    second : k ≡ i + 1 → (w : List ℕ) → carried_in_join i n w ≡ Some v → before_join i n v ≡ k ∷ w
    second same [] h = cc
    second same (l ∷ w) h =
        led (before_join i n) (i ∷ (l + n) ∷ w) v (k ∷ l ∷ w)
        (there ((l + n) ∷ w)
        ∙ by_test (λ z. z ≡ k ∷ l ∷ w) (leb n (l + n)) ((i + 1) ∷ (l + n - n) ∷ w) (i ∷ (l + n) ∷ w)
        (λ t. ap (λ m. m ∷ (l + n - n) ∷ w) (sym same) ∙ ap (λ m. k ∷ m ∷ w) (omega arith))
        (λ f. absurd (omega (arith, leb-false n (l + n) f)))) h

    first : k ≡ i → (w : List ℕ) → IsBelow i n (k ∷ w) → option_map (λ z. i ∷ z) (some_path w) ≡ Some v
        → before_join i n v ≡ k ∷ w
    first same [] below h = cc
    first same (l ∷ w) below h =
        led (before_join i n) (i ∷ l ∷ w) v (k ∷ l ∷ w)
        (there (l ∷ w)
        ∙ by_test (λ z. z ≡ k ∷ l ∷ w) (leb n l) ((i + 1) ∷ (l - n) ∷ w) (i ∷ l ∷ w)
        (λ t. absurd (omega (arith, leb-true n l t, below l w (ap (λ m. m ∷ l ∷ w) same))))
        (λ f. ap (λ m. m ∷ l ∷ w) (sym same))) h

-- ---- the subtree leads

few : (c x : WideTree) (l : ℕ) (w : List ℕ) → subtree c (l ∷ w) ≡ Some x → l < extent c
few (leaf text) x l w e = absurd (cc)
few (node label ts) x l w e = by_child (slice_get (trees ts) l) refl e
  where
    by_child : (o : Option WideTree) → slice_get (trees ts) l ≡ o → option_and_then (λ c. subtree c w) o ≡ Some x
        → l < length (trees ts)
    by_child None f g = absurd (cc)
    by_child (Some c) f g = slice_get_within (trees ts) l c f

is_below : (s x : WideTree) (i : ℕ) (a : List ℕ) → subtree s a ≡ Some x → IsBelow i (extent (child_or_self s i)) a
is_below s x i a e l w is = by_child (slice_get (children_of s) i) (ap (subtree s) (sym is) ∙ e)
  where
    by_child : (o : Option WideTree) → option_and_then (λ c. subtree c (l ∷ w)) o ≡ Some x
        → l < extent (option_map_or (λ c. c) o s)
    by_child None g = absurd (cc)
    by_child (Some c) g = few c x l w g

was_some : (a v : List ℕ) → some_path a ≡ Some v → v ≡ a
was_some [] v e = cc
was_some (k ∷ u) v e = sym (same_Some (k ∷ u) v e)

was_unwrapped : (i : ℕ) (a v : List ℕ) → carried_by_unwrap i a ≡ Some v → i ∷ v ≡ a
was_unwrapped i [] v e = cc
was_unwrapped i (k ∷ u) v e =
    by_test (λ o. o ≡ Some v → i ∷ v ≡ k ∷ u) (eqb k i) (Some u) None
    (λ t f. ap (λ z. i ∷ z) (sym (same_Some u v f)) ∙ ap (λ l. l ∷ u) (sym (eqb-true k i t))) (λ f g. absurd (cc)) e

was_at : (m : Mod) (s x : WideTree) (a v : List ℕ) → subtree s a ≡ Some x → carried_at m s a ≡ Some v
    → before_at m s v ≡ a
was_at (Assign p y) s x a v f e = cc
was_at (Insert p i y) s x a v f e = was_inserted i (extent y) a v e
was_at (Remove p i n) s x a v f e = was_removed i n a v e
was_at (Split p i j) s x a v f e = was_split i j a v e
was_at (Join p i) s x a v f e = was_joined i (extent (child_or_self s i)) a v (is_below s x i a f) e
was_at (AssignNode p l) s x a v f e = was_some a v e
was_at (InsertNode p i y) s x a v f e = led others (i ∷ a) v a refl e
was_at (RemoveNode p i) s x a v f e = was_unwrapped i a v e

-- ---- one modification

abbrev before_path : Mod → WideTree → List ℕ → List ℕ
before_path m s r = option_map_or (λ v. path_of m ++ before_at m s v) (rest_behind (path_of m) r) r

was : (m : Mod) (t s x : WideTree) (q r : List ℕ) → subtree t (path_of m) ≡ Some s → subtree t q ≡ Some x
    → carried_path m t q ≡ Some r → before_path m s r ≡ q
was m t s x q r there leads e =
    by_rest (rest_behind (path_of m) q) refl (rest_behind q (path_of m))
    (ap (λ o. option_map_or (λ z.
    option_map_or (λ a. option_map (λ v. path_of m ++ v) (carried_at m z a))
    (rest_behind (path_of m) q) (if is_some (rest_behind q (path_of m)) then None else Some q)) o None) (sym there) ∙ e)
  where
    by_way : (a : List ℕ) → q ≡ path_of m ++ a → (o : Option (List ℕ)) → carried_at m s a ≡ o
        → option_map (λ v. path_of m ++ v) o ≡ Some r → before_path m s r ≡ q
    by_way a is None f g = cc
    by_way a is (Some v) f g =
        led (before_path m s) (path_of m ++ v) r q
        (ap (λ o. option_map_or (λ w. path_of m ++ before_at m s w) o (path_of m ++ v)) (rest_own (path_of m) v)
        ∙ ap (λ w. path_of m ++ w)
        (was_at m s x a v (sym (subtree_behind (path_of m) a t s there) ∙ ap (subtree t) (sym is) ∙ leads) f)
        ∙ sym is) g

    by_rest : (o : Option (List ℕ)) → rest_behind (path_of m) q ≡ o → (up : Option (List ℕ))
        → option_map_or (λ a. option_map (λ v. path_of m ++ v) (carried_at m s a)) o
        (if is_some up then None else Some q) ≡ Some r → before_path m s r ≡ q
    by_rest None f None g =
        led (before_path m s) q r q (ap (λ o. option_map_or (λ v. path_of m ++ before_at m s v) o q) f) g
    by_rest None f (Some z) g = cc
    by_rest (Some a) f up g = by_way a (rest_is (path_of m) q a f) (carried_at m s a) refl g

pub once_by_one : (m : Mod) (t u : WideTree) (q s r : List ℕ) (x y : WideTree) → changed m t ≡ Ok u
    → subtree t q ≡ Some x → subtree t s ≡ Some y → carried_path m t q ≡ Some r → carried_path m t s ≡ Some r → q ≡ s
once_by_one m t u q s r x y made f g e h =
    let at : (z : WideTree) × (subtree t (path_of m) ≡ Some z) = stands_at m t u made in
    sym (was m t at.0 x q r at.1 f e) ∙ was m t at.0 y s r at.1 g h

-- ---- all of them

pub carried_once : ((m : Mod) (t : WideTree) (q : List ℕ) → CarriesSubtree m t q) → (ms : List Mod) (t u : WideTree)
    (q s r : List ℕ) (x y : WideTree) → changed_by_all ms t ≡ Some u → subtree t q ≡ Some x → subtree t s ≡ Some y
    → carried_by_all ms t q ≡ Some r → carried_by_all ms t s ≡ Some r → q ≡ s
carried_once law [] t u q s r x y made f g e h = same_Some q r e ∙ sym (same_Some s r h)
carried_once law (m ∷ ms) t u q s r x y made f g e h =
    step (changed m t) (carried_path m t q) (carried_path m t s) refl refl refl
    (λ v a b. carried_once law ms v u a b r x y) made e h
  where
    step : (o : Outcome) (c d : Option (List ℕ)) → changed m t ≡ o → carried_path m t q ≡ c → carried_path m t s ≡ d
        → ((v : WideTree) (a b : List ℕ) → changed_by_all ms v ≡ Some u → subtree v a ≡ Some x → subtree v b ≡ Some y
        → carried_by_all ms v a ≡ Some r → carried_by_all ms v b ≡ Some r → a ≡ b)
        → option_and_then (changed_by_all ms) (outcome_tree o) ≡ Some u
        → option_and_then (λ v. option_and_then (carried_by_all ms v) c) (outcome_tree o) ≡ Some r
        → option_and_then (λ v. option_and_then (carried_by_all ms v) d) (outcome_tree o) ≡ Some r → q ≡ s
    step (Err cause) c d made1 ec ed ih all eq es = cc
    step (Ok v) None d made1 ec ed ih all eq es = cc
    step (Ok v) (Some a) None made1 ec ed ih all eq es = cc
    step (Ok v) (Some a) (Some b) made1 ec ed ih all eq es =
        let one : a ≡ b = ih v a b all (law m t q v x a made1 f ec) (law m t s v y b made1 g ed) eq es in
        once_by_one m t v q s a x y made1 f g ec (ed ∙ ap (λ z. Some z) (sym one))
