-- Paths through modifications that are all inside one subtree.
use Rattle.std.proofs.Common.{◌≡◌, ℕ, ◌+◌, List, [], ◌∷◌, ◌++◌, length, drop, Option, Some, None, refl, ap, sym}
use Rattle.std.proofs.Common.{◌∙◌, arith, nat_eq, nat_lt, ltb-true}
use Rattle.std.proofs.lemmas.Bool.Decides.{Decides-eqb}
use Rattle.std.proofs.lemmas.List.{append_assoc, length-append}
use Rattle.std.proofs.lemmas.Option.{same_Some}
use Rattle.std.proofs.lemmas.Slice.Eq.{starts_is}
use Rattle.std.specs.List.{starts_with}
use Rattle.std.specs.Option.{option_map_or}
use Rattle.std.specs.Prelude.{Bool, true, false, not, ◌||◌, ◌==◌, is_some, if◌then◌else◌, option_map}
use Rattle.std.specs.Prelude.{option_and_then, Ok, Err}
use Rattle.tx_tree.specs.WideTree.{WideTree}
use Rattle.tx_tree.specs.Paths.{subtree, leading}
use Rattle.tx_mod.specs.declared.mods.Mod.{Mod}
use Rattle.tx_mod.specs.declared.mods.Mod.TheVariants.{Assign, Insert, Remove, Split, Join}
use Rattle.tx_mod.specs.declared.mods.Mod.TheVariants.{AssignNode, InsertNode, RemoveNode}
use Rattle.tx_mod.specs.declared.faults.ModFault.TheVariants.{NoPath}
use Rattle.tx_mod.specs.Mods.{path_of}
use Rattle.tx_mod.specs.Changes.{Outcome, changed, changed_at, put_back}
use Rattle.tx_mod.specs.Moves.{rest_behind, carried_at, carried_path}
use Rattle.tx_mod.specs.Followed.{outcome_tree, changed_by_all, carried_by_all}
use Rattle.tx_bridge.specs.InPlace.{wraps, begins_path, leaves_nowhere, are_within}
use Rattle.tx_walk.proofs.Trees.{both}

-- ---- fronts of paths

rest_step : (i k : ℕ) (q r s : List ℕ) → (rest_behind q r ≡ Some s → r ≡ q ++ s) → (b : Bool) → i == k ≡ b
    → (if b then rest_behind q r else None) ≡ Some s → k ∷ r ≡ i ∷ (q ++ s)
rest_step i k q r s ih true at e =
    ap (λ n. n ∷ r) (sym ((Decides-eqb i k).0 at)) ∙ ap (λ xs. i ∷ xs) (ih e)
rest_step i k q r s ih false at e = cc

pub rest_is : (q r s : List ℕ) → rest_behind q r ≡ Some s → r ≡ q ++ s
rest_is [] r s e = same_Some r s e
rest_is (i ∷ q) [] s e = cc
rest_is (i ∷ q) (k ∷ r) s e = rest_step i k q r s (λ f. rest_is q r s f) (i == k) refl e

-- the front is none of the path
abbrev pub IsNoFront : List ℕ → List ℕ → Type 0
IsNoFront q r = (s : List ℕ) → r ≡ q ++ s → ⊥

pub no_rest : (q r : List ℕ) → IsNoFront q r → rest_behind q r ≡ None
no_rest q r h = by (rest_behind q r) refl
  where
    by : (o : Option (List ℕ)) → rest_behind q r ≡ o → o ≡ None
    by None e = refl
    by (Some s) e = absurd (h s (rest_is q r s e))

pub rest_own : (q s : List ℕ) → rest_behind q (q ++ s) ≡ Some s
rest_own [] s = refl
rest_own (i ∷ q) s =
    ap (λ b. if b then rest_behind q (q ++ s) else None) ((Decides-eqb i i).1 refl) ∙ rest_own q s

heads : (i k : ℕ) (xs ys : List ℕ) → i ∷ xs ≡ k ∷ ys → (i ≡ k) × (xs ≡ ys)
heads i k xs ys e = (cc, cc)

-- one of two fronts of a path is a front of the other
pub fronts_meet : (q r s x : List ℕ) → q ++ s ≡ r ++ x → IsNoFront q r → IsNoFront r q → ⊥
fronts_meet [] r s x e f g = f r refl
fronts_meet (i ∷ q) [] s x e f g = g (i ∷ q) refl
fronts_meet (i ∷ q) (k ∷ r) s x e f g =
    let h : (i ≡ k) × (q ++ s ≡ r ++ x) = heads i k (q ++ s) (r ++ x) e in
    fronts_meet q r s x h.1
    (λ y is. f y (ap (λ n. n ∷ r) (sym h.0) ∙ ap (λ xs. i ∷ xs) is))
    (λ y is. g y (ap (λ n. n ∷ q) h.0 ∙ ap (λ xs. k ∷ xs) is))

pub begins_is : (q p : List ℕ) → begins_path q p ≡ true → p ≡ q ++ drop (length q) p
begins_is q p e = (starts_is Decides-eqb p q (starts_with nat_eq p q) refl).0 e

-- ---- one modification inside the subtree at q

abbrev pub by_rest : Mod → WideTree → List ℕ → Option (List ℕ) → Option (List ℕ) → Option (List ℕ)
by_rest m s r down up =
    option_map_or (λ x. option_map (λ v. path_of m ++ v) (carried_at m s x)) down
    (if is_some up then None else Some r)

pub stands_at : (m : Mod) (t u : WideTree) → changed m t ≡ Ok u → (s : WideTree) × (subtree t (path_of m) ≡ Some s)
stands_at m t u e = by (subtree t (path_of m)) refl e
  where
    by : (o : Option WideTree) → subtree t (path_of m) ≡ o
        → option_map_or (λ s. put_back t (path_of m) (changed_at m s)) o (Err (NoPath (leading t (path_of m)))) ≡ Ok u
        → (s : WideTree) × (subtree t (path_of m) ≡ Some s)
    by None f h = cc
    by (Some s) f h = (s, f)

stays_put : (m : Mod) (t s : WideTree) (r : List ℕ) → subtree t (path_of m) ≡ Some s
    → rest_behind (path_of m) r ≡ None → rest_behind r (path_of m) ≡ None → carried_path m t r ≡ Some r
stays_put m t s r e down up =
    ap (λ o. option_map_or (λ x. by_rest m x r (rest_behind (path_of m) r) (rest_behind r (path_of m))) o None) e
    ∙ ap (λ o. by_rest m s r o (rest_behind r (path_of m))) down ∙ ap (by_rest m s r None) up

-- a path that isn't above or below q is unchanged
one_stays : (m : Mod) (t u : WideTree) (q r : List ℕ) → changed m t ≡ Ok u → begins_path q (path_of m) ≡ true
    → IsNoFront q r → IsNoFront r q → carried_path m t r ≡ Some r
one_stays m t u q r made inside f g =
    let s : List ℕ = drop (length q) (path_of m) in
    let is : path_of m ≡ q ++ s = begins_is q (path_of m) inside in
    let at : (x : WideTree) × (subtree t (path_of m) ≡ Some x) = stands_at m t u made in
    stays_put m t at.0 r at.1
    (no_rest (path_of m) r (λ x e. f (s ++ x) (e ∙ ap (λ p. p ++ x) is ∙ append_assoc q s x)))
    (no_rest r (path_of m) (λ x e. fronts_meet q r s x (sym is ∙ e) f g))

nowhere_at : (m : Mod) (x : WideTree) → wraps m ≡ false → carried_at m x [] ≡ None
nowhere_at (Assign p y) x h = refl
nowhere_at (Insert p i y) x h = refl
nowhere_at (Remove p i n) x h = refl
nowhere_at (Split p i j) x h = refl
nowhere_at (Join p i) x h = refl
nowhere_at (AssignNode p l) x h = refl
nowhere_at (InsertNode p i y) x h = cc
nowhere_at (RemoveNode p i) x h = refl

no_wrap : (m : Mod) (q : List ℕ) → leaves_nowhere q m ≡ true → length (path_of m) ≡ length q → wraps m ≡ false
no_wrap m q h many = by (wraps m) refl h
  where
    by : (b : Bool) → wraps m ≡ b → not b || nat_lt (length q) (length (path_of m)) ≡ true → b ≡ false
    by true e f = absurd (omega (arith, many, ltb-true (length q) (length (path_of m)) f))
    by false e f = refl

nothing : (xs : List ℕ) → length xs ≡ 0 → xs ≡ []
nothing [] e = refl
nothing (x ∷ xs) e = absurd (omega (arith, e))

-- q itself is carried nowhere
goes_down : (m : Mod) (x : WideTree) (q s : List ℕ) → path_of m ≡ q ++ s → leaves_nowhere q m ≡ true
    → (o : Option (List ℕ)) → rest_behind (path_of m) q ≡ o → by_rest m x q o (rest_behind q (path_of m)) ≡ None
goes_down m x q s is h None e = ap (by_rest m x q None) (ap (rest_behind q) is ∙ rest_own q s)
goes_down m x q s is h (Some r) e =
    let back : q ≡ path_of m ++ r = rest_is (path_of m) q r e in
    let one : length q ≡ length (path_of m) + length r = ap length back ∙ length-append (path_of m) r in
    let other : length (path_of m) ≡ length q + length s = ap length is ∙ length-append q s in
    let none : r ≡ [] = nothing r (omega (arith, one, other)) in
    ap (λ y. option_map (λ v. path_of m ++ v) (carried_at m x y)) none
    ∙ ap (option_map (λ v. path_of m ++ v)) (nowhere_at m x (no_wrap m q h (omega (arith, one, other))))

goes : (m : Mod) (t : WideTree) (q : List ℕ) → begins_path q (path_of m) ≡ true → leaves_nowhere q m ≡ true
    → carried_path m t q ≡ None
goes m t q inside h = by (subtree t (path_of m))
  where
    by : (o : Option WideTree)
        → option_map_or (λ x. by_rest m x q (rest_behind (path_of m) q) (rest_behind q (path_of m))) o None ≡ None
    by None = refl
    by (Some x) =
        goes_down m x q (drop (length q) (path_of m)) (begins_is q (path_of m) inside) h (rest_behind (path_of m) q)
        refl

-- ---- all of them

stay_step : (m : Mod) (ms : List Mod) (t u : WideTree) (q r : List ℕ) → begins_path q (path_of m) ≡ true → IsNoFront q r
    → IsNoFront r q → ((v : WideTree) → changed_by_all ms v ≡ Some u → carried_by_all ms v r ≡ Some r)
    → (o : Outcome) → changed m t ≡ o → option_and_then (changed_by_all ms) (outcome_tree o) ≡ Some u
    → option_and_then (λ v. option_and_then (carried_by_all ms v) (carried_path m t r)) (outcome_tree o) ≡ Some r
stay_step m ms t u q r inside f g ih (Ok v) made h =
    ap (option_and_then (carried_by_all ms v)) (one_stays m t v q r made inside f g) ∙ ih v h
stay_step m ms t u q r inside f g ih (Err cause) made h = cc

pub all_stay : (ms : List Mod) (t u : WideTree) (q r : List ℕ) → are_within q ms ≡ true → IsNoFront q r
    → IsNoFront r q → changed_by_all ms t ≡ Some u → carried_by_all ms t r ≡ Some r
all_stay [] t u q r inside f g made = refl
all_stay (m ∷ ms) t u q r inside f g made =
    let all : (begins_path q (path_of m) ≡ true) × (are_within q ms ≡ true) =
    both (begins_path q (path_of m)) (are_within q ms) inside in
    stay_step m ms t u q r all.0 f g (λ v h. all_stay ms v u q r all.1 f g h) (changed m t) refl made

go_step : (m : Mod) (ms : List Mod) (t : WideTree) (q : List ℕ) → carried_path m t q ≡ None → (o : Outcome)
    → option_and_then (λ v. option_and_then (carried_by_all ms v) (carried_path m t q)) (outcome_tree o) ≡ None
go_step m ms t q none (Ok v) = ap (option_and_then (carried_by_all ms v)) none
go_step m ms t q none (Err cause) = refl

pub all_go : (m : Mod) (ms : List Mod) (t : WideTree) (q : List ℕ) → are_within q (m ∷ ms) ≡ true
    → leaves_nowhere q m ≡ true → carried_by_all (m ∷ ms) t q ≡ None
all_go m ms t q inside h =
    go_step m ms t q (goes m t q (both (begins_path q (path_of m)) (are_within q ms) inside).0 h) (changed m t)
