-- Modifications that apply in turn, and the trees before each of them.
use Rattle.std.proofs.Common.{◌≡◌, ℕ, ◌+◌, ◌<◌, ◌≤◌, List, []}
use Rattle.std.proofs.Common.{◌∷◌, ◌++◌, length, drop, slice_index_or, Bool, true, false}
use Rattle.std.proofs.Common.{Option, Some, None, Ok, Err, refl, ap, sym, ◌∙◌, subst, arith}
use Rattle.std.proofs.lemmas.List.{drop_more, append_assoc, append-nil}
use Rattle.std.specs.Option.{option_map_or, IsSome}
use Rattle.std.specs.Prelude.{IsOk, option_and_then, option_map, is_none, is_some, ◌&&◌, if◌then◌else◌}
use Rattle.tx_tree.specs.WideTree.{WideTree}
use Rattle.tx_tree.specs.Paths.{subtree, leading}
use Rattle.tx_mod.specs.declared.mods.Mod.{Mod}
use Rattle.tx_mod.specs.declared.faults.ModFault.TheVariants.{NoPath}
use Rattle.tx_mod.specs.Changes.{Outcome, changed, changed_at, put_back}
use Rattle.tx_mod.specs.Moves.{carried_path, carried_at, rest_behind}
use Rattle.tx_mod.specs.Mods.{path_of}
use Rattle.tx_mod.specs.Followed.{changed_by_all, carried_by_all, outcome_tree}
use Rattle.tx_mod.specs.InTurn.{cost_of}
use Rattle.tx_kept.specs.Carrying.{trees_before, is_beside, is_beside_all}

pub some_is : {A : Type 0} (x y : A) → Some x ≡ Some y → x ≡ y
some_is x y h = cc

-- an option that has a value, by it
pub value_of : {A : Type 0} (o : Option A) → IsSome o → (x : A) × (o ≡ Some x)
value_of None h = absurd (cc)
value_of (Some x) h = (x, refl)

pub has_value : {A : Type 0} (o : Option A) (x : A) → o ≡ Some x → IsSome o
has_value o x e = subst IsSome (sym e) refl

-- ---- the first modification, and the others

pub record First (m : Mod) (ms : List Mod) (t u : WideTree) : Type 0 where
  pub between : WideTree
  pub one : changed m t ≡ Ok between
  pub others : changed_by_all ms between ≡ Some u

pub first_of : (m : Mod) (ms : List Mod) (t u : WideTree) → changed_by_all (m ∷ ms) t ≡ Some u → First m ms t u
first_of m ms t u h = by (changed m t) refl h
  where
    by : (o : Outcome) → changed m t ≡ o → option_and_then (changed_by_all ms) (outcome_tree o) ≡ Some u → First m ms t u
    by (Ok v) is g = record { between = v; one = is; others = g }
    by (Err cause) is g = absurd (cc)

pub all_after : (m : Mod) (ms : List Mod) (t v : WideTree) → changed m t ≡ Ok v
    → changed_by_all (m ∷ ms) t ≡ changed_by_all ms v
all_after m ms t v e = ap (λ o. option_and_then (changed_by_all ms) (outcome_tree o)) e

pub path_after : (m : Mod) (ms : List Mod) (t v : WideTree) (q : List ℕ) → changed m t ≡ Ok v
    → carried_by_all (m ∷ ms) t q ≡ option_and_then (carried_by_all ms v) (carried_path m t q)
path_after m ms t v q e =
    ap (λ o. option_and_then (λ u. option_and_then (carried_by_all ms u) (carried_path m t q)) (outcome_tree o)) e

pub trees_after : (m : Mod) (ms : List Mod) (t v : WideTree) → changed m t ≡ Ok v
    → trees_before (m ∷ ms) t ≡ t ∷ trees_before ms v
trees_after m ms t v e = ap (λ o. t ∷ option_map_or (trees_before ms) (outcome_tree o) []) e

pub applies_one : (m : Mod) (t v : WideTree) → changed m t ≡ Ok v → IsOk (changed m t)
applies_one m t v e = subst IsOk (sym e) refl

-- ---- the trees are found

-- Where i modifications are applied, at the tree u, with the trees before each of them.
pub record Passing (ms : List Mod) (i : ℕ) (ts : List WideTree) (t u : WideTree) (before after : ℕ) : Type 0 where
  pub trees : ts ++ trees_before (drop i ms) u ≡ trees_before ms t
  pub last : WideTree
  pub applies : changed_by_all (drop i ms) u ≡ Some last
  pub steps : after + cost_of (drop i ms) ≤ before + cost_of ms

pub pass_starts : (ms : List Mod) (ts : List WideTree) (t u : WideTree) (before : ℕ) → ts ≡ [] → u ≡ t
    → ((v : WideTree) × (changed_by_all ms t ≡ Some v)) → Passing ms 0 ts t u before before
pass_starts ms ts t u before none e applies = record {
  trees = ap (λ xs. xs ++ trees_before ms u) none ∙ ap (trees_before ms) e;
  last = applies.0;
  applies = ap (changed_by_all ms) e ∙ applies.1;
  steps = omega arith;
}

module _ (ms : List Mod) (i : ℕ) (ts : List WideTree) (t u : WideTree) (before after : ℕ)
    (g : Passing ms i ts t u before after) (inside : i < length ms) (m : Mod) (is : m ≡ slice_index_or ms i m) where
  here : drop i ms ≡ m ∷ drop (i + 1) ms
  here = drop_more ms i m inside ∙ ap (λ n. n ∷ drop (i + 1) ms) (sym is)

  step : First m (drop (i + 1) ms) u g.last
  step = first_of m (drop (i + 1) ms) u g.last (ap (λ ns. changed_by_all ns u) (sym here) ∙ g.applies)

  pub pass_applies : IsOk (changed m u)
  pass_applies = applies_one m u step.between step.one

  -- one modification more
  pub passes_on : (w : WideTree) (next : List WideTree) (after1 : ℕ) → changed m u ≡ Ok w → next ≡ ts ++ u ∷ []
      → after1 ≤ after + (length (path_of m) + 3) → Passing ms (i + 1) next t w before after1
  passes_on w next after1 e is_next few = record {
    trees =
        ap (λ xs. xs ++ trees_before (drop (i + 1) ms) w) is_next
        ∙ append_assoc ts (u ∷ []) (trees_before (drop (i + 1) ms) w)
        ∙ ap (λ xs. ts ++ xs) (sym (trees_after m (drop (i + 1) ms) u w e))
        ∙ ap (λ ns. ts ++ trees_before ns u) (sym here) ∙ g.trees;
    last = g.last;
    applies =
        sym (all_after m (drop (i + 1) ms) u w e) ∙ ap (λ ns. changed_by_all ns u) (sym here) ∙ g.applies;
    steps =
        let cost : cost_of (drop i ms) ≡ (length (path_of m) + 3) + cost_of (drop (i + 1) ms) = ap cost_of here in
        omega (arith, cost, few, g.steps);
  }

pub passed : (ms : List Mod) (i : ℕ) (ts : List WideTree) (t u : WideTree) (before after : ℕ)
    → Passing ms i ts t u before after → drop i ms ≡ [] → ts ≡ trees_before ms t
passed ms i ts t u before after g e =
    sym (append-nil ts) ∙ ap (λ xs. ts ++ xs) (sym (ap (λ ns. trees_before ns u) e)) ∙ g.trees

-- ---- paths that no modification touches

aside : (f : List ℕ → Option (List ℕ)) (q : List ℕ) (a b : Option (List ℕ)) → (is_none a && is_none b) ≡ true
    → option_map_or f a (if is_some b then None else Some q) ≡ Some q
aside f q None None h = refl
aside f q None (Some y) h = absurd (cc)
aside f q (Some x) b h = absurd (cc)

pub beside_stays : (m : Mod) (t v : WideTree) (q : List ℕ) → changed m t ≡ Ok v → is_beside (path_of m) q ≡ true
    → carried_path m t q ≡ Some q
beside_stays m t v q e h = by (subtree t (path_of m)) refl
  where
    by : (o : Option WideTree) → subtree t (path_of m) ≡ o → carried_path m t q ≡ Some q
    by None is =
        let off : changed m t ≡ Err (NoPath (leading t (path_of m))) =
        ap (λ o. option_map_or (λ s. put_back t (path_of m) (changed_at m s)) o (Err (NoPath (leading t (path_of m))))) is in
        let both : Ok v ≡ Err (NoPath (leading t (path_of m))) = sym e ∙ off in
        absurd (cc)
    by (Some s) is =
        ap (λ o. option_map_or (λ z. option_map_or (λ r. option_map (λ w. path_of m ++ w) (carried_at m z r))
        (rest_behind (path_of m) q) (if is_some (rest_behind q (path_of m)) then None else Some q)) o None) is
        ∙ aside (λ r. option_map (λ w. path_of m ++ w) (carried_at m s r)) q (rest_behind (path_of m) q)
        (rest_behind q (path_of m)) h

both_true : (a b : Bool) → (a && b) ≡ true → (a ≡ true) × (b ≡ true)
both_true true b h = (refl, h)
both_true false b h = absurd (cc)

pub beside_all_stays : (ms : List Mod) (t u : WideTree) (q : List ℕ) → changed_by_all ms t ≡ Some u
    → is_beside_all ms q ≡ true → carried_by_all ms t q ≡ Some q
beside_all_stays [] t u q e h = refl
beside_all_stays (m ∷ ms) t u q e h =
    let f = first_of m ms t u e in
    let both = both_true (is_beside (path_of m) q) (is_beside_all ms q) h in
    path_after m ms t f.between q f.one
    ∙ ap (option_and_then (carried_by_all ms f.between)) (beside_stays m t f.between q f.one both.0)
    ∙ beside_all_stays ms f.between u q f.others both.1

-- one modification less is left to look at
pub beside_more : (ms : List Mod) (i : ℕ) (m : Mod) (q : List ℕ) → i < length ms → m ≡ slice_index_or ms i m
    → is_beside (path_of m) q ≡ true → is_beside_all (drop (i + 1) ms) q ≡ true → is_beside_all (drop i ms) q ≡ true
beside_more ms i m q inside is h rest =
    ap (λ ns. is_beside_all ns q) (drop_more ms i m inside ∙ ap (λ n. n ∷ drop (i + 1) ms) (sym is))
    ∙ ap (λ b. b && is_beside_all (drop (i + 1) ms) q) h ∙ rest
