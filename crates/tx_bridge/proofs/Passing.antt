-- A path that is carried through modifications, by the trees before each of them.
use Rattle.std.proofs.Common.{◌≡◌, ℕ, zero, suc, ◌+◌, ◌<◌, ◌≤◌, List, [], ◌∷◌, ◌++◌, length, drop, slice_index_or, map}
use Rattle.std.proofs.Common.{Option, Some, None, Ok, Err, refl, ap, sym, ◌∙◌, subst, arith, take}
use Rattle.std.proofs.lemmas.List.{drop_more, append_assoc, append-nil, length-drop, drop_all, take_more}
use Rattle.std.specs.Option.{option_map_or}
use Rattle.std.specs.Option.{IsSome}
use Rattle.std.specs.Prelude.{IsOk, option_and_then}
use Rattle.tx_tree.specs.WideTree.{WideTree}
use Rattle.tx_tree.specs.Paths.{subtree}
use Rattle.tx_mod.specs.declared.mods.Mod.{Mod}
use Rattle.tx_mod.specs.Changes.{Outcome, changed}
use Rattle.tx_mod.specs.Moves.{carried_path}
use Rattle.tx_mod.specs.Mods.{path_of}
use Rattle.tx_mod.specs.Followed.{CarriesSubtree, changed_by_all, carried_by_all, outcome_tree}
use Rattle.tx_mod.specs.InTurn.{cost_of}
use Rattle.tx_bridge.specs.declared.bridge.Bridge.{Bridge}
use Rattle.tx_bridge.specs.Carrying.{through, Leads, AllStand}
use Rattle.tx_bridge.specs.Slots.{bodies_of, paths_in}
use Rattle.tx_bridge.proofs.Arrived.{lead_one}
use Rattle.tx_bridge.specs.Courses.{trees_before, IsPassage}
use Rattle.tx_bridge.proofs.Going.{first_applies}

-- ---- the trees are collected

-- After i modifications, at the tree u, with the trees before each of them.
pub record Passing (ms : List Mod) (i : ℕ) (ts : List WideTree) (t u : WideTree) (before after : ℕ) : Type 0 where
  pub trees : ts ++ trees_before (drop i ms) u ≡ trees_before ms t
  pub applies : (v : WideTree) × (changed_by_all (drop i ms) u ≡ Some v)
  pub steps : after + cost_of (drop i ms) ≤ before + cost_of ms

pub pass_starts : (ms : List Mod) (t u : WideTree) (before : ℕ) → u ≡ t
    → ((v : WideTree) × (changed_by_all ms t ≡ Some v)) → Passing ms 0 [] t u before before
pass_starts ms t u before e applies =
    let P : WideTree → Type 0 = λ s. Passing ms 0 [] t s before before in
    subst P (sym e) (record { trees = refl; applies = applies; steps = omega arith })

-- the modification of the tree leads on
goes_to : (m : Mod) (ms : List Mod) (u w : WideTree) → changed m u ≡ Ok w
    → trees_before (m ∷ ms) u ≡ u ∷ trees_before ms w
goes_to m ms u w e = ap (λ oc. u ∷ option_map_or (trees_before ms) (outcome_tree oc) []) e

all_to : (m : Mod) (ms : List Mod) (u w : WideTree) → changed m u ≡ Ok w
    → changed_by_all (m ∷ ms) u ≡ changed_by_all ms w
all_to m ms u w e = ap (λ oc. option_and_then (changed_by_all ms) (outcome_tree oc)) e

module _ (ms : List Mod) (i : ℕ) (ts : List WideTree) (t u : WideTree) (before after : ℕ)
    (g : Passing ms i ts t u before after) (inside : i < length ms) (d : Mod) where
  here : drop i ms ≡ slice_index_or ms i d ∷ drop (i + 1) ms
  here = drop_more ms i d inside

  pub pass_applies : IsOk (changed (slice_index_or ms i d) u)
  pass_applies =
      first_applies (slice_index_or ms i d) (drop (i + 1) ms) u g.applies.0
      (ap (λ ns. changed_by_all ns u) (sym here) ∙ g.applies.1)

  -- one modification more
  pub passes_on : (m : Mod) (w : WideTree) (next : List WideTree) (after1 : ℕ) → m ≡ slice_index_or ms i d
      → changed m u ≡ Ok w → next ≡ ts ++ u ∷ [] → after1 ≤ after + (length (path_of m) + 3)
      → Passing ms (i + 1) next t w before after1
  passes_on m w next after1 is e is_next few =
      let split : drop i ms ≡ m ∷ drop (i + 1) ms = here ∙ ap (λ n. n ∷ drop (i + 1) ms) (sym is) in
      record {
        trees =
            ap (λ xs. xs ++ trees_before (drop (i + 1) ms) w) is_next
            ∙ append_assoc ts (u ∷ []) (trees_before (drop (i + 1) ms) w)
            ∙ ap (λ xs. ts ++ xs) (sym (goes_to m (drop (i + 1) ms) u w e))
            ∙ ap (λ ns. ts ++ trees_before ns u) (sym split) ∙ g.trees;
        applies = (
          g.applies.0,
          sym (all_to m (drop (i + 1) ms) u w e) ∙ ap (λ ns. changed_by_all ns u) (sym split) ∙ g.applies.1,
        );
        steps =
            let cost : cost_of (drop i ms) ≡ (length (path_of m) + 3) + cost_of (drop (i + 1) ms) = ap cost_of split in
            omega (arith, cost, few, g.steps);
      }

pub passed : (ms : List Mod) (i : ℕ) (ts : List WideTree) (t u : WideTree) (before after : ℕ)
    → Passing ms i ts t u before after → drop i ms ≡ [] → ts ≡ trees_before ms t
passed ms i ts t u before after g e =
    sym (append-nil ts) ∙ ap (λ xs. ts ++ xs) (sym (ap (λ ns. trees_before ns u) e)) ∙ g.trees

-- ---- a path is carried along them

-- After i modifications of a passage that begins at t, the path leads in the tree that is there.
pub record Along (ms : List Mod) (ts : List WideTree) (t : WideTree) (i : ℕ) (old now : List ℕ) : Type 0 where
  pub tree : WideTree
  pub trees : drop i ts ≡ trees_before (drop i ms) tree
  pub applies : (v : WideTree) × (changed_by_all (drop i ms) tree ≡ Some v)
  pub leads : Leads tree (Some now)
  pub place : carried_by_all (drop i ms) tree now ≡ carried_by_all ms t old

pub along_starts : (ms : List Mod) (ts : List WideTree) (t : WideTree) (p : List ℕ) → IsPassage ms t ts
    → Leads t (Some p) → Along ms ts t 0 p p
along_starts ms ts t p h lead =
    record { tree = t; trees = h.trees; applies = (h.last, h.made); leads = lead; place = refl }

tail_of : (x : WideTree) (xs : List WideTree) (y : WideTree) (ys : List WideTree) → x ∷ xs ≡ y ∷ ys
    → (x ≡ y) × (xs ≡ ys)
tail_of x xs y ys e = (cc, cc)

after_one : (m : Mod) (ms : List Mod) (t : WideTree) (q : List ℕ) (o : Outcome) → changed m t ≡ o → IsOk o
    → (w : WideTree) × (changed m t ≡ Ok w)
after_one m ms t q (Ok w) e h = (w, e)
after_one m ms t q (Err cause) e h = cc

module _ (ms : List Mod) (ts : List WideTree) (t : WideTree) (i : ℕ) (old now : List ℕ) (a : Along ms ts t i old now)
    (inside : i < length ms) (d : Mod) where
  at_mod : drop i ms ≡ slice_index_or ms i d ∷ drop (i + 1) ms
  at_mod = drop_more ms i d inside

  pub along_applies : IsOk (changed (slice_index_or ms i d) a.tree)
  along_applies =
      first_applies (slice_index_or ms i d) (drop (i + 1) ms) a.tree a.applies.0
      (ap (λ ns. changed_by_all ns a.tree) (sym at_mod) ∙ a.applies.1)

  next_tree : (w : WideTree) × (changed (slice_index_or ms i d) a.tree ≡ Ok w)
  next_tree =
      after_one (slice_index_or ms i d) ms a.tree now (changed (slice_index_or ms i d) a.tree) refl along_applies

  ahead : drop i ts ≡ a.tree ∷ trees_before (drop (i + 1) ms) next_tree.0
  ahead =
      a.trees ∙ ap (λ ns. trees_before ns a.tree) at_mod
      ∙ goes_to (slice_index_or ms i d) (drop (i + 1) ms) a.tree next_tree.0 next_tree.1

  here_tree : (xs : List WideTree) → drop i ts ≡ xs → xs ≡ a.tree ∷ trees_before (drop (i + 1) ms) next_tree.0
      → i < length ts
  here_tree [] is e = cc
  here_tree (x ∷ xs) is e =
      let some : length (drop i ts) ≡ suc (length xs) = ap length is in omega (arith, some, length-drop i ts)

  pub tree_within : i < length ts
  tree_within = here_tree (drop i ts) refl ahead

  behind_it : (e : WideTree)
      → (slice_index_or ts i e ≡ a.tree) × (drop (i + 1) ts ≡ trees_before (drop (i + 1) ms) next_tree.0)
  behind_it e =
      tail_of (slice_index_or ts i e) (drop (i + 1) ts) a.tree (trees_before (drop (i + 1) ms) next_tree.0)
      (sym (drop_more ts i e tree_within) ∙ ahead)

  -- the tree that is read
  pub tree_is : (e : WideTree) → slice_index_or ts i e ≡ a.tree
  tree_is e = (behind_it e).0

  split_all : carried_by_all (drop i ms) a.tree now
      ≡ option_and_then (carried_by_all (drop (i + 1) ms) next_tree.0)
      (carried_path (slice_index_or ms i d) a.tree now)
  split_all =
      ap (λ ns. carried_by_all ns a.tree now) at_mod
      ∙ ap (λ oc. option_and_then (λ v. option_and_then (carried_by_all (drop (i + 1) ms) v)
      (carried_path (slice_index_or ms i d) a.tree now)) (outcome_tree oc)) next_tree.1

  -- the path leads nowhere
  pub along_ends : carried_path (slice_index_or ms i d) a.tree now ≡ None → None ≡ carried_by_all ms t old
  along_ends e =
      sym (ap (option_and_then (carried_by_all (drop (i + 1) ms) next_tree.0)) e) ∙ sym split_all ∙ a.place

  -- it leads on
  pub along_next : ((q : List ℕ) → CarriesSubtree (slice_index_or ms i d) a.tree q) → (next : List ℕ)
      → carried_path (slice_index_or ms i d) a.tree now ≡ Some next → Along ms ts t (i + 1) old next
  along_next law next e = record {
    tree = next_tree.0;
    trees = (behind_it a.tree).1;
    applies = (
      a.applies.0,
      sym (all_to (slice_index_or ms i d) (drop (i + 1) ms) a.tree next_tree.0 next_tree.1)
          ∙ ap (λ ns. changed_by_all ns a.tree) (sym at_mod) ∙ a.applies.1,
    );
    leads = (a.leads.0, law now next_tree.0 a.leads.0 next next_tree.1 a.leads.1 e);
    place =
        sym (ap (option_and_then (carried_by_all (drop (i + 1) ms) next_tree.0)) e) ∙ sym split_all ∙ a.place;
  }

-- what is read of both lists
module _ (ms : List Mod) (ts : List WideTree) (t : WideTree) (i : ℕ) (old now : List ℕ) (a : Along ms ts t i old now)
    (inside : i < length ms) (m : Mod) (x : WideTree) (is_m : m ≡ slice_index_or ms i m)
    (is_x : x ≡ slice_index_or ts i x) where
  tree_read : x ≡ a.tree
  tree_read = is_x ∙ tree_is ms ts t i old now a inside m x

  pub read_applies : IsOk (changed m x)
  read_applies =
      subst (λ y. IsOk (changed m y)) (sym tree_read)
      (subst (λ n. IsOk (changed n a.tree)) (sym is_m) (along_applies ms ts t i old now a inside m))

  pub read_leads : IsSome (subtree x now)
  read_leads =
      subst (λ y. IsSome (subtree y now)) (sym tree_read) (subst IsSome (sym a.leads.1) refl)

  same_path : carried_path (slice_index_or ms i m) a.tree now ≡ carried_path m x now
  same_path = ap (λ n. carried_path n a.tree now) (sym is_m) ∙ ap (λ y. carried_path m y now) (sym tree_read)

  pub read_ends : carried_path m x now ≡ None → None ≡ carried_by_all ms t old
  read_ends e = along_ends ms ts t i old now a inside m (same_path ∙ e)

  pub read_next : ((n : Mod) (s : WideTree) (q : List ℕ) → CarriesSubtree n s q) → (next : List ℕ)
      → carried_path m x now ≡ Some next → Along ms ts t (i + 1) old next
  read_next law next e =
      along_next ms ts t i old now a inside m (λ q. law (slice_index_or ms i m) a.tree q) next (same_path ∙ e)

pub along_whole : (ms : List Mod) (ts : List WideTree) (t : WideTree) (i : ℕ) (old now : List ℕ)
    → Along ms ts t i old now → length ms ≤ i → Some now ≡ carried_by_all ms t old
along_whole ms ts t i old now a all =
    sym (ap (λ ns. carried_by_all ns a.tree now) (drop_all i ms all)) ∙ a.place

-- ---- where units are

pub unit_leads : (t : WideTree) (bs : List Bridge) (i : ℕ) (b : Bridge) → AllStand t (bodies_of bs) → i < length bs
    → b ≡ slice_index_or bs i b → Leads t b.unit.path
unit_leads t bs i b stand inside is =
    subst (λ (x : Bridge). Leads t x.unit.path) (sym is) (by bs i stand inside)
  where
    by : (cs : List Bridge) (k : ℕ) → AllStand t (bodies_of cs) → k < length cs
        → Leads t (slice_index_or cs k b).unit.path
    by [] k h l = absurd (omega (arith, l))
    by (x ∷ cs) zero h l = lead_one t x.unit h.0
    by (x ∷ cs) (suc k) h l = by cs k h.1 (omega (arith, l))

pub places_next : (ms : List Mod) (t : WideTree) (bs : List Bridge) (i : ℕ) (b : Bridge)
    (old new : List (Option (List ℕ))) (place : Option (List ℕ)) → i < length bs → b ≡ slice_index_or bs i b
    → old ≡ map (through ms t) (paths_in (take i bs)) → place ≡ through ms t b.unit.path → new ≡ old ++ place ∷ []
    → new ≡ map (through ms t) (paths_in (take (i + 1) bs))
places_next ms t bs i b old new place inside is was place_is is_new =
    is_new ∙ ap (λ qs. qs ++ place ∷ []) was
    ∙ ap (λ q. map (through ms t) (paths_in (take i bs)) ++ q ∷ [])
    (place_is ∙ ap (λ (x : Bridge). through ms t x.unit.path) is)
    ∙ sym (map_map_snoc (take i bs) (slice_index_or bs i b))
    ∙ ap (λ cs. map (through ms t) (paths_in cs)) (sym (take_more bs i b inside))
  where
    map_map_snoc : (cs : List Bridge) (x : Bridge) → map (through ms t) (paths_in (cs ++ x ∷ []))
        ≡ map (through ms t) (paths_in cs) ++ through ms t x.unit.path ∷ []
    map_map_snoc [] x = refl
    map_map_snoc (y ∷ cs) x = ap (λ qs. through ms t y.unit.path ∷ qs) (map_map_snoc cs x)
