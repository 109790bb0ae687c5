-- The names and trees of a layer, in order, in the state of the whole.
use Rattle.std.proofs.Common.{◌≡◌, ℕ, ◌+◌, ◌*◌, ◌-◌, ◌≤◌, List, [], ◌∷◌, ◌++◌, length, refl}
use Rattle.std.proofs.Common.{ap, sym, ◌∙◌, append_assoc, arith}
use Rattle.std.specs.Prelude.{Option, Some, None, option_and_then}
use Rattle.std.specs.Option.{option_map_or}
use Rattle.tx_tree.specs.WideTree.{WideTree, leaf, nodes_of}
use Rattle.tx_env.specs.Pairs.{Name}
use Rattle.tx_origin.specs.Values.{WideValue, plain}
use Rattle.tx_origin.specs.Under.{value_under}
use Rattle.tx_origin.proofs.Under.{plain_under}
use Rattle.tx_exec_form.specs.Runs.{Before, State}
use Rattle.tx_exec_form.specs.Frames.{top}
use Rattle.tx_exec_form.specs.Rows.{Sets, ex}
use Rattle.tx_exec_form.specs.Evaluated.{WideTrace, paid}
use Rattle.tx_exec_form.proofs.Tracing.{allowed}
use Rattle.tx_parts.specs.Atop.{env_atop}
use Rattle.tx_parts.specs.Adding.{part_ran}
use Rattle.tx_parts.specs.Shells.{bare, in_turn}
use Rattle.tx_parts.specs.Composed.{SoFar, with_child, children_from}
use Rattle.tx_parts.specs.Layered.{evaluates_bare, layer_pairs, as_sets}
use Rattle.tx_parts.specs.LayerCosts.{holds_nothing, set_nodes as traced_nodes, tree_counts, tree_counts_from}
use Rattle.tx_parts.proofs.PartRuns.{part_is, atop_twice}
use Rattle.tx_parts.proofs.Children.{FirstDone, first_done}
use Rattle.tx_parts.proofs.LayerValues.{pairs_past, pairs_more}
use Rattle.tx_replay.specs.Seen.{Seen}
use Rattle.tx_replay.specs.Walks.{Stage, Walked, Stopped, Went, on_went, moved, spent, counted, LayerValues}
use Rattle.tx_replay.specs.Walks.{setting_done, setting_walk, values_walk, set_nodes}
use Rattle.tx_replay.proofs.States.{behind, one_behind}

-- ---- what names are to have

sets_more : (ps : List (Name × WideTree)) (x : Name) (t : WideTree) →
    as_sets (ps ++ (x, t) ∷ []) ≡ as_sets ps ++ (x, Some t) ∷ []
sets_more [] x t = refl
sets_more (p ∷ ps) x t = ap (λ qs. (p.0, Some p.1) ∷ qs) (sets_more ps x t)

nodes_more : (ps : Sets) (x : Name) (t : WideTree) →
    set_nodes (ps ++ (x, Some t) ∷ []) ≡ set_nodes ps + nodes_of t
nodes_more [] x t = omega arith
nodes_more (p ∷ ps) x t =
    let rest : set_nodes (ps ++ (x, Some t) ∷ []) ≡ set_nodes ps + nodes_of t = nodes_more ps x t in
    omega (arith, rest)

two_more : (vs : List WideValue) (n v : WideValue) → length ((vs ++ n ∷ []) ++ v ∷ []) ≡ 2 + length vs
two_more [] n v = refl
two_more (u ∷ us) n v =
    let rest : length ((us ++ n ∷ []) ++ v ∷ []) ≡ 2 + length us = two_more us n v in
    omega (arith, rest)

names_more : (done : List Name) (x : Name) → length (done ++ x ∷ []) ≡ 1 + length done
names_more [] x = refl
names_more (d ∷ ds) x =
    let rest : length (ds ++ x ∷ []) ≡ 1 + length ds = names_more ds x in
    omega (arith, rest)

-- the values of a name and its tree more
count_more : (ds : List Name) (x : Name) (vs : List WideValue) (n v : WideValue) → length vs ≡ 2 * length ds →
    length ((vs ++ n ∷ []) ++ v ∷ []) ≡ 2 * length (ds ++ x ∷ [])
count_more ds x vs n v h =
    let two : length ((vs ++ n ∷ []) ++ v ∷ []) ≡ 2 + length vs = two_more vs n v in
    let one : length (ds ++ x ∷ []) ≡ 1 + length ds = names_more ds x in
    omega (arith, two, one, h)

sets_next : (ds : List Name) (x : Name) (vs : List WideValue) (n v : WideValue) → length vs ≡ 2 * length ds →
    as_sets (layer_pairs ds vs) ++ (x, Some (plain v)) ∷ [] ≡
    as_sets (layer_pairs (ds ++ x ∷ []) ((vs ++ n ∷ []) ++ v ∷ []))
sets_next ds x vs n v h =
    sym (sets_more (layer_pairs ds vs) x (plain v))
    ∙ ap as_sets (sym (pairs_more ds x vs n v h))
    ∙ ap (λ us. as_sets (layer_pairs (ds ++ x ∷ []) us)) (sym (append_assoc vs (n ∷ []) (v ∷ [])))

-- the values with the names so far
abbrev pub values_at : List Name → SoFar → LayerValues
values_at ds a = record { values = a.values; sets = as_sets (layer_pairs ds a.values) }

values_next : (ds : List Name) (x : Name) (a z : SoFar) (n v : WideValue) → length a.values ≡ 2 * length ds →
    z.values ≡ (a.values ++ n ∷ []) ++ v ∷ [] →
    setting_done (values_at ds a) x n v ≡ values_at (ds ++ x ∷ []) z
values_next ds x a z n v h is =
    ap (λ us. record { values = us; sets = as_sets (layer_pairs ds a.values) ++ (x, Some (plain v)) ∷ [] })
    (sym (append_assoc a.values (n ∷ []) (v ∷ [])))
    ∙ ap (λ ps. record { values = (a.values ++ n ∷ []) ++ v ∷ []; sets = ps }) (sets_next ds x a.values n v h)
    ∙ ap (λ us. record { values = us; sets = as_sets (layer_pairs (ds ++ x ∷ []) us) }) (sym is)

-- ---- names and trees in order

module _ (k : ℕ) (e : Before) (s : State) (low : s.slack ≤ k) where
  abbrev inside : Before
  inside = env_atop s.own e

  abbrev pub stage_at : List Seen → ℕ → SoFar → Stage
  stage_at done count a = record { state = behind k s a; done = done; count = count }

  abbrev pub values_ended : List Name → List Seen → ℕ → Option SoFar → Walked LayerValues
  values_ended ds done n None = Stopped n
  values_ended ds done n (Some z) = Went (values_at ds z) (stage_at done n z)

  -- a tree of number i without an origin
  tree_ran : (i : ℕ) (a : SoFar) (t : WideTree) → ex k (bare t) top e (behind k s a) ≡
      part_ran k (i ∷ []) (behind k s a) (evaluates_bare k (s.left - a.cost) t (env_atop a.writes inside))
  tree_ran i a t =
      part_is k (i ∷ []) (bare t) e (behind k s a) (omega (arith, low))
      ∙ ap (λ d. part_ran k (i ∷ []) (behind k s a) (evaluates_bare k (s.left - a.cost) t d))
      (atop_twice a.writes s.own e)

  module _ (i : ℕ) (ds : List Name) (x : Name) (xs : List Name) (t : WideTree) (ts : List WideTree) (a : SoFar)
      (done : List Seen) (count : ℕ) (twice : length a.values ≡ 2 * length ds)
      (go : (z : SoFar) (n : ℕ) → length z.values ≡ 2 * length (ds ++ x ∷ []) →
      values_walk k (values_at (ds ++ x ∷ []) z) xs ts e (stage_at done n z) ≡
      values_ended ((ds ++ x ∷ []) ++ xs) done
      (n + tree_counts_from holds_nothing paid k s.left (i + 1 + 1) z xs ts inside)
      (children_from (evaluates_bare k) s.left (i + 1 + 1) z (in_turn xs ts) inside)) where
    abbrev then_rest : LayerValues → Before → Stage → Walked LayerValues
    then_rest b = values_walk k b xs ts

    abbrev then_done : WideValue → WideValue → Before → Stage → Walked LayerValues
    then_done name v = λ e1 s1. Went (setting_done (values_at ds a) x name v) s1

    abbrev counts_rest : SoFar → ℕ
    counts_rest z = tree_counts_from holds_nothing paid k s.left (i + 1 + 1) z xs ts inside

    abbrev rest_from : SoFar → Option SoFar
    rest_from z = children_from (evaluates_bare k) s.left (i + 1 + 1) z (in_turn xs ts) inside

    abbrev all_names : List Name
    all_names = ds ++ x ∷ xs

    abbrev tree_counted : SoFar → Option WideTrace → ℕ
    tree_counted b o = paid (s.left - b.cost) o + option_map_or (λ trace. counts_rest (with_child (i + 1) b trace)) o 0

    by_tree : (name : WideValue) (b : SoFar) (o : Option WideTrace) → b.values ≡ a.values ++ name ∷ [] →
        evaluates_bare k (s.left - b.cost) t (env_atop b.writes inside) ≡ o →
        on_went e then_rest (on_went e (then_done name)
        (spent (stage_at done count b) (part_ran k ((i + 1) ∷ []) (behind k s b) o))) ≡
        values_ended all_names done (count + tree_counted b o)
        (option_and_then (λ trace. rest_from (with_child (i + 1) b trace)) o)
    by_tree name b None is q =
        let same : count + (s.left - b.cost) ≡ count + ((s.left - b.cost) + 0) = omega arith in
        ap Stopped same
    by_tree name b (Some trace) is q =
        let few : trace.cost ≤ s.left - b.cost =
        (allowed k (s.left - b.cost) (bare t) (env_atop b.writes inside) trace q).0 in
        let taken : count + ((s.left - b.cost) - ((s.left - b.cost) - trace.cost)) ≡ count + trace.cost =
        omega (arith, few) in
        let v : WideValue = value_under ((i + 1) ∷ []) trace.value in
        let values : (with_child (i + 1) b trace).values ≡
        (a.values ++ name ∷ []) ++ value_under ((i + 1) ∷ []) trace.value ∷ [] =
        ap (λ us. us ++ value_under ((i + 1) ∷ []) trace.value ∷ []) is in
        let total : (count + trace.cost) + counts_rest (with_child (i + 1) b trace) ≡
        count + (trace.cost + counts_rest (with_child (i + 1) b trace)) = omega arith in
        ap (λ z. then_rest (setting_done (values_at ds a) x name (value_under ((i + 1) ∷ []) trace.value)) e (record {
          state = z;
          done = done;
          count = count + ((s.left - b.cost) - ((s.left - b.cost) - trace.cost));
        })) (one_behind k (i + 1) s b trace)
        ∙ ap (λ n. then_rest (setting_done (values_at ds a) x name (value_under ((i + 1) ∷ []) trace.value)) e
        (stage_at done n (with_child (i + 1) b trace))) taken
        ∙ ap (λ w. then_rest w e (stage_at done (count + trace.cost) (with_child (i + 1) b trace)))
        (values_next ds x a (with_child (i + 1) b trace) name (value_under ((i + 1) ∷ []) trace.value) twice values)
        ∙ go (with_child (i + 1) b trace) (count + trace.cost)
        (ap length values ∙ count_more ds x a.values name (value_under ((i + 1) ∷ []) trace.value) twice)
        ∙ ap (λ n. values_ended ((ds ++ x ∷ []) ++ xs) done n (rest_from (with_child (i + 1) b trace))) total
        ∙ ap (λ ys. values_ended ys done (count + (trace.cost + counts_rest (with_child (i + 1) b trace)))
        (rest_from (with_child (i + 1) b trace))) (append_assoc ds (x ∷ []) xs)

    abbrev then_tree : WideValue → Before → Stage → Walked LayerValues
    then_tree name = λ e1 s1. on_went e1 (then_done name) (spent s1 (ex k (bare t) top e1 s1.state))

    by_name : (o : Option WideTrace) →
        evaluates_bare k (s.left - a.cost) (leaf x) (env_atop a.writes inside) ≡ o →
        on_went e then_rest (on_went e then_tree (moved (stage_at done count a)
        (part_ran k (i ∷ []) (behind k s a) o))) ≡
        values_ended all_names done (count + option_map_or (λ name. tree_counts holds_nothing paid k s.left (i + 1)
        (with_child i a name) t (λ b. counts_rest b) inside) o 0)
        (option_and_then (λ name. option_and_then
        (λ trace. rest_from (with_child (i + 1) (with_child i a name) trace))
        (evaluates_bare k (s.left - (with_child i a name).cost) t
        (env_atop (with_child i a name).writes inside))) o)
    by_name None q =
        let same : count ≡ count + 0 = omega arith in
        ap Stopped same
    by_name (Some name) q =
        ap (λ z. on_went e then_rest (then_tree (value_under (i ∷ []) name.value) e
        (record { state = z; done = done; count = count }))) (one_behind k i s a name)
        ∙ ap (λ r. on_went e then_rest (on_went e (then_done (value_under (i ∷ []) name.value))
        (spent (stage_at done count (with_child i a name)) r))) (tree_ran (i + 1) (with_child i a name) t)
        ∙ by_tree (value_under (i ∷ []) name.value) (with_child i a name)
        (evaluates_bare k (s.left - (with_child i a name).cost) t (env_atop (with_child i a name).writes inside))
        refl refl

    pub setting_is : values_walk k (values_at ds a) (x ∷ xs) (t ∷ ts) e (stage_at done count a) ≡
        values_ended all_names done
        (count + tree_counts_from holds_nothing paid k s.left i a (x ∷ xs) (t ∷ ts) inside)
        (children_from (evaluates_bare k) s.left i a (in_turn (x ∷ xs) (t ∷ ts)) inside)
    unfolding setting_walk counted
    setting_is =
        ap (λ r. on_went e then_rest (on_went e then_tree (moved (stage_at done count a) r))) (tree_ran i a (leaf x))
        ∙ by_name (evaluates_bare k (s.left - a.cost) (leaf x) (env_atop a.writes inside)) refl

  none_left : (ds : List Name) (done : List Seen) (count : ℕ) (a : SoFar) (xs : List Name) →
      layer_pairs ds a.values ≡ layer_pairs (ds ++ xs) a.values →
      Went (values_at ds a) (stage_at done count a) ≡ values_ended (ds ++ xs) done (count + 0) (Some a)
  none_left ds done count a xs h =
      let same : count ≡ count + 0 = omega arith in
      ap (λ ps. Went (record { values = a.values; sets = as_sets ps }) (stage_at done count a)) h
      ∙ ap (λ n. Went (values_at (ds ++ xs) a) (stage_at done n a)) same

  pub values_are : (i : ℕ) (ds xs : List Name) (ts : List WideTree) (a : SoFar) (done : List Seen) (count : ℕ) →
      length a.values ≡ 2 * length ds →
      values_walk k (values_at ds a) xs ts e (stage_at done count a) ≡
      values_ended (ds ++ xs) done
      (count + tree_counts_from holds_nothing paid k s.left i a xs ts inside)
      (children_from (evaluates_bare k) s.left i a (in_turn xs ts) inside)
  values_are i ds [] ts a done count h = none_left ds done count a [] (sym (pairs_past ds [] a.values h))
  values_are i ds (x ∷ xs) [] a done count h =
      none_left ds done count a (x ∷ xs) (sym (pairs_past ds (x ∷ xs) a.values h))
  values_are i ds (x ∷ xs) (t ∷ ts) a done count h =
      setting_is i ds x xs t ts a done count h
      (λ z n g. values_are (i + 1 + 1) (ds ++ x ∷ []) xs ts z done n g)

-- ---- the nodes of what names are to have

module _ (k c : ℕ) (e : Before) (i : ℕ) (ds : List Name) (x : Name) (xs : List Name) (t : WideTree)
    (ts : List WideTree) (a z : SoFar) (h : length a.values ≡ 2 * length ds) where
  abbrev counts_nodes : ℕ → SoFar → ℕ
  counts_nodes j y = tree_counts_from holds_nothing traced_nodes k c j y xs ts e

  abbrev GoesOn : Type 0
  GoesOn = (y : SoFar) → length y.values ≡ 2 * length (ds ++ x ∷ []) →
      children_from (evaluates_bare k) c (i + 1 + 1) y (in_turn xs ts) e ≡ Some z →
      set_nodes (as_sets (layer_pairs ((ds ++ x ∷ []) ++ xs) z.values)) ≡
      set_nodes (as_sets (layer_pairs (ds ++ x ∷ []) y.values)) + counts_nodes (i + 1 + 1) y

  abbrev AreNodes : Type 0
  AreNodes = set_nodes (as_sets (layer_pairs (ds ++ x ∷ xs) z.values)) ≡
      set_nodes (as_sets (layer_pairs ds a.values))
      + tree_counts_from holds_nothing traced_nodes k c i a (x ∷ xs) (t ∷ ts) e

  by_second : (name : WideTrace) → evaluates_bare k (c - a.cost) (leaf x) (env_atop a.writes e) ≡ Some name →
      FirstDone (evaluates_bare k) c (i + 1) (with_child i a name) t (in_turn xs ts) e z → GoesOn → AreNodes
  by_second name first f go =
      let twice : length (with_child (i + 1) (with_child i a name) f.trace).values ≡ 2 * length (ds ++ x ∷ []) =
      count_more ds x a.values (value_under (i ∷ []) name.value) (value_under ((i + 1) ∷ []) f.trace.value) h in
      let rest : set_nodes (as_sets (layer_pairs ((ds ++ x ∷ []) ++ xs) z.values)) ≡
      set_nodes (as_sets (layer_pairs (ds ++ x ∷ []) (with_child (i + 1) (with_child i a name) f.trace).values))
      + counts_nodes (i + 1 + 1) (with_child (i + 1) (with_child i a name) f.trace) =
      go (with_child (i + 1) (with_child i a name) f.trace) twice f.others in
      let names : set_nodes (as_sets (layer_pairs ((ds ++ x ∷ []) ++ xs) z.values)) ≡
      set_nodes (as_sets (layer_pairs (ds ++ x ∷ xs) z.values)) =
      ap (λ ys. set_nodes (as_sets (layer_pairs ys z.values))) (append_assoc ds (x ∷ []) xs) in
      let one : set_nodes (as_sets
      (layer_pairs (ds ++ x ∷ []) (with_child (i + 1) (with_child i a name) f.trace).values)) ≡
      set_nodes (as_sets (layer_pairs ds a.values)) + nodes_of (plain f.trace.value) =
      ap set_nodes (sym (sets_next ds x a.values (value_under (i ∷ []) name.value)
      (value_under ((i + 1) ∷ []) f.trace.value) h))
      ∙ nodes_more (as_sets (layer_pairs ds a.values)) x (plain (value_under ((i + 1) ∷ []) f.trace.value))
      ∙ ap (λ u. set_nodes (as_sets (layer_pairs ds a.values)) + nodes_of u)
      (plain_under ((i + 1) ∷ []) f.trace.value) in
      let all : tree_counts_from holds_nothing traced_nodes k c i a (x ∷ xs) (t ∷ ts) e ≡
      nodes_of (plain f.trace.value)
      + counts_nodes (i + 1 + 1) (with_child (i + 1) (with_child i a name) f.trace) =
      ap (λ o. option_map_or (λ w. tree_counts holds_nothing traced_nodes k c (i + 1) (with_child i a w) t
      (λ y. tree_counts_from holds_nothing traced_nodes k c (i + 1 + 1) y xs ts e) e) o 0) first
      ∙ ap (λ o. traced_nodes (c - (with_child i a name).cost) o + option_map_or (λ w. counts_nodes
      (i + 1 + 1) (with_child (i + 1) (with_child i a name) w)) o 0) f.first in
      omega (arith, rest, names, one, all)

  by_first : FirstDone (evaluates_bare k) c i a (leaf x) (t ∷ in_turn xs ts) e z → GoesOn → AreNodes
  by_first f go =
      by_second f.trace f.first
      (first_done (evaluates_bare k) c (i + 1) (with_child i a f.trace) t (in_turn xs ts) e z f.others) go

module _ (k c : ℕ) (e : Before) where
  pub nodes_are : (i : ℕ) (ds xs : List Name) (ts : List WideTree) (a z : SoFar) →
      length a.values ≡ 2 * length ds → children_from (evaluates_bare k) c i a (in_turn xs ts) e ≡ Some z →
      set_nodes (as_sets (layer_pairs (ds ++ xs) z.values)) ≡
      set_nodes (as_sets (layer_pairs ds a.values)) + tree_counts_from holds_nothing traced_nodes k c i a xs ts e
  nodes_are i ds [] ts a z h q =
      let same : a ≡ z = cc in
      let none : set_nodes (as_sets (layer_pairs (ds ++ []) z.values)) ≡
      set_nodes (as_sets (layer_pairs ds a.values)) =
      ap (λ (b : SoFar). set_nodes (as_sets (layer_pairs (ds ++ []) b.values))) (sym same)
      ∙ ap (λ ps. set_nodes (as_sets ps)) (pairs_past ds [] a.values h) in
      omega (arith, none)
  nodes_are i ds (x ∷ xs) [] a z h q =
      let same : a ≡ z = cc in
      let none : set_nodes (as_sets (layer_pairs (ds ++ x ∷ xs) z.values)) ≡
      set_nodes (as_sets (layer_pairs ds a.values)) =
      ap (λ (b : SoFar). set_nodes (as_sets (layer_pairs (ds ++ x ∷ xs) b.values))) (sym same)
      ∙ ap (λ ps. set_nodes (as_sets ps)) (pairs_past ds (x ∷ xs) a.values h) in
      omega (arith, none)
  nodes_are i ds (x ∷ xs) (t ∷ ts) a z h q =
      by_first k c e i ds x xs t ts a z h
      (first_done (evaluates_bare k) c i a (leaf x) (t ∷ in_turn xs ts) e z q)
      (λ b p g. nodes_are (i + 1 + 1) (ds ++ x ∷ []) xs ts b z p g)
