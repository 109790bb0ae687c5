-- A walk comes to what evaluation of the tree does, with its parts and what it is charged.
use Rattle.std.proofs.Common.{◌≡◌, ℕ, suc, ◌+◌, ◌-◌, ◌≤◌, min, max, List, [], ◌∷◌, ◌++◌, map, refl}
use Rattle.std.proofs.Common.{ap, sym, ◌∙◌, arith}
use Rattle.std.proofs.lemmas.Grind.{common_steps}
use Rattle.std.proofs.lemmas.List.{map-append}
use Rattle.std.specs.Prelude.{Bool, true, false, nat_le, if◌then◌else◌, Option, Some, None, codes, option_and_then}
use Rattle.std.specs.Option.{option_map, option_map_or}
use Rattle.tx_tree.specs.WideTree.{WideTree}
use Rattle.tx_env.specs.Pairs.{Name}
use Rattle.tx_env.specs.Environments.{NameMap}
use Rattle.tx_origin.specs.Values.{WideValue, made, vals}
use Rattle.tx_origin.specs.Under.{value_under}
use Rattle.tx_origin.proofs.Under.{vals_under, under_nested}
use Rattle.tx_exec_form.specs.Runs.{Before, State, Over, Done, pay}
use Rattle.tx_exec_form.specs.Rows.{Sets, set_all, kept_of, sizes}
use Rattle.tx_exec_form.specs.Evaluated.{WideTrace}
use Rattle.tx_parts.specs.Atop.{atop, env_atop, past, both_looks}
use Rattle.tx_parts.specs.Adding.{after_part}
use Rattle.tx_parts.specs.Shells.{Layer, in_turn}
use Rattle.tx_parts.specs.Shellers.{IsSheller}
use Rattle.tx_parts.specs.Composed.{evaluates, SoFar, nothing_yet}
use Rattle.tx_parts.specs.Layered.{evaluates_bare, layer_values, layer_pairs, as_sets, layer_sets, layer_cost}
use Rattle.tx_parts.specs.Layered.{inside_layer, layer_trace, child_trace, layer_composed, evaluates_in}
use Rattle.tx_parts.specs.Parts.{Part, parts_by, parts_in}
use Rattle.tx_parts.specs.LayerCosts.{holds_nothing, layer_tree_costs, layer_set_nodes, costs_inside}
use Rattle.tx_parts.specs.LayerCosts.{layer_costs_by, layer_costs_in}
use Rattle.tx_parts.proofs.PartRuns.{atop_twice}
use Rattle.tx_parts.proofs.Children.{IsWithin, children_within, bare_bounded}
use Rattle.tx_parts.proofs.Restoring.{set_in, all_set, set_atop, again_is, looks_past}
use Rattle.tx_parts.proofs.Opened.{layers_are, LayerDone, layer_done}
use Rattle.tx_replay.specs.Held.{charges}
use Rattle.tx_replay.specs.Seen.{Seen, seen_in, Guide, charged, charged_in}
use Rattle.tx_replay.specs.OpenRows.{names_set}
use Rattle.tx_replay.specs.Walks.{Stage, Walked, Stopped, Went, on_went, moved, went, told, Walker, LayerWalker}
use Rattle.tx_replay.specs.Walks.{LayerValues, values_walk, no_values, set_nodes, layer_set, count_more, layer_walk}
use Rattle.tx_replay.specs.Walks.{child_walk}
use Rattle.tx_replay.proofs.States.{behind, atop_joined, looks_joined}
use Rattle.tx_replay.proofs.Charging.{none_inside}
use Rattle.tx_replay.proofs.ChildWalks.{Tells}
use Rattle.tx_replay.proofs.Entering.{stepped, at_state, entered_then, names_set_is}
use Rattle.tx_replay.proofs.Opened.{at_nothing}
use Rattle.tx_replay.proofs.Bare.{values_bare}
use Rattle.tx_replay.proofs.Layering.{values_at, values_ended, values_are, nodes_are}

-- what a walk of a tree in layers comes to, which is the child of number i
abbrev pub in_told : Guide → ℕ → List Layer → ℕ → List ℕ → WideTree → Before → Stage → Walked WideValue
in_told g k ls i path t e s =
    told k path s
    (map (seen_in g.stores) (parts_in g.sheller k ls i s.state.left path t (env_atop s.state.own e)))
    (charged_in g k ls i s.state.left path t (env_atop s.state.own e))
    (evaluates_in k ls i s.state.left t (env_atop s.state.own e))

abbrev pub TellsIn : Guide → ℕ → LayerWalker → Type 0
TellsIn g k inside = (ls : List Layer) (i : ℕ) (path : List ℕ) (t : WideTree) (e : Before) (s : Stage) →
    s.state.slack ≤ k → inside ls (path ++ i ∷ []) t e s ≡ in_told g k ls i path t e s

-- what runs out, and is charged nothing
pub over_in : (g : Guide) (k : ℕ) (ls : List Layer) (i : ℕ) (path : List ℕ) (t : WideTree) (e : Before) (s : Stage) →
    evaluates_in k ls i s.state.left t (env_atop s.state.own e) ≡ None →
    charged_in g k ls i s.state.left path t (env_atop s.state.own e) ≡ 0 →
    Stopped s.count ≡ in_told g k ls i path t e s
over_in g k ls i path t e s none nothing =
    let same : s.count ≡ s.count + charged_in g k ls i s.state.left path t (env_atop s.state.own e) =
    omega (arith, nothing) in
    ap Stopped same
    ∙ ap (told k path s
    (map (seen_in g.stores) (parts_in g.sheller k ls i s.state.left path t (env_atop s.state.own e)))
    (charged_in g k ls i s.state.left path t (env_atop s.state.own e))) (sym none)

-- ---- the parts and charges in layers, by their forms

module _ (g : Guide) (k : ℕ) (i c : ℕ) (path : List ℕ) (t : WideTree) (e : Before) where
  child_parts : parts_in g.sheller (suc k) [] i c path t e ≡ parts_by g.sheller k (c - 1) (path ++ i ∷ []) t e
  unfolding parts_in
  child_parts = refl

  child_costs : layer_costs_in holds_nothing g.sheller (suc k) [] c t e ≡
      layer_costs_by holds_nothing g.sheller k (c - 1) t e
  unfolding layer_costs_in
  child_costs = refl

  child_charged : charged_in g (suc k) [] i c path t e ≡ charged g k (c - 1) (path ++ i ∷ []) t e
  child_charged =
      ap (λ (ps : List Part). charges g.stores ps + layer_costs_in holds_nothing g.sheller (suc k) [] c t e) child_parts
      ∙ ap (λ n. charges g.stores (parts_by g.sheller k (c - 1) (path ++ i ∷ []) t e) + n) child_costs

  module _ (l : Layer) (ls : List Layer) where
    abbrev pub parts_after : Option SoFar → List Part
    parts_after o = option_map_or
        (λ a. parts_in g.sheller k ls i (c - layer_cost l.names a) path t (inside_layer l.names a e)) o []

    abbrev pub costs_after : Option SoFar → ℕ
    costs_after o = option_map_or
        (λ a. costs_inside holds_nothing k l a (layer_costs_in holds_nothing g.sheller k ls) c t e) o 0

    layer_parts : parts_in g.sheller (suc k) (l ∷ ls) i c path t e ≡ parts_after (layer_values k l c e)
    unfolding parts_in
    layer_parts = refl

    layer_costs : layer_costs_in holds_nothing g.sheller (suc k) (l ∷ ls) c t e ≡
        layer_tree_costs holds_nothing k l c e + costs_after (layer_values k l c e)
    unfolding layer_costs_in
    layer_costs = refl

    abbrev pub charged_after : Option SoFar → ℕ
    charged_after o =
        charges g.stores (parts_after o) + (layer_tree_costs holds_nothing k l c e + costs_after o)

    layer_charged : charged_in g (suc k) (l ∷ ls) i c path t e ≡ charged_after (layer_values k l c e)
    layer_charged =
        ap (λ (ps : List Part). charges g.stores ps
        + layer_costs_in holds_nothing g.sheller (suc k) (l ∷ ls) c t e) layer_parts
        ∙ ap (λ n. charges g.stores (parts_after (layer_values k l c e)) + n) layer_costs

-- ---- a child in no more layers

module _ (g : Guide) (sound : IsSheller g.sheller) (k i : ℕ) (path : List ℕ) (t : WideTree) (e : Before) (s : Stage)
  where
    abbrev names : Before
    names = env_atop s.state.own e

    abbrev left : ℕ
    left = s.state.left

    abbrev begun : State
    begun = stepped k s.state

    module _ (walker : Walker) (tells : Tells g k walker) where
      abbrev below : List ℕ
      below = path ++ i ∷ []

      abbrev seen_below : List Seen
      seen_below = map (seen_in g.stores) (parts_by g.sheller k (left - 1) below t names)

      abbrev charged_below : ℕ
      charged_below = charged g k (left - 1) below t names

      child_behind : (trace : WideTrace) →
          after_part k begun trace ≡ after_part (suc k) s.state (child_trace i trace)
      child_behind trace =
          let fewer : (left - 1) - trace.cost ≡ left - (1 + trace.cost) = omega arith in
          let slack : min (min s.state.slack k) (k - trace.height) ≡
          min s.state.slack (suc k - (1 + trace.height)) = omega arith in
          ap (λ n. record {
            own = atop trace.writes s.state.own;
            looks = both_looks s.state.looks s.state.own trace.looks;
            left = n;
            slack = min (min s.state.slack k) (k - trace.height);
          }) fewer
          ∙ ap (λ n. record {
            own = atop trace.writes s.state.own;
            looks = both_looks s.state.looks s.state.own trace.looks;
            left = left - (1 + trace.cost);
            slack = n;
          }) slack

      then_child : (o : Option WideTrace) →
          told k below (at_state s begun) seen_below charged_below o ≡
          told (suc k) path s seen_below charged_below (option_map (child_trace i) o)
      then_child None = refl
      then_child (Some trace) =
          ap (λ v. Went v (record {
            state = after_part k begun trace;
            done = s.done ++ seen_below;
            count = s.count + charged_below;
          })) (under_nested path (i ∷ []) trace.value)
          ∙ ap (λ z. Went (value_under path (child_trace i trace).value) (record {
            state = z;
            done = s.done ++ seen_below;
            count = s.count + charged_below;
          })) (child_behind trace)

      by_child : (d : Bool) → d ≡ nat_le 1 left →
          (if d then walker below t e (at_state s begun) else Stopped s.count) ≡ in_told g (suc k) [] i path t e s
      by_child false q =
          let none : left ≡ 0 = grind (arith, common_steps, q) in
          over_in g (suc k) [] i path t e s
          (layers_are k [] i left t names
          ∙ ap (λ b. if b then option_map (child_trace i) (evaluates k (left - 1) t names) else None) (sym q))
          (none_inside g sound (suc k) left path t names [] i none)
      by_child true q =
          let low : min s.state.slack k ≤ k = omega arith in
          tells below t e (at_state s begun) low
          ∙ then_child (evaluates k (left - 1) t names)
          ∙ ap (λ o. told (suc k) path s seen_below charged_below o)
          (ap (λ b. if b then option_map (child_trace i) (evaluates k (left - 1) t names) else None) q
          ∙ sym (layers_are k [] i left t names))
          ∙ ap (λ n. told (suc k) path s seen_below n (evaluates_in (suc k) [] i left t names))
          (sym (child_charged g k i left path t names))
          ∙ ap (λ ps. told (suc k) path s (map (seen_in g.stores) ps) (charged_in g (suc k) [] i left path t names)
          (evaluates_in (suc k) [] i left t names)) (sym (child_parts g k i left path t names))

      pub child_is : child_walk (suc k) (walker below t) e s ≡ in_told g (suc k) [] i path t e s
      unfolding child_walk
      child_is = entered_then k (λ u. walker below t) e s ∙ by_child (nat_le 1 left) refl

    -- ---- a layer

    module _ (l : Layer) (ls : List Layer) (inside : LayerWalker) (tells : TellsIn g k inside) where
      abbrev tree_costs : ℕ
      tree_costs = layer_tree_costs holds_nothing k l left names

      abbrev with_node : LayerValues → WideValue → WideValue
      with_node a v = made (codes "with") (vals (a.values ++ v ∷ [])) None

      abbrev set_back : Sets → WideValue → Before → Stage → Walked WideValue
      set_back old v = λ e1 s1. on_went {A = Unit {0}} e1 (λ _. went v) (moved s1 (set_all old e1 s1.state))

      -- after the names are set
      abbrev after_set : LayerValues → Sets → Before → Stage → Walked WideValue
      after_set a old = λ e1 s1. on_went e1 (λ v e2 s2. on_went {A = Unit {0}} e2 (λ _. went (with_node a v))
          (moved s2 (set_all old e2 s2.state))) (inside ls (path ++ i ∷ []) t e1 s1)

      abbrev after_values : LayerValues → Before → Stage → Walked WideValue
      after_values a = λ e1 s1. on_went e1 (after_set a) (layer_set a.sets e1 s1)

      abbrev result : Option SoFar → Option WideTrace
      result o = option_and_then (λ a. layer_composed l.names a (evaluates_in k ls i) left t names) o

      abbrev told_after : Option SoFar → Walked WideValue
      told_after o = told (suc k) path s (map (seen_in g.stores) (parts_after g k i left path t names l ls o))
          (charged_after g k i left path t names l ls o) (result o)

      module _ (a : SoFar) (done : layer_values k l left names ≡ Some a) (one : 1 ≤ left) where
        abbrev pairs : List (Name × WideTree)
        pairs = layer_pairs l.names a.values

        abbrev sets : Sets
        sets = as_sets (layer_pairs l.names a.values)

        abbrev size : ℕ
        size = sizes (as_sets (layer_pairs l.names a.values))

        abbrev cost : ℕ
        cost = layer_cost l.names a

        abbrev own : NameMap
        own = atop a.writes s.state.own

        -- the stage where the names are set
        abbrev within : State
        within = record {
          own = set_in sets (atop a.writes s.state.own);
          looks = both_looks s.state.looks s.state.own a.looks;
          left = ((left - 1) - a.cost) - size;
          slack = min (min s.state.slack k) (k - a.height);
        }

        abbrev stage_in : Stage
        stage_in = record { state = within; done = s.done; count = (s.count + tree_costs) + set_nodes sets }

        abbrev seen_inside : List Seen
        seen_inside = map (seen_in g.stores)
            (parts_in g.sheller k ls i (left - cost) path t (inside_layer l.names a names))

        abbrev charged_inside : ℕ
        charged_inside = charged_in g k ls i (left - cost) path t (inside_layer l.names a names)

        most : IsWithin k (left - 1) a
        most = children_within k (evaluates_bare k) (bare_bounded k) (left - 1) 0 nothing_yet
            (in_turn l.names l.trees) names a (omega arith, omega arith) done

        inside_is : inside ls (path ++ i ∷ []) t e stage_in ≡
            told k path stage_in seen_inside charged_inside
            (evaluates_in k ls i (left - cost) t (inside_layer l.names a names))
        inside_is =
            let low : min (min s.state.slack k) (k - a.height) ≤ k = omega arith in
            let fewer : ((left - 1) - a.cost) - size ≡ left - cost = omega arith in
            let before : env_atop (set_in sets (atop a.writes s.state.own)) e ≡ inside_layer l.names a names =
            ap (λ m. env_atop m e) (set_atop (layer_pairs l.names a.values) (atop a.writes s.state.own))
            ∙ atop_twice (layer_sets l.names a) (atop a.writes s.state.own) e
            ∙ ap (env_atop (layer_sets l.names a)) (atop_twice a.writes s.state.own e) in
            tells ls i path t e stage_in low
            ∙ ap (λ n. told k path stage_in
            (map (seen_in g.stores) (parts_in g.sheller k ls i n path t (env_atop within.own e)))
            (charged_in g k ls i n path t (env_atop within.own e))
            (evaluates_in k ls i n t (env_atop within.own e))) fewer
            ∙ ap (λ d. told k path stage_in
            (map (seen_in g.stores) (parts_in g.sheller k ls i (left - cost) path t d))
            (charged_in g k ls i (left - cost) path t d)
            (evaluates_in k ls i (left - cost) t d)) before

        -- the state after the layer
        layer_behind : (trace : WideTrace) →
            record (after_part k within trace) {
              own = set_in (kept_of sets (atop a.writes s.state.own)) (after_part k within trace).own;
            } ≡ after_part (suc k) s.state (layer_trace l.names a trace)
        layer_behind trace =
            let fewer : (((left - 1) - a.cost) - size) - trace.cost ≡ left - (cost + trace.cost) = omega arith in
            let slack : min (min (min s.state.slack k) (k - a.height)) (k - trace.height) ≡
            min s.state.slack (suc k - (1 + max a.height trace.height)) = omega arith in
            ap (λ m. record {
              own = set_in (kept_of sets (atop a.writes s.state.own)) (atop trace.writes m);
              looks = both_looks (both_looks s.state.looks s.state.own a.looks) m trace.looks;
              left = (((left - 1) - a.cost) - size) - trace.cost;
              slack = min (min (min s.state.slack k) (k - a.height)) (k - trace.height);
            }) (set_atop (layer_pairs l.names a.values) (atop a.writes s.state.own))
            ∙ ap (λ m. record {
              own = m;
              looks = both_looks (both_looks s.state.looks s.state.own a.looks)
                  (atop (layer_sets l.names a) (atop a.writes s.state.own)) trace.looks;
              left = (((left - 1) - a.cost) - size) - trace.cost;
              slack = min (min (min s.state.slack k) (k - a.height)) (k - trace.height);
            }) (again_is (layer_pairs l.names a.values) (atop a.writes s.state.own) trace.writes
            ∙ atop_joined (past (layer_sets l.names a) trace.writes) a.writes s.state.own)
            ∙ ap (λ m. record {
              own = atop (atop (past (layer_sets l.names a) trace.writes) a.writes) s.state.own;
              looks = m;
              left = (((left - 1) - a.cost) - size) - trace.cost;
              slack = min (min (min s.state.slack k) (k - a.height)) (k - trace.height);
            }) (looks_past (both_looks s.state.looks s.state.own a.looks) trace.looks (layer_sets l.names a)
            (atop a.writes s.state.own)
            ∙ looks_joined s.state.looks a.looks (past (layer_sets l.names a) trace.looks) s.state.own a.writes)
            ∙ ap (λ n. record {
              own = atop (atop (past (layer_sets l.names a) trace.writes) a.writes) s.state.own;
              looks = both_looks s.state.looks s.state.own
                  (both_looks a.looks a.writes (past (layer_sets l.names a) trace.looks));
              left = n;
              slack = min (min (min s.state.slack k) (k - a.height)) (k - trace.height);
            }) fewer
            ∙ ap (λ n. record {
              own = atop (atop (past (layer_sets l.names a) trace.writes) a.writes) s.state.own;
              looks = both_looks s.state.looks s.state.own
                  (both_looks a.looks a.writes (past (layer_sets l.names a) trace.looks));
              left = left - (cost + trace.cost);
              slack = n;
            }) slack

        value_is : (trace : WideTrace) → with_node (values_at l.names a) (value_under path trace.value) ≡
            value_under path (layer_trace l.names a trace).value
        value_is trace =
            let same : map (value_under path) a.values ≡ a.values =
            values_bare path k (left - 1) 0 nothing_yet (in_turn l.names l.trees) names a refl done in
            ap (λ vs. made (codes "with") (vals (vs ++ value_under path trace.value ∷ [])) None) (sym same)
            ∙ ap (λ vs. made (codes "with") (vals vs) None)
            (sym (map-append (value_under path) a.values (trace.value ∷ [])))
            ∙ ap (λ vs. made (codes "with") vs None) (sym (vals_under path (a.values ++ trace.value ∷ [])))

        nodes : set_nodes sets ≡ layer_set_nodes holds_nothing k l left names
        nodes =
            let all : set_nodes sets ≡ 0 + layer_set_nodes holds_nothing k l left names =
            nodes_are k (left - 1) names 0 [] l.names l.trees nothing_yet a refl done in
            omega (arith, all)

        -- what is counted in all
        abbrev inside_costs : ℕ
        inside_costs = layer_costs_in holds_nothing g.sheller k ls (left - cost) t (inside_layer l.names a names)

        abbrev charged_parts : ℕ
        charged_parts = charges g.stores
            (parts_in g.sheller k ls i (left - cost) path t (inside_layer l.names a names))

        abbrev costs_by : Bool → ℕ
        costs_by d = if d then layer_set_nodes holds_nothing k l left names + inside_costs else 0

        abbrev charged_by : Bool → ℕ
        charged_by d = charged_parts + (tree_costs + costs_by d)

        counted_inside : ((s.count + tree_costs) + set_nodes sets) + charged_inside ≡ s.count + charged_by true
        counted_inside = omega (arith, nodes)

        then_layer : (o : Option WideTrace) → on_went e (λ v e2 s2. on_went {A = Unit {0}} e2
            (λ _. went (with_node (values_at l.names a) v))
            (moved s2 (set_all (kept_of sets (atop a.writes s.state.own)) e2 s2.state)))
            (told k path stage_in seen_inside charged_inside o) ≡
            told (suc k) path s seen_inside (charged_by true) (option_map (layer_trace l.names a) o)
        then_layer None = ap Stopped counted_inside
        then_layer (Some trace) =
            ap (λ r. on_went {A = Unit {0}} e
            (λ _. went (with_node (values_at l.names a) (value_under path trace.value))) (moved (record {
              state = after_part k within trace;
              done = s.done ++ seen_inside;
              count = ((s.count + tree_costs) + set_nodes sets) + charged_inside;
            }) r)) (all_set (kept_of sets (atop a.writes s.state.own)) e (after_part k within trace))
            ∙ ap (λ z. Went (with_node (values_at l.names a) (value_under path trace.value)) (record {
              state = z;
              done = s.done ++ seen_inside;
              count = ((s.count + tree_costs) + set_nodes sets) + charged_inside;
            })) (layer_behind trace)
            ∙ ap (λ v. Went v (record {
              state = after_part (suc k) s.state (layer_trace l.names a trace);
              done = s.done ++ seen_inside;
              count = ((s.count + tree_costs) + set_nodes sets) + charged_inside;
            })) (value_is trace)
            ∙ ap (λ n. Went (value_under path (layer_trace l.names a trace).value) (record {
              state = after_part (suc k) s.state (layer_trace l.names a trace);
              done = s.done ++ seen_inside;
              count = n;
            })) counted_inside

        same_test : nat_le size ((left - 1) - a.cost) ≡ nat_le (layer_cost l.names a) left
        same_test = by (nat_le size ((left - 1) - a.cost)) (nat_le (layer_cost l.names a) left) refl refl
          where
            by : (p q : Bool) → p ≡ nat_le size ((left - 1) - a.cost) → q ≡ nat_le (layer_cost l.names a) left →
                p ≡ q
            by true true h f = refl
            by false false h f = refl
            by true false h f = absurd (grind (arith, common_steps, h, f, one, most.0))
            by false true h f = absurd (grind (arith, common_steps, h, f, one, most.0))

        nothing_inside : left - cost ≡ 0 → charged_parts ≡ 0
        nothing_inside few =
            let all : charged_in g k ls i (left - cost) path t (inside_layer l.names a names) ≡ 0 =
            none_inside g sound k (left - cost) path t (inside_layer l.names a names) ls i few in
            omega (arith, all)

        abbrev paid_for : State → State
        paid_for z = record z { left = z.left - size }

        by_pay : (d : Bool) → d ≡ nat_le (layer_cost l.names a) left →
            on_went e (after_set (values_at l.names a)) (on_went {A = Unit {0}} e (λ _ e1 s1. moved
            (record s1 { count = s1.count + set_nodes sets })
            (names_set sets e1 s1.state))
            (moved (record { state = behind k begun a; done = s.done; count = s.count + tree_costs })
            (if d then Done tt (paid_for (behind k begun a)) else Over))) ≡
            told (suc k) path s seen_inside (charged_by d) (if d then option_map (layer_trace l.names a)
            (evaluates_in k ls i (left - cost) t (inside_layer l.names a names)) else None)
        by_pay false q =
            let few : left - layer_cost l.names a ≡ 0 = grind (arith, common_steps, q) in
            let same : s.count + tree_costs ≡ s.count + charged_by false = omega (arith, nothing_inside few) in
            ap Stopped same
        by_pay true q =
            ap (λ r. on_went e (after_set (values_at l.names a)) (moved (record {
              state = paid_for (behind k begun a);
              done = s.done;
              count = (s.count + tree_costs) + set_nodes sets;
            }) r)) (names_set_is sets e (paid_for (behind k begun a)))
            ∙ ap (on_went e (λ v e2 s2. on_went {A = Unit {0}} e2
            (λ _. went (with_node (values_at l.names a) v))
            (moved s2 (set_all (kept_of sets (atop a.writes s.state.own)) e2 s2.state)))) inside_is
            ∙ then_layer (evaluates_in k ls i (left - cost) t (inside_layer l.names a names))

        pub layer_then : on_went e after_values
            (Went (values_at l.names a) (record {
              state = behind k begun a;
              done = s.done;
              count = s.count + tree_costs;
            })) ≡ told_after (Some a)
        unfolding layer_set count_more pay
        layer_then =
            ap (λ d. on_went e (after_set (values_at l.names a)) (on_went {A = Unit {0}} e (λ _ e1 s1. moved
            (record s1 { count = s1.count + set_nodes sets })
            (names_set sets e1 s1.state))
            (moved (record { state = behind k begun a; done = s.done; count = s.count + tree_costs })
            (if d then Done tt (paid_for (behind k begun a)) else Over)))) same_test
            ∙ by_pay (nat_le (layer_cost l.names a) left) refl

      by_values : 1 ≤ left → (low : min s.state.slack k ≤ k) → (o : Option SoFar) → layer_values k l left names ≡ o →
          on_went e after_values (values_ended k e begun low l.names s.done (s.count + tree_costs) o) ≡ told_after o
      by_values one low None q =
          let same : s.count + tree_costs ≡ s.count + charged_after g k i left path t names l ls None = omega arith in
          ap Stopped same
      by_values one low (Some a) q = layer_then a q one

      by_step : (d : Bool) → d ≡ nat_le 1 left →
          (if d then on_went e after_values (values_walk k no_values l.names l.trees e (at_state s begun))
          else Stopped s.count) ≡ in_told g (suc k) (l ∷ ls) i path t e s
      by_step false q =
          let none : left ≡ 0 = grind (arith, common_steps, q) in
          over_in g (suc k) (l ∷ ls) i path t e s
          (over_result (evaluates_in (suc k) (l ∷ ls) i left t names) refl none)
          (none_inside g sound (suc k) left path t names (l ∷ ls) i none)
        where
          no_steps : {w : WideTrace} → LayerDone k l ls i left t names w → left ≡ 0 → ⊥
          no_steps d none = let cheap : layer_cost l.names d.values ≤ left = d.cheap in omega (arith, cheap, none)

          over_result : (o : Option WideTrace) → evaluates_in (suc k) (l ∷ ls) i left t names ≡ o → left ≡ 0 →
              evaluates_in (suc k) (l ∷ ls) i left t names ≡ None
          over_result None h none = h
          over_result (Some w) h none = absurd (no_steps (layer_done k l ls i left t names w h) none)
      by_step true q =
          let low : min s.state.slack k ≤ k = omega arith in
          let one : 1 ≤ left = grind (arith, common_steps, q) in
          ap (λ z. on_went e after_values (values_walk k no_values l.names l.trees e (at_state s z)))
          (at_nothing k begun low)
          ∙ ap (on_went e after_values) (values_are k e begun low 0 [] l.names l.trees nothing_yet s.done s.count refl)
          ∙ by_values one low (layer_values k l left names) refl
          ∙ ap (λ o. told (suc k) path s
          (map (seen_in g.stores) (parts_after g k i left path t names l ls (layer_values k l left names)))
          (charged_after g k i left path t names l ls (layer_values k l left names)) o)
          (sym (layers_are k (l ∷ ls) i left t names))
          ∙ ap (λ n. told (suc k) path s
          (map (seen_in g.stores) (parts_after g k i left path t names l ls (layer_values k l left names))) n
          (evaluates_in (suc k) (l ∷ ls) i left t names)) (sym (layer_charged g k i left path t names l ls))
          ∙ ap (λ ps. told (suc k) path s (map (seen_in g.stores) ps)
          (charged_in g (suc k) (l ∷ ls) i left path t names) (evaluates_in (suc k) (l ∷ ls) i left t names))
          (sym (layer_parts g k i left path t names l ls))

      pub layer_is : layer_walk k l (inside ls (path ++ i ∷ []) t) e s ≡ in_told g (suc k) (l ∷ ls) i path t e s
      unfolding layer_walk
      layer_is =
          entered_then k (λ u e1 s1. on_went e1 after_values (values_walk k no_values l.names l.trees e1 s1)) e s
          ∙ by_step (nat_le 1 left) refl
