-- An open tree's walk comes to what evaluation of the tree does.
use Rattle.std.proofs.Common.{◌≡◌, ℕ, suc, ◌+◌, ◌*◌, ◌-◌, ◌≤◌, min, List, [], ◌∷◌, ◌++◌, length, map, refl}
use Rattle.std.proofs.Common.{ap, sym, ◌∙◌, arith}
use Rattle.std.proofs.lemmas.Grind.{common_steps}
use Rattle.std.proofs.lemmas.List.Sums.{sum_by-cons}
use Rattle.std.specs.Prelude.{Bool, true, false, nat_le, if◌then◌else◌, Option, Some, None, codes}
use Rattle.std.specs.Option.{option_map}
use Rattle.tx_tree.specs.WideTree.{WideTree}
use Rattle.tx_origin.specs.Values.{WideValue, made, vals}
use Rattle.tx_origin.specs.Under.{value_under, values_under}
use Rattle.tx_origin.proofs.Under.{vals_under}
use Rattle.tx_exec_form.specs.Runs.{Before, State}
use Rattle.tx_exec_form.specs.Rows.{Sets, set_all, kept_of}
use Rattle.tx_exec_form.specs.Evaluated.{WideTrace}
use Rattle.tx_parts.specs.Atop.{atop, env_atop, past, both_looks}
use Rattle.tx_parts.specs.Adding.{after_part}
use Rattle.tx_parts.specs.Openness.{Settings, Openness, Document, With, Shut}
use Rattle.tx_parts.specs.Opening.{ByTree, opening}
use Rattle.tx_parts.specs.Shellers.{IsSheller}
use Rattle.tx_parts.specs.Composed.{evaluates, SoFar, nothing_yet, children_from, document_trace, with_trace}
use Rattle.tx_parts.specs.Composed.{composed_as, set_by, settings_cost, setting_pairs, setting_values}
use Rattle.tx_parts.specs.Layered.{as_sets, composed_opened, evaluates_in}
use Rattle.tx_parts.specs.Parts.{Part, parts_as, parts_opened, parts_by, parts_in, parts_from}
use Rattle.tx_parts.specs.LayerCosts.{holds_nothing, counts_as, costs_opened, layer_costs_by, layer_costs_in}
use Rattle.tx_parts.proofs.Maps.{atop_nothing, looks_nothing}
use Rattle.tx_parts.proofs.PartRuns.{atop_twice}
use Rattle.tx_parts.proofs.Restoring.{set_in, all_set, set_atop, again_is, looks_past}
use Rattle.tx_parts.proofs.Opened.{opened_is}
use Rattle.tx_replay.specs.Held.{charge_of, charges}
use Rattle.tx_replay.specs.Seen.{Seen, seen_in, Guide, charged}
use Rattle.tx_replay.specs.Walks.{Stage, Walked, Stopped, Went, on_went, told, Walker, as_part, part_walk}
use Rattle.tx_replay.specs.Walks.{moved, went, document_walk, with_walk, inner_walk, children_walk, settings_under}
use Rattle.tx_replay.proofs.States.{behind}
use Rattle.tx_replay.proofs.Charging.{none_charged, charged_from, append_none}
use Rattle.tx_replay.specs.Walks.{tree_told}
use Rattle.tx_replay.proofs.ChildWalks.{Tells, values_more, children_ended, children_are}
use Rattle.tx_replay.proofs.Entering.{stepped, at_state, entered_then, in_with, settings_then}

-- ---- what is charged, and which parts there are, by the form of a tree

module _ (g : Guide) (c : ℕ) (path : List ℕ) (t : WideTree) (e : Before) (o : Openness)
    (opens : opening g.sheller t e ≡ ByTree o) where
  pub parts_are : (k : ℕ) →
      parts_by g.sheller (suc k) c path t e ≡ parts_as o k (parts_by g.sheller k) c path t e
  unfolding parts_by
  parts_are k = ap (λ x. parts_opened x k (parts_by g.sheller k) (parts_in g.sheller k) c path t e) opens

  pub costs_are : (k : ℕ) →
      layer_costs_by holds_nothing g.sheller (suc k) c t e ≡
      counts_as o k (layer_costs_by holds_nothing g.sheller k) c t e
  unfolding layer_costs_by
  costs_are k =
      ap (λ x. costs_opened x k (layer_costs_by holds_nothing g.sheller k)
      (layer_costs_in holds_nothing g.sheller k) c t e) opens

  pub charged_are : (k : ℕ) → charged g (suc k) c path t e ≡
      charges g.stores (parts_as o k (parts_by g.sheller k) c path t e)
      + counts_as o k (layer_costs_by holds_nothing g.sheller k) c t e
  charged_are k =
      ap (λ (ps : List Part). charges g.stores ps + layer_costs_by holds_nothing g.sheller (suc k) c t e) (parts_are k)
      ∙ ap (λ n. charges g.stores (parts_as o k (parts_by g.sheller k) c path t e) + n) (costs_are k)

  pub whole_is : IsSheller g.sheller → (k : ℕ) →
      evaluates (suc k) c t e ≡ composed_as o k (evaluates k) c t e
  whole_is sound k =
      opened_is g.sheller sound k c t e
      ∙ ap (λ x. composed_opened x k (evaluates k) (evaluates_in k) c t e) opens

-- a tree that runs out, and is charged nothing
pub over_told : (g : Guide) (k c : ℕ) (path : List ℕ) (t : WideTree) (e : Before) (s : Stage) (ps : List Seen) →
    evaluates k c t e ≡ None → charged g k c path t e ≡ 0 →
    Stopped s.count ≡ told k path s ps (charged g k c path t e) (evaluates k c t e)
over_told g k c path t e s ps none nothing =
    let same : s.count ≡ s.count + charged g k c path t e = omega (arith, nothing) in
    ap Stopped same ∙ ap (told k path s ps (charged g k c path t e)) (sym none)

-- ---- a tree that isn't open

pub part_is : (g : Guide) (sound : IsSheller g.sheller) (k : ℕ) (path : List ℕ) (t : WideTree) (e : Before)
    (s : Stage) → opening g.sheller t (env_atop s.state.own e) ≡ ByTree Shut →
    part_walk g.stores (suc k) path t e s ≡ tree_told g (suc k) path t e s
unfolding part_walk
part_is g sound k path t e s opens =
    let p : Part = as_part (suc k) path t e s.state in
    let d : Before = env_atop s.state.own e in
    let c : ℕ = s.state.left in
    let one : charges g.stores (as_part (suc k) path t e s.state ∷ []) ≡
    charge_of g.stores (as_part (suc k) path t e s.state) + 0 =
    sum_by-cons (charge_of g.stores) (as_part (suc k) path t e s.state) [] in
    let all : charged g (suc k) s.state.left path t (env_atop s.state.own e) ≡
    charges g.stores (as_part (suc k) path t e s.state ∷ []) + 0 =
    charged_are g s.state.left path t (env_atop s.state.own e) Shut opens k in
    let same : charge_of g.stores (as_part (suc k) path t e s.state) ≡
    charged g (suc k) s.state.left path t (env_atop s.state.own e) = omega (arith, one, all) in
    ap (λ n. told (suc k) path s (seen_in g.stores (as_part (suc k) path t e s.state) ∷ []) n
    (evaluates (suc k) s.state.left t (env_atop s.state.own e))) same
    ∙ ap (λ ps. told (suc k) path s (map (seen_in g.stores) ps)
    (charged g (suc k) s.state.left path t (env_atop s.state.own e))
    (evaluates (suc k) s.state.left t (env_atop s.state.own e)))
    (sym (parts_are g s.state.left path t (env_atop s.state.own e) Shut opens k))

-- ---- a `document`

pub at_nothing : (k : ℕ) (z : State) → z.slack ≤ k → z ≡ behind k z nothing_yet
at_nothing k z low =
    let left : z.left ≡ z.left - 0 = omega arith in
    let slack : z.slack ≡ min z.slack (k - 0) = omega (arith, low) in
    ap (λ m. record z { own = m }) (sym (atop_nothing z.own))
    ∙ ap (λ m. record { own = atop nothing_yet.writes z.own; looks = m; left = z.left; slack = z.slack })
    (sym (looks_nothing z.looks z.own))
    ∙ ap (λ n. record {
      own = atop nothing_yet.writes z.own;
      looks = both_looks z.looks z.own nothing_yet.looks;
      left = n;
      slack = z.slack;
    }) left
    ∙ ap (λ n. record {
      own = atop nothing_yet.writes z.own;
      looks = both_looks z.looks z.own nothing_yet.looks;
      left = z.left - 0;
      slack = n;
    }) slack

-- the state after the node
node_behind : (k : ℕ) (z : State) (b : SoFar) →
    behind k (stepped k z) b ≡ after_part (suc k) z (document_trace b)
node_behind k z b =
    let left : (z.left - 1) - b.cost ≡ z.left - (1 + b.cost) = omega arith in
    let slack : min (min z.slack k) (k - b.height) ≡ min z.slack (suc k - (1 + b.height)) = omega arith in
    ap (λ n. record {
      own = atop b.writes z.own;
      looks = both_looks z.looks z.own b.looks;
      left = n;
      slack = min (min z.slack k) (k - b.height);
    }) left
    ∙ ap (λ n. record {
      own = atop b.writes z.own;
      looks = both_looks z.looks z.own b.looks;
      left = z.left - (1 + b.cost);
      slack = n;
    }) slack

module _ (g : Guide) (sound : IsSheller g.sheller) (k : ℕ) (path : List ℕ) (t : WideTree) (e : Before) (s : Stage)
    (walker : Walker) (tells : Tells g k walker) where
  abbrev names : Before
  names = env_atop s.state.own e

  abbrev left : ℕ
  left = s.state.left

  abbrev begun : State
  begun = stepped k s.state

  module _ (ts : List WideTree) (opens : opening g.sheller t (env_atop s.state.own e) ≡ ByTree (Document ts)) where
    abbrev inner_parts : List Part
    inner_parts = parts_from k (parts_by g.sheller k) (left - 1) path 0 nothing_yet ts names

    abbrev inner_charged : ℕ
    inner_charged = charged_from g k (left - 1) path 0 nothing_yet ts names

    abbrev node : List WideValue → Before → Stage → Walked WideValue
    node vs = went (made (codes "document") (vals vs) (Some path))

    then_node : (low : begun.slack ≤ k) (o : Option SoFar) → on_went e node
        (children_ended g k path e begun walker tells low (s.done ++ map (seen_in g.stores) inner_parts)
        (s.count + inner_charged) o) ≡
        told (suc k) path s (map (seen_in g.stores) inner_parts) inner_charged (option_map document_trace o)
    then_node low None = refl
    then_node low (Some b) =
        ap (λ z. Went (made (codes "document") (vals (map (value_under path) b.values)) (Some path)) (record {
          state = z;
          done = s.done ++ map (seen_in g.stores) inner_parts;
          count = s.count + inner_charged;
        })) (node_behind k s.state b)
        ∙ ap (λ v. Went v (record {
          state = after_part (suc k) s.state (document_trace b);
          done = s.done ++ map (seen_in g.stores) inner_parts;
          count = s.count + inner_charged;
        })) (ap (λ vs. made (codes "document") vs (Some path)) (sym (vals_under path b.values))
        ∙ ap (λ p. made (codes "document") (values_under path (vals b.values)) (Some p)) (sym (append_none path)))

    by_document : (d : Bool) → d ≡ nat_le 1 left →
        (if d then on_went e node (children_walk walker path 0 [] ts e (at_state s begun)) else Stopped s.count) ≡
        tree_told g (suc k) path t e s
    by_document false q =
        let none : left ≡ 0 = grind (arith, common_steps, q) in
        over_told g (suc k) left path t names s (map (seen_in g.stores) (parts_by g.sheller (suc k) left path t names))
        (whole_is g left path t names (Document ts) opens sound k
        ∙ ap (λ b. if b then option_map document_trace (children_from (evaluates k) (left - 1) 0 nothing_yet ts names)
        else None) (sym q))
        (none_charged g sound (suc k) left path t names none)
    by_document true q =
        let low : min s.state.slack k ≤ k = omega arith in
        ap (λ z. on_went e node (children_walk walker path 0 [] ts e (at_state s z))) (at_nothing k begun low)
        ∙ ap (on_went e node) (children_are g k path e begun walker tells low ts 0 nothing_yet s.done s.count)
        ∙ then_node low (children_from (evaluates k) (left - 1) 0 nothing_yet ts names)
        ∙ ap (λ o. told (suc k) path s (map (seen_in g.stores) inner_parts) inner_charged o)
        (ap (λ b. if b then option_map document_trace (children_from (evaluates k) (left - 1) 0 nothing_yet ts names)
        else None) q
        ∙ sym (whole_is g left path t names (Document ts) opens sound k))
        ∙ ap (λ n. told (suc k) path s (map (seen_in g.stores) inner_parts) n (evaluates (suc k) left t names))
        (sym (charged_are g left path t names (Document ts) opens k))
        ∙ ap (λ ps. told (suc k) path s (map (seen_in g.stores) ps) (charged g (suc k) left path t names)
        (evaluates (suc k) left t names)) (sym (parts_are g left path t names (Document ts) opens k))

    pub document_is : document_walk (suc k) walker path ts e s ≡ tree_told g (suc k) path t e s
    unfolding document_walk
    document_is =
        entered_then k (λ u e1 s1. on_went e1 node (children_walk walker path 0 [] ts e1 s1)) e s
        ∙ by_document (nat_le 1 left) refl

  -- ---- a `with`

  module _ (ps : Settings) (b : WideTree)
      (opens : opening g.sheller t (env_atop s.state.own e) ≡ ByTree (With ps b)) where
    abbrev cost : ℕ
    cost = 1 + settings_cost ps

    abbrev below : List ℕ
    below = path ++ (2 * length ps) ∷ []

    abbrev sets : Sets
    sets = as_sets (setting_pairs ps)

    abbrev within : State
    within = in_with k ps s.state

    abbrev names_in : Before
    names_in = env_atop (set_by ps) names

    abbrev parts_in_it : List Part
    parts_in_it = parts_by g.sheller k (left - cost) below b names_in

    abbrev charged_in_it : ℕ
    charged_in_it = charged g k (left - cost) below b names_in

    abbrev with_node : WideValue → Before → Stage → Walked WideValue
    with_node v = went (made (codes "with") (vals (settings_under path ps ++ v ∷ [])) (Some path))

    abbrev set_back : WideValue → Before → Stage → Walked WideValue
    set_back v = λ e1 s1. on_went {A = Unit {0}} e1 (λ _. went v)
        (moved s1 (set_all (kept_of sets s.state.own) e1 s1.state))

    own_in : within.own ≡ atop (set_by ps) s.state.own
    own_in = set_atop (setting_pairs ps) s.state.own

    inner_is : walker below b e (at_state s within) ≡
        told k below (at_state s within) (map (seen_in g.stores) parts_in_it) charged_in_it
        (evaluates k (left - cost) b names_in)
    inner_is =
        let low : min s.state.slack k ≤ k = omega arith in
        tells below b e (at_state s within) low
        ∙ ap (λ d. told k below (at_state s within)
        (map (seen_in g.stores) (parts_by g.sheller k (left - cost) below b d))
        (charged g k (left - cost) below b d) (evaluates k (left - cost) b d))
        (ap (λ m. env_atop m e) own_in ∙ atop_twice (set_by ps) s.state.own e)

    -- the state after the node
    with_behind : (trace : WideTrace) →
        record (after_part k within trace) { own = set_in (kept_of sets s.state.own) (after_part k within trace).own } ≡
        after_part (suc k) s.state (with_trace ps trace)
    with_behind trace =
        let fewer : (left - (1 + settings_cost ps)) - trace.cost ≡ left - (1 + settings_cost ps + trace.cost) =
        omega arith in
        let slack : min (min s.state.slack k) (k - trace.height) ≡ min s.state.slack (suc k - (1 + trace.height)) =
        omega arith in
        ap (λ m. record {
          own = set_in (kept_of sets s.state.own) (atop trace.writes m);
          looks = both_looks s.state.looks m trace.looks;
          left = (left - (1 + settings_cost ps)) - trace.cost;
          slack = min (min s.state.slack k) (k - trace.height);
        }) own_in
        ∙ ap (λ m. record {
          own = m;
          looks = both_looks s.state.looks (atop (set_by ps) s.state.own) trace.looks;
          left = (left - (1 + settings_cost ps)) - trace.cost;
          slack = min (min s.state.slack k) (k - trace.height);
        }) (again_is (setting_pairs ps) s.state.own trace.writes)
        ∙ ap (λ m. record {
          own = atop (past (set_by ps) trace.writes) s.state.own;
          looks = m;
          left = (left - (1 + settings_cost ps)) - trace.cost;
          slack = min (min s.state.slack k) (k - trace.height);
        }) (looks_past s.state.looks trace.looks (set_by ps) s.state.own)
        ∙ ap (λ n. record {
          own = atop (past (set_by ps) trace.writes) s.state.own;
          looks = both_looks s.state.looks s.state.own (past (set_by ps) trace.looks);
          left = n;
          slack = min (min s.state.slack k) (k - trace.height);
        }) fewer
        ∙ ap (λ n. record {
          own = atop (past (set_by ps) trace.writes) s.state.own;
          looks = both_looks s.state.looks s.state.own (past (set_by ps) trace.looks);
          left = left - (1 + settings_cost ps + trace.cost);
          slack = n;
        }) slack

    value_is : (trace : WideTrace) →
        made (codes "with") (vals (settings_under path ps ++ value_under below trace.value ∷ [])) (Some path) ≡
        value_under path (with_trace ps trace).value
    value_is trace =
        ap (λ vs. made (codes "with") (vals vs) (Some path))
        (values_more path (2 * length ps) (setting_values 0 ps) trace.value)
        ∙ ap (λ vs. made (codes "with") vs (Some path))
        (sym (vals_under path (setting_values 0 ps ++ value_under ((2 * length ps) ∷ []) trace.value ∷ [])))
        ∙ ap (λ p. made (codes "with") (values_under path
        (vals (setting_values 0 ps ++ value_under ((2 * length ps) ∷ []) trace.value ∷ []))) (Some p))
        (sym (append_none path))

    then_with : (o : Option WideTrace) → on_went e with_node (on_went e set_back
        (told k below (at_state s within) (map (seen_in g.stores) parts_in_it) charged_in_it o)) ≡
        told (suc k) path s (map (seen_in g.stores) parts_in_it) charged_in_it (option_map (with_trace ps) o)
    then_with None = refl
    then_with (Some trace) =
        ap (λ r. on_went e with_node (on_went {A = Unit {0}} e (λ _. went (value_under below trace.value))
        (moved (record {
          state = after_part k within trace;
          done = s.done ++ map (seen_in g.stores) parts_in_it;
          count = s.count + charged_in_it;
        }) r))) (all_set (kept_of sets s.state.own) e (after_part k within trace))
        ∙ ap (λ z. Went
        (made (codes "with") (vals (settings_under path ps ++ value_under below trace.value ∷ [])) (Some path))
        (record {
          state = z;
          done = s.done ++ map (seen_in g.stores) parts_in_it;
          count = s.count + charged_in_it;
        })) (with_behind trace)
        ∙ ap (λ v. Went v (record {
          state = after_part (suc k) s.state (with_trace ps trace);
          done = s.done ++ map (seen_in g.stores) parts_in_it;
          count = s.count + charged_in_it;
        })) (value_is trace)

    by_with : (d : Bool) → d ≡ nat_le cost left →
        (if d then on_went e with_node (on_went e set_back (walker below b e (at_state s within)))
        else Stopped s.count) ≡ tree_told g (suc k) path t e s
    by_with false q =
        let few : left - (1 + settings_cost ps) ≡ 0 = grind (arith, common_steps, q) in
        over_told g (suc k) left path t names s (map (seen_in g.stores) (parts_by g.sheller (suc k) left path t names))
        (whole_is g left path t names (With ps b) opens sound k
        ∙ ap (λ x. if x then option_map (with_trace ps) (evaluates k (left - cost) b names_in) else None) (sym q))
        (charged_are g left path t names (With ps b) opens k
        ∙ none_charged g sound k (left - cost) below b names_in few)
    by_with true q =
        ap (λ r. on_went e with_node (on_went e set_back r)) inner_is
        ∙ then_with (evaluates k (left - cost) b names_in)
        ∙ ap (λ o. told (suc k) path s (map (seen_in g.stores) parts_in_it) charged_in_it o)
        (ap (λ x. if x then option_map (with_trace ps) (evaluates k (left - cost) b names_in) else None) q
        ∙ sym (whole_is g left path t names (With ps b) opens sound k))
        ∙ ap (λ n. told (suc k) path s (map (seen_in g.stores) parts_in_it) n (evaluates (suc k) left t names))
        (sym (charged_are g left path t names (With ps b) opens k))
        ∙ ap (λ qs. told (suc k) path s (map (seen_in g.stores) qs) (charged g (suc k) left path t names)
        (evaluates (suc k) left t names)) (sym (parts_are g left path t names (With ps b) opens k))

    pub with_is : with_walk (suc k) walker path ps b e s ≡ tree_told g (suc k) path t e s
    unfolding with_walk inner_walk
    with_is =
        settings_then k ps (λ old e1 s1. on_went e1 with_node
        (on_went e1 (λ v e2 s2. on_went {A = Unit {0}} e2 (λ _. went v) (moved s2 (set_all old e2 s2.state)))
        (walker below b e1 s1))) e s
        ∙ by_with (nat_le cost left) refl
