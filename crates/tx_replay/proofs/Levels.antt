-- One level of a walk, by how the tree is gone into.
use Rattle.std.proofs.Common.{◌≡◌, ℕ, zero, suc, ◌+◌, ◌*◌, ◌-◌, ◌<◌, ◌≤◌, min, List, [], ◌∷◌, ◌++◌, length, map, drop, refl}
use Rattle.std.proofs.Common.{ap, sym, ◌∙◌, arith}
use Rattle.std.proofs.lemmas.Grind.{common_steps}
use Rattle.std.specs.Prelude.{Option, Some, None, slice_get, codes}
use Rattle.tx_tree.specs.WideTree.{WideTree, size_of, depth_of}
use Rattle.tx_tree.proofs.Walks.{drop_item}
use Rattle.tx_origin.specs.Values.{WideValue, made, vals, plain}
use Rattle.tx_origin.specs.Under.{value_under}
use Rattle.tx_origin.proofs.Under.{plain_under}
use Rattle.tx_exec_form.specs.Runs.{Before, State, Ran, Over, Done}
use Rattle.tx_exec_form.specs.Rows.{Sets, set_all}
use Rattle.tx_exec_form.specs.Evaluated.{WideTrace}
use Rattle.tx_exec_form.proofs.Tracing.{allowed, small}
use Rattle.tx_parts.specs.Atop.{env_atop}
use Rattle.tx_parts.specs.Adding.{after_part}
use Rattle.tx_parts.specs.Openness.{Settings, Openness, Document, With, Shut, openness}
use Rattle.tx_parts.specs.Opening.{no_shells, ByTree}
use Rattle.tx_parts.specs.Composed.{alone, evaluates, setting_pairs, settings_cost}
use Rattle.tx_parts.specs.Layered.{as_sets}
use Rattle.tx_parts.proofs.Opened.{closed_is}
use Rattle.tx_replay.specs.Held.{Stores}
use Rattle.tx_parts.specs.Parts.{parts_by}
use Rattle.tx_replay.specs.Seen.{Seen, seen_in, Guide, charged}
use Rattle.tx_replay.specs.OpenRows.{entered, names_begun}
use Rattle.tx_replay.specs.Walks.{Stage, Walked, Stopped, Went, on_went, moved, went, told, Walker}
use Rattle.tx_replay.specs.Walks.{children_walk, document_walk, with_walk, inner_walk, settings_under, part_walk}
use Rattle.tx_replay.specs.Walks.{walk_opened, walk, walk_in}
use Rattle.tx_replay.proofs.Entering.{at_state}
use Rattle.tx_replay.proofs.Told.{both_tell}

-- where nothing has a shell
abbrev pub shut_guide : Stores → Guide
shut_guide kept = record { stores = kept; sheller = no_shells }

module _ (kept : Stores) where
  abbrev g : Guide
  g = shut_guide kept

  -- ---- levels

  pub none_walk : (k : ℕ) (path : List ℕ) (t : WideTree) (e : Before) (s : Stage) → k ≡ 0 →
      walk g k path t e s ≡ Stopped s.count
  unfolding walk
  none_walk zero path t e s h = refl
  none_walk (suc k) path t e s h = absurd (omega (arith, h))

  module _ (k : ℕ) (path : List ℕ) (t : WideTree) (e : Before) (s : Stage) (some : 0 < k) where
    up : suc (k - 1) ≡ k
    up = omega (arith, some)

    level_is : (j : ℕ) (o : Openness) → openness t ≡ o →
        walk g (suc j) path t e s ≡ walk_opened (ByTree o) kept j (walk g j) (walk_in g j) path t e s
    unfolding walk
    level_is j o h = ap (λ x. walk_opened (ByTree x) kept j (walk g j) (walk_in g j) path t e s) h

    pub document_level : (ts : List WideTree) → openness t ≡ Document ts →
        walk g k path t e s ≡ document_walk k (walk g (k - 1)) path ts e s
    document_level ts h =
        ap (λ n. walk g n path t e s) (sym up) ∙ level_is (k - 1) (Document ts) h
        ∙ ap (λ n. document_walk n (walk g (k - 1)) path ts e s) up

    pub with_level : (ps : Settings) (b : WideTree) → openness t ≡ With ps b →
        walk g k path t e s ≡ with_walk k (walk g (k - 1)) path ps b e s
    with_level ps b h =
        ap (λ n. walk g n path t e s) (sym up) ∙ level_is (k - 1) (With ps b) h
        ∙ ap (λ n. with_walk n (walk g (k - 1)) path ps b e s) up

    pub shut_level : openness t ≡ Shut → walk g k path t e s ≡ part_walk kept k path t e s
    shut_level h =
        ap (λ n. walk g n path t e s) (sym up) ∙ level_is (k - 1) Shut h
        ∙ ap (λ n. part_walk kept n path t e s) up

  -- ---- bounds

  -- The value is no larger than the steps taken and no deeper than the levels.
  pub record Bounded (v : WideValue) (k : ℕ) (s z : State) : Type 0 where
    pub size : size_of (plain v) + z.left ≤ s.left
    pub depth : depth_of (plain v) ≤ k
    pub slack : z.slack ≤ k

  pub walk_bounded : (k : ℕ) (path : List ℕ) (t : WideTree) (e : Before) (s z : Stage) (v : WideValue) →
      s.state.slack ≤ k → walk g k path t e s ≡ Went v z → Bounded v k s.state z.state
  walk_bounded k path t e s z v low h =
      by (map (seen_in kept) (parts_by no_shells k s.state.left path t (env_atop s.state.own e)))
      (charged (shut_guide kept) k s.state.left path t (env_atop s.state.own e))
      (evaluates k s.state.left t (env_atop s.state.own e)) refl
      (sym ((both_tell (shut_guide kept) closed_is k).0 path t e s low) ∙ h)
    where
      by_trace : (trace : WideTrace) → evaluates k s.state.left t (env_atop s.state.own e) ≡ Some trace →
          value_under path trace.value ≡ v → after_part k s.state trace ≡ z.state → Bounded v k s.state z.state
      by_trace trace q is_v is_z =
          let most : (trace.cost ≤ s.state.left) × (trace.height ≤ k) =
          allowed k s.state.left (alone t) (env_atop s.state.own e) trace q in
          let few : (size_of (plain trace.value) ≤ trace.cost) × (depth_of (plain trace.value) ≤ trace.height) =
          small k s.state.left (alone t) (env_atop s.state.own e) trace q in
          let same : plain v ≡ plain trace.value = ap plain (sym is_v) ∙ plain_under path trace.value in
          let size : size_of (plain v) ≡ size_of (plain trace.value) = ap size_of same in
          let depth : depth_of (plain v) ≡ depth_of (plain trace.value) = ap depth_of same in
          let left : s.state.left - trace.cost ≡ z.state.left = ap (λ (y : State). y.left) is_z in
          let slack : min s.state.slack (k - trace.height) ≡ z.state.slack = ap (λ (y : State). y.slack) is_z in
          record {
            size = omega (arith, most.0, few.0, size, left);
            depth = omega (arith, most.1, few.1, depth);
            slack = omega (arith, slack, low);
          }

      value_of : WideValue → Walked WideValue → WideValue
      value_of d (Stopped m) = d
      value_of d (Went u y) = u

      state_of : Stage → Walked WideValue → State
      state_of d (Stopped m) = d.state
      state_of d (Went u y) = y.state

      by : (ps : List Seen) (n : ℕ) (o : Option WideTrace) →
          evaluates k s.state.left t (env_atop s.state.own e) ≡ o → told k path s ps n o ≡ Went v z →
          Bounded v k s.state z.state
      by ps n None q f = cc
      by ps n (Some trace) q f = by_trace trace q (ap (value_of v) f) (ap (state_of z) f)

-- ---- children in order

module _ (walker : Walker) (path : List ℕ) (kids : List WideTree) (i : ℕ) (vs : List WideValue) (e : Before) (s : Stage)
    (r : Walked (List WideValue)) where
  further : WideValue → Before → Stage → Walked (List WideValue)
  further v = children_walk walker path (i + 1) (vs ++ v ∷ []) (drop (i + 1) kids)

  begun : (t : WideTree) → slice_get kids i ≡ Some t → children_walk walker path i vs (drop i kids) e s ≡ r →
      r ≡ on_went e further (walker (path ++ i ∷ []) t e s)
  unfolding further
  begun t there run =
      sym run ∙ ap (λ ts. children_walk walker path i vs ts e s) (drop_item kids i t there)

  pub child_next : (t : WideTree) (us : List WideValue) (v : WideValue) (z : Stage) → slice_get kids i ≡ Some t →
      walker (path ++ i ∷ []) t e s ≡ Went v z → us ≡ vs ++ v ∷ [] →
      children_walk walker path i vs (drop i kids) e s ≡ r →
      children_walk walker path (i + 1) us (drop (i + 1) kids) e z ≡ r
  unfolding further
  child_next t us v z there d p run =
      ap (λ ws. children_walk walker path (i + 1) ws (drop (i + 1) kids) e z) p
      ∙ sym (begun t there run ∙ ap (on_went e further) d)

  pub child_stop : (t : WideTree) (n : ℕ) → slice_get kids i ≡ Some t → walker (path ++ i ∷ []) t e s ≡ Stopped n →
      children_walk walker path i vs (drop i kids) e s ≡ r → r ≡ Stopped n
  child_stop t n there d run = begun t there run ∙ ap (on_went e further) d

  pub children_end : length kids ≤ i → children_walk walker path i vs (drop i kids) e s ≡ r → r ≡ Went vs s
  children_end le run =
      let end : drop i kids ≡ [] = grind (arith, common_steps, le) in
      sym run ∙ ap (λ ts. children_walk walker path i vs ts e s) end

-- ---- a `document`

module _ (k : ℕ) (walker : Walker) (path : List ℕ) (ts : List WideTree) (e : Before) (s : Stage) where
  abbrev node : List WideValue → Before → Stage → Walked WideValue
  node vs = went (made (codes "document") (vals vs) (Some path))

  document_on : (z : State) → entered k e s.state ≡ Done tt z →
      document_walk k walker path ts e s ≡ on_went e node (children_walk walker path 0 [] ts e (at_state s z))
  unfolding document_walk
  document_on z h =
      ap (λ r. on_went {A = Unit {0}} e (λ _ e1 s1. on_went e1 node (children_walk walker path 0 [] ts e1 s1))
      (moved s r)) h

  pub document_over : entered k e s.state ≡ Over → document_walk k walker path ts e s ≡ Stopped s.count
  unfolding document_walk
  document_over h =
      ap (λ r. on_went {A = Unit {0}} e (λ _ e1 s1. on_went e1 node (children_walk walker path 0 [] ts e1 s1))
      (moved s r)) h

  pub document_stop : (z : State) (n : ℕ) → entered k e s.state ≡ Done tt z →
      children_walk walker path 0 [] ts e (at_state s z) ≡ Stopped n → document_walk k walker path ts e s ≡ Stopped n
  document_stop z n h d = document_on z h ∙ ap (on_went e node) d

  pub document_done : (z : State) (vs : List WideValue) (y : Stage) (v : WideValue) → entered k e s.state ≡ Done tt z →
      children_walk walker path 0 [] ts e (at_state s z) ≡ Went vs y →
      v ≡ made (codes "document") (vals vs) (Some path) → document_walk k walker path ts e s ≡ Went v y
  document_done z vs y v h d is = document_on z h ∙ ap (on_went e node) d ∙ ap (λ u. Went u y) (sym is)

-- ---- a `with`

module _ (k : ℕ) (walker : Walker) (path : List ℕ) (ps : Settings) (b : WideTree) (e : Before) (s : Stage) where
  abbrev below : List ℕ
  below = path ++ (2 * length ps) ∷ []

  abbrev with_node : WideValue → Before → Stage → Walked WideValue
  with_node v = went (made (codes "with") (vals (settings_under path ps ++ v ∷ [])) (Some path))

  abbrev set_back : Sets → WideValue → Before → Stage → Walked WideValue
  set_back old v = λ e1 s1. on_went {A = Unit {0}} e1 (λ _. went v) (moved s1 (set_all old e1 s1.state))

  abbrev then_inner : Sets → Before → Stage → Walked WideValue
  then_inner old = λ e1 s1. on_went e1 with_node (on_went e1 (set_back old) (walker below b e1 s1))

  with_on : (r : Ran Sets) → names_begun k (settings_cost ps) (as_sets (setting_pairs ps)) e s.state ≡ r →
      with_walk k walker path ps b e s ≡ on_went e then_inner (moved s r)
  unfolding with_walk inner_walk
  with_on r h = ap (λ q. on_went e then_inner (moved s q)) h

  pub with_over : names_begun k (settings_cost ps) (as_sets (setting_pairs ps)) e s.state ≡ Over →
      with_walk k walker path ps b e s ≡ Stopped s.count
  with_over h = with_on Over h

  pub with_stop : (old : Sets) (z : State) (n : ℕ) →
      names_begun k (settings_cost ps) (as_sets (setting_pairs ps)) e s.state ≡ Done old z →
      walker below b e (at_state s z) ≡ Stopped n → with_walk k walker path ps b e s ≡ Stopped n
  with_stop old z n h d =
      with_on (Done old z) h ∙ ap (λ r. on_went e with_node (on_went e (set_back old) r)) d

  pub with_done : (old : Sets) (z : State) (u : WideValue) (y : Stage) (x : State) (v : WideValue) →
      names_begun k (settings_cost ps) (as_sets (setting_pairs ps)) e s.state ≡ Done old z →
      walker below b e (at_state s z) ≡ Went u y → set_all old e y.state ≡ Done tt x →
      v ≡ made (codes "with") (vals (settings_under path ps ++ u ∷ [])) (Some path) →
      with_walk k walker path ps b e s ≡ Went v (at_state y x)
  with_done old z u y x v h d back is =
      with_on (Done old z) h ∙ ap (λ r. on_went e with_node (on_went e (set_back old) r)) d
      ∙ ap (λ r. on_went e with_node (on_went {A = Unit {0}} e (λ _. went u) (moved y r))) back
      ∙ ap (λ w. Went w (at_state y x)) (sym is)
