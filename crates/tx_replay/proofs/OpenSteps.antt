-- What the walk of an open tree returns, by what its steps return.
use Rattle.std.proofs.Common.{◌≡◌, ℕ, zero, suc, ◌+◌, ◌*◌, ◌-◌, ◌<◌, ◌≤◌, max, List, [], ◌∷◌, ◌++◌, length, drop, refl, ap}
use Rattle.std.proofs.Common.{sym, subst, ◌∙◌, arith}
use Rattle.std.proofs.lemmas.Grind.{common_steps}
use Rattle.std.specs.Prelude.{Bool, true, false, nat_le, if◌then◌else◌, Option, Some, None, Result, Ok, Err, IfOk}
use Rattle.std.specs.Prelude.{slice_get, codes, is_some, MatchOption}
use Rattle.std.specs.FinMap.{get}
use Rattle.tx_tree.specs.WideTree.{WideTree, children_of, label_of, size_of, depth_of, total_size, deepest}
use Rattle.tx_tree.specs.Limits.{IsWithinLimits}
use Rattle.tx_env.specs.Pairs.{Name}
use Rattle.tx_env.specs.Environments.{NameMap}
use Rattle.tx_origin.specs.Values.{WideValue, made, vals, plain, plains}
use Rattle.tx_exec_form.specs.Runs.{Before, State, Ran, Over, Done}
use Rattle.tx_exec_form.specs.Rows.{Sets, set_all, kept_of}
use Rattle.tx_parts.specs.Openness.{Settings as TextSettings, Document, With, openness, settings_in}
use Rattle.tx_parts.specs.Composed.{setting_pairs, settings_cost}
use Rattle.tx_parts.specs.Layered.{as_sets}
use Rattle.tx_replay.specs.Descent.{AreSettings, IsScope}
use Rattle.tx_replay.specs.Gives.{Fails, Stops, Walks, IsBounded}
use Rattle.tx_replay.specs.Going.{Going, last_map, names_of}
use Rattle.tx_replay.specs.Held.{Stores}
use Rattle.tx_replay.specs.OpenRows.{entered, names_begun}
use Rattle.tx_replay.specs.Walks.{Stage, Walked, Stopped, Went, Walker, walk, children_walk, document_walk}
use Rattle.tx_replay.specs.Walks.{settings_under}
use Rattle.tx_replay.specs.declared.settings.Settings.{Settings}
use Rattle.tx_replay.specs.declared.stop.Stop.{Stop}
use Rattle.tx_replay.specs.declared.stop.Stop.TheVariants as stops
use Rattle.tx_replay.proofs.Entering.{at_state, in_with, settings_set_is}
use Rattle.tx_replay.proofs.Levels.{shut_guide, Bounded, walk_bounded, child_next, child_stop, children_end}
use Rattle.tx_replay.proofs.Levels.{document_over, document_stop, document_done, with_over, with_stop, with_done}
use Rattle.tx_replay.proofs.Levels.{with_level}
use Rattle.tx_replay.proofs.Scopes.{named, document_label, few_children, count_under, total_more, deep_more}
use Rattle.tx_replay.proofs.Scopes.{under_small}
use Rattle.tx_replay.proofs.Texts.{settings_count, inner_at}

-- names have the same before, where the scopes are the same
pub same_names : (a b : Going) → a.scopes ≡ b.scopes → names_of a ≡ names_of b
same_names a b h = let by : List NameMap → Before = λ ms x. get (last_map ms) x in ap by h

-- ---- bounds

pub bounds_of : (kept : Stores) (k : ℕ) (path : List ℕ) (t : WideTree) (e : Before) (s z : Stage)
    (r : Result WideValue Stop) → s.state.slack ≤ k → Walks (λ v. v) r (walk (shut_guide kept) k path t e s) z →
    IfOk r (λ v. IsBounded v k s.state z.state)
bounds_of kept k path t e s z (Ok v) low h =
    let b : Bounded kept v k s.state z.state = walk_bounded kept k path t e s z v low h in
    record { size = b.size; depth = b.depth; slack = b.slack }
bounds_of kept k path t e s z (Err x) low h = tt

-- ---- children

module _ (walker : Walker) (path : List ℕ) (kids : List WideTree) (i : ℕ) (vs : List WideValue) (e d : Before)
    (s : Stage) (r : Walked (List WideValue)) (same : d ≡ e) where
  pub next_child : (t : WideTree) (at : List ℕ) (us : List WideValue) (v : WideValue) (z : Stage) →
      slice_get kids i ≡ Some t → at ≡ path ++ i ∷ [] → walker at t d s ≡ Went v z → us ≡ vs ++ v ∷ [] →
      children_walk walker path i vs (drop i kids) e s ≡ r →
      children_walk walker path (i + 1) us (drop (i + 1) kids) e z ≡ r
  next_child t at us v z there is_at h p run =
      child_next walker path kids i vs e s r t us v z there
      (ap (λ q. walker q t e s) (sym is_at) ∙ ap (λ f. walker at t f s) (sym same) ∙ h) p run

  pub stop_child : (x : Stop) (t : WideTree) (at : List ℕ) (n : ℕ) → slice_get kids i ≡ Some t →
      at ≡ path ++ i ∷ [] → Stops x (walker at t d s) n → children_walk walker path i vs (drop i kids) e s ≡ r →
      Stops x r n
  stop_child stops.Memory t at n there is_at h run = tt
  stop_child stops.Over t at n there is_at h run =
      child_stop walker path kids i vs e s r t n there
      (ap (λ q. walker q t e s) (sym is_at) ∙ ap (λ f. walker at t f s) (sym same) ∙ h) run

pub size_next : (vs us : List WideValue) (v : WideValue) (k : ℕ) (z0 z y : State) → us ≡ vs ++ v ∷ [] →
    total_size (plains (vals vs)) + z.left ≤ z0.left → IsBounded v k z y →
    total_size (plains (vals us)) + y.left ≤ z0.left
size_next vs us v k z0 z y p so_far b =
    let more : total_size (plains (vals us)) ≡ total_size (plains (vals vs)) + size_of (plain v) =
    ap (λ ws. total_size (plains (vals ws))) p ∙ total_more vs v in
    omega (arith, more, so_far, b.size)

pub depth_next : (vs us : List WideValue) (v : WideValue) (k : ℕ) (z y : State) → us ≡ vs ++ v ∷ [] →
    deepest (plains (vals vs)) ≤ k → IsBounded v k z y → deepest (plains (vals us)) ≤ k
depth_next vs us v k z y p so_far b =
    let more : deepest (plains (vals us)) ≡ max (deepest (plains (vals vs))) (depth_of (plain v)) =
    ap (λ ws. deepest (plains (vals ws))) p ∙ deep_more vs v in
    omega (arith, more, so_far, b.depth)

pub count_next : (vs us : List WideValue) (v : WideValue) (i : ℕ) → us ≡ vs ++ v ∷ [] → length vs ≡ i →
    length us ≡ i + 1
count_next vs us v i p h = ap length p ∙ by vs i h
  where
    by : (ws : List WideValue) (j : ℕ) → length ws ≡ j → length (ws ++ v ∷ []) ≡ j + 1
    by [] j g = omega (arith, g)
    by (w ∷ ws) j g =
        let rest : length (ws ++ v ∷ []) ≡ length ws + 1 = by ws (length ws) refl in
        omega (arith, g, rest)

pub all_children : (walker : Walker) (path : List ℕ) (kids : List WideTree) (i : ℕ) (vs : List WideValue) (e : Before)
    (s : Stage) (r : Walked (List WideValue)) → length kids ≤ i →
    children_walk walker path i vs (drop i kids) e s ≡ r → r ≡ Went vs s
all_children walker path kids i vs e s r le run = children_end walker path kids i vs e s r le run

-- ---- a `document`

module _ (k : ℕ) (walker : Walker) (path : List ℕ) (ts : List WideTree) (e d : Before) (s : Stage) where
  pub document_unentered : (x : Stop) → Fails x (entered k e s.state) →
      Stops x (document_walk k walker path ts e s) s.count
  document_unentered stops.Memory h = tt
  document_unentered stops.Over h = document_over k walker path ts e s h

  pub document_stopped : (x : Stop) (z : State) (n : ℕ) → d ≡ e → entered k e s.state ≡ Done tt z →
      Stops x (children_walk walker path 0 [] ts d (at_state s z)) n → Stops x (document_walk k walker path ts e s) n
  document_stopped stops.Memory z n same h g = tt
  document_stopped stops.Over z n same h g =
      document_stop k walker path ts e s z n h
      (ap (λ f. children_walk walker path 0 [] ts f (at_state s z)) (sym same) ∙ g)

  pub document_went : (z : State) (vs : List WideValue) (y : Stage) (v : WideValue) → d ≡ e →
      entered k e s.state ≡ Done tt z → children_walk walker path 0 [] ts d (at_state s z) ≡ Went vs y →
      v ≡ made (codes "document") (vals vs) (Some path) → document_walk k walker path ts e s ≡ Went v y
  document_went z vs y v same h g is =
      document_done k walker path ts e s z vs y v h
      (ap (λ f. children_walk walker path 0 [] ts f (at_state s z)) (sym same) ∙ g) is

pub document_node : (t : WideTree) → openness t ≡ Document (children_of t) → is_some (label_of t) ≡ true
document_node t h = ap is_some (document_label t h)

-- ---- a `with`

-- the settings that are found, or that there are none since they are too dear
abbrev Tells : WideTree → List ℕ → ℕ → Option Settings → Type 0
Tells t path left r = (ps : TextSettings) (b : WideTree) → settings_in (children_of t) ≡ Some (ps, b) →
    MatchOption r (left < settings_cost ps) (λ s. AreSettings path ps s)

pub scope_found : (t b : WideTree) (path : List ℕ) (left : ℕ) (ps : TextSettings) (r : Option Settings)
    (settings : Settings) → openness t ≡ With ps b → Tells t path left r → r ≡ Some settings →
    IsScope t path settings
scope_found t b path left ps None settings opens tells is = cc
scope_found t b path left ps (Some s) settings opens tells is =
    let same : s ≡ settings = cc in
    record {
      texts = ps;
      inner = b;
      opens = opens;
      are = subst (AreSettings path ps) same (tells ps b (named t ps b opens).texts);
    }

pub scope_dear : (t b : WideTree) (path : List ℕ) (left n : ℕ) (ps : TextSettings) (r : Option Settings) →
    openness t ≡ With ps b → Tells t path n r → r ≡ None → n ≡ left → left < settings_cost ps
scope_dear t b path left n ps (Some s) opens tells is same = cc
scope_dear t b path left n ps None opens tells is same =
    subst (λ m. m < settings_cost ps) same (tells ps b (named t ps b opens).texts)

-- its texts are too dear
pub scope_unpaid : (kept : Stores) (k : ℕ) (path : List ℕ) (t b : WideTree) (ps : TextSettings) (e : Before)
    (s : Stage) → 0 < k → openness t ≡ With ps b → s.state.left < settings_cost ps →
    walk (shut_guide kept) k path t e s ≡ Stopped s.count
scope_unpaid kept zero path t b ps e s some opens few = absurd (omega (arith, some))
scope_unpaid kept (suc k) path t b ps e s some opens few =
    let dear : nat_le (1 + settings_cost ps) s.state.left ≡ false = grind (arith, common_steps, few) in
    let by : Bool → Ran Sets = λ x. if x
    then Done (kept_of (as_sets (setting_pairs ps)) s.state.own) (in_with k ps s.state) else Over in
    with_level kept (suc k) path t e s some ps b opens
    ∙ with_over (suc k) (walk (shut_guide kept) (suc k - 1)) path ps b e s (settings_set_is k ps e s.state ∙ ap by dear)

module _ (kept : Stores) (k : ℕ) (path : List ℕ) (t : WideTree) (e d : Before) (s : Stage) (some : 0 < k)
    (settings : Settings) (scope : IsScope t path settings) (us : List (Name × WideTree))
    (is_us : us ≡ settings.pairs.items) where
  abbrev ps : TextSettings
  ps = scope.texts

  abbrev inner : WideTree
  inner = scope.inner

  abbrev walker : Walker
  walker = walk (shut_guide kept) (k - 1)

  -- with the names and the cost at hand
  begun_is : names_begun k settings.cost (as_sets us) e s.state ≡
      names_begun k (settings_cost ps) (as_sets (setting_pairs ps)) e s.state
  begun_is =
      ap (λ n. names_begun k n (as_sets us) e s.state) scope.are.cost
      ∙ ap (λ vs. names_begun k (settings_cost ps) (as_sets vs) e s.state) (is_us ∙ scope.are.pairs)

  pub scope_unbegun : (x : Stop) → Fails x (names_begun k settings.cost (as_sets us) e s.state) →
      Stops x (walk (shut_guide kept) k path t e s) s.count
  scope_unbegun stops.Memory h = tt
  scope_unbegun stops.Over h =
      with_level kept k path t e s some ps inner scope.opens
      ∙ with_over k walker path ps inner e s (sym begun_is ∙ h)

  -- what is inside stands here
  count_is : length (children_of t) ≡ suc (2 * length ps)
  count_is = settings_count (children_of t) ps inner (named t ps inner scope.opens).texts

  pub some_children : (n : ℕ) → n ≡ length (children_of t) → 1 ≤ n
  some_children n h = omega (arith, h, count_is)

  module _ (last : ℕ) (is_last : last ≡ length (children_of t) - 1) where
    last_is : last ≡ 2 * length ps
    last_is = omega (arith, is_last, count_is)

    pub inner_there : slice_get (children_of t) last ≡ Some inner
    inner_there = inner_at (children_of t) ps inner last (named t ps inner scope.opens).texts last_is

    pub inner_is : (u : WideTree) → slice_get (children_of t) last ≡ Some u → u ≡ inner
    inner_is u h = let same : Some u ≡ Some inner = sym h ∙ inner_there in cc

    walker_is : (at : List ℕ) (u : WideTree) (z : State) → at ≡ path ++ last ∷ [] →
        slice_get (children_of t) last ≡ Some u → d ≡ e →
        walker (path ++ (2 * length ps) ∷ []) inner e (at_state s z) ≡ walker at u d (at_state s z)
    walker_is at u z is_at there same =
        ap (λ i. walker (path ++ i ∷ []) inner e (at_state s z)) (sym last_is)
        ∙ ap (λ p. walker p inner e (at_state s z)) (sym is_at)
        ∙ ap (λ v. walker at v e (at_state s z)) (sym (inner_is u there))
        ∙ ap (λ f. walker at u f (at_state s z)) (sym same)

    pub scope_stopped : (x : Stop) (at : List ℕ) (u : WideTree) (old : Sets) (z : State) (n : ℕ) →
        at ≡ path ++ last ∷ [] → slice_get (children_of t) last ≡ Some u → d ≡ e →
        names_begun k settings.cost (as_sets us) e s.state ≡ Done old z →
        Stops x (walker at u d (at_state s z)) n → Stops x (walk (shut_guide kept) k path t e s) n
    scope_stopped stops.Memory at u old z n is_at there same begun h = tt
    scope_stopped stops.Over at u old z n is_at there same begun h =
        with_level kept k path t e s some ps inner scope.opens
        ∙ with_stop k walker path ps inner e s old z n (sym begun_is ∙ begun) (walker_is at u z is_at there same ∙ h)

    pub scope_went : (at : List ℕ) (u : WideTree) (old : Sets) (z : State) (w : WideValue) (y : Stage) (x : State)
        (v : WideValue) → at ≡ path ++ last ∷ [] → slice_get (children_of t) last ≡ Some u → d ≡ e →
        names_begun k settings.cost (as_sets us) e s.state ≡ Done old z →
        walker at u d (at_state s z) ≡ Went w y → set_all old e y.state ≡ Done tt x →
        v ≡ made (codes "with") (vals (settings.values.items ++ w ∷ [])) (Some path) →
        walk (shut_guide kept) k path t e s ≡ Went v (at_state y x)
    scope_went at u old z w y x v is_at there same begun h back is =
        with_level kept k path t e s some ps inner scope.opens
        ∙ with_done k walker path ps inner e s old z w y x v (sym begun_is ∙ begun)
        (walker_is at u z is_at there same ∙ h) back
        (is ∙ ap (λ us. made (codes "with") (vals (us ++ w ∷ [])) (Some path)) scope.are.values)

  -- ---- what its node owes

  pub scope_label : label_of t ≡ Some (codes "with")
  scope_label = (named t ps inner scope.opens).label

  pub scope_arity : IsWithinLimits t → length settings.values.items < 65535
  scope_arity limits =
      let values : length settings.values.items ≡ 2 * length ps =
      ap length scope.are.values ∙ count_under path ps in
      omega (arith, values, count_is, few_children t limits)

  pub scope_depth : (w : WideValue) (z y : State) → k ≤ 400 → IsBounded w (k - 1) z y →
      deepest (plains (vals (settings.values.items ++ w ∷ []))) < 400
  scope_depth w z y few b =
      let more : deepest (plains (vals (settings.values.items ++ w ∷ []))) ≡
      max (deepest (plains (vals settings.values.items))) (depth_of (plain w)) = deep_more settings.values.items w in
      let texts : deepest (plains (vals settings.values.items)) ≡ deepest (plains (vals (settings_under path ps))) =
      ap (λ us. deepest (plains (vals us))) scope.are.values in
      let small : deepest (plains (vals (settings_under path ps))) ≤ 1 = (under_small path ps).1 in
      omega (arith, more, texts, small, b.depth, few, some)

  pub scope_size : (w : WideValue) (z y : State) → s.state.left ≤ 1000000 →
      z.left + (1 + settings.cost) ≡ s.state.left → IsBounded w (k - 1) z y →
      total_size (plains (vals (settings.values.items ++ w ∷ []))) < 1000000
  scope_size w z y few spent b =
      let more : total_size (plains (vals (settings.values.items ++ w ∷ []))) ≡
      total_size (plains (vals settings.values.items)) + size_of (plain w) = total_more settings.values.items w in
      let texts : total_size (plains (vals settings.values.items)) ≡
      total_size (plains (vals (settings_under path ps))) =
      ap (λ us. total_size (plains (vals us))) scope.are.values in
      let small : total_size (plains (vals (settings_under path ps))) ≤ settings_cost ps = (under_small path ps).0 in
      let cost : settings.cost ≡ settings_cost ps = scope.are.cost in
      omega (arith, more, texts, small, cost, b.size, few, spent)
