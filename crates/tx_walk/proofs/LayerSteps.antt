-- The names and trees of a layer, in order.
use Rattle.std.proofs.Common.{◌≡◌, ℕ, zero, suc, ◌+◌, ◌*◌, ◌-◌, ◌<◌, ◌≤◌, ◌⊎◌, max, List, [], ◌∷◌, ◌++◌, length, take}
use Rattle.std.proofs.Common.{drop, refl, ap, sym, subst, ◌∙◌, append_assoc, length-append, arith}
use Rattle.std.proofs.lemmas.List.{drop_all, take_all, map-append}
use Rattle.std.specs.Prelude.{Bool, true, false, ◌&&◌, nat_le, if◌then◌else◌, Option, Some, None}
use Rattle.std.specs.Prelude.{option_and_then, slice_get}
use Rattle.std.specs.Option.{option_map_or}
use Rattle.std.specs.List.{IsDistinct}
use Rattle.std.specs.Map.{keys_of}
use Rattle.std.specs.Str.{bytes_eq}
use Rattle.std.specs.FinMap.{empty}
use Rattle.tx_tree.specs.WideTree.{WideTree, leaf, nodes_of}
use Rattle.tx_tree.proofs.Walks.{drop_item}
use Rattle.tx_env.specs.Pairs.{Name}
use Rattle.tx_origin.specs.Values.{WideValue, WideValues, text, made, none, also, plain}
use Rattle.tx_origin.specs.Under.{origin_under, value_under, values_under}
use Rattle.tx_exec_form.specs.Runs.{Before}
use Rattle.tx_exec_form.specs.Evaluated.{WideTrace, paid}
use Rattle.tx_exec_form.specs.Laws.{Agrees, Supports, LeadsTo, ComesFrom, AllComeFrom}
use Rattle.tx_exec_form.proofs.Tracing.{allowed, comes, agrees as looks_agree}
use Rattle.tx_parts.specs.Atop.{atop, env_atop, both_looks}
use Rattle.tx_parts.specs.Shells.{Layer, bare, in_turn}
use Rattle.tx_parts.specs.Composed.{SoFar, nothing_yet, with_child, children_from}
use Rattle.tx_parts.specs.Layered.{evaluates_bare, layer_pairs}
use Rattle.tx_parts.specs.LayerCosts.{Holder, TreeMeasure, set_nodes, tree_counts, tree_counts_from}
use Rattle.tx_parts.proofs.LayerValues.{text_traced, pairs_more}
use Rattle.tx_parts.proofs.Running.{none_there}
use Rattle.tx_parts.proofs.Restoring.{atop_empty}
use Rattle.tx_parts.proofs.PartRuns.{atop_twice, none_allowed}
use Rattle.tx_walk.specs.Steps.{joined_with, IsJoined}
use Rattle.tx_walk.specs.SameTrees.{is_same}
use Rattle.tx_walk.specs.Held.{agrees}
use Rattle.tx_walk.specs.LayerTraces.{TreeTrace, DoneSetting, serves_for, IsHeldWith, AllHeldBy}
use Rattle.tx_walk.proofs.Trees.{both, same_is}
use Rattle.tx_walk.proofs.Agreed.{agrees_is, agrees_of}
use Rattle.tx_walk.proofs.Known.{all_front, nodes_both}
use Rattle.tx_walk.specs.Layers.{name_trace, name_outcome, pair_of_setting, pairs_of_settings, new_nodes, LayerStage}
use Rattle.tx_walk.specs.Layers.{setting_of, TreeDone, TreeOver, behind_name}
use Rattle.tx_walk.specs.Layers.{TreeComes, SettingDone, SettingOver, at_name, at_tree, SettingComes}
use Rattle.tx_walk.specs.Layers.{LayerDone, LayerOver}

-- ---- values without origins

-- an origin below nothing is none
no_origin : (t : WideTree) (at : Option (List ℕ)) (P : WideTree → Type 0) → LeadsTo (bare t) at P → at ≡ None
no_origin t None P h = refl
no_origin t (Some p) P h = let off : None ≡ Some h.base = h.is_base in cc

mutual
  pub bare_under : (path : List ℕ) (t : WideTree) (v : WideValue) → ComesFrom (bare t) v → value_under path v ≡ v
  bare_under path t (text words at) h =
      let gone : at ≡ None = no_origin t at (λ u. u ≡ leaf words) h in
      ap (λ o. text words (origin_under path o)) gone ∙ ap (text words) (sym gone)
  bare_under path t (made label parts at) h =
      let gone : at ≡ None = no_origin t at (λ u. Unit {0}) h.0 in
      ap (λ ps. made label ps (origin_under path at)) (all_under path t parts h.1)
      ∙ ap (λ o. made label parts (origin_under path o)) gone ∙ ap (made label parts) (sym gone)

  all_under : (path : List ℕ) (t : WideTree) (vs : WideValues) → AllComeFrom (bare t) vs → values_under path vs ≡ vs
  all_under path t none h = refl
  all_under path t (also v vs) h =
      ap (λ u. also u (values_under path vs)) (bare_under path t v h.0) ∙ ap (also v) (all_under path t vs h.1)

pub traced_bare : (path : List ℕ) (k c : ℕ) (t : WideTree) (e : Before) (trace : WideTrace) →
    evaluates_bare k c t e ≡ Some trace → value_under path trace.value ≡ trace.value
traced_bare path k c t e trace h = bare_under path t trace.value (comes k c (bare t) e trace h)

-- as a child of any number, it is joined to the others unchanged
pub child_bare : (i k c : ℕ) (a : SoFar) (t : WideTree) (e : Before) (trace : WideTrace) →
    evaluates_bare k c t e ≡ Some trace → with_child i a trace ≡ joined_with a trace
child_bare i k c a t e trace h =
    ap (λ v. record {
      values = a.values ++ v ∷ [];
      looks = both_looks a.looks a.writes trace.looks;
      writes = atop trace.writes a.writes;
      cost = a.cost + trace.cost;
      height = max a.height trace.height;
    }) (traced_bare (i ∷ []) k c t e trace h)

-- ---- a name

pub nothing_once : {X : Type 0} (ws : List (Name × X)) → ws ≡ [] → IsDistinct bytes_eq (keys_of ws)
unfolding IsDistinct
nothing_once [] h = tt
nothing_once (w ∷ ws) h = cc

named_is : (k c : ℕ) (x : Name) (e : Before) → 0 < k → evaluates_bare k c (leaf x) e ≡ name_outcome c x
named_is zero c x e some = absurd (omega (arith, some))
named_is (suc k) c x e some = text_traced k c x None e

bare_none : (k c : ℕ) (t : WideTree) (e : Before) → k ≡ 0 → evaluates_bare k c t e ≡ None
bare_none zero c t e h = none_there c (bare t) e
bare_none (suc k) c t e h = absurd (omega (arith, h))

joined_none : (a b : SoFar) (o : Option WideTrace) → IsJoined a b o false → o ≡ None
joined_none a b None h = refl
joined_none a b (Some w) h = let off : false ≡ true = h.0 in cc

joined_name : (c : ℕ) (x : Name) (a b : SoFar) → IsJoined a b (name_outcome c x) true →
    (name_outcome c x ≡ Some (name_trace x)) × (b ≡ joined_with a (name_trace x))
joined_name c x a b h = by (nat_le (1 + length x) c) h
  where
    by : (d : Bool) → IsJoined a b (if d then Some (name_trace x) else None) true →
        ((if d then Some (name_trace x) else None) ≡ Some (name_trace x)) × (b ≡ joined_with a (name_trace x))
    by true g = (refl, g.1)
    by false g = let off : true ≡ false = g in absurd cc

-- ---- a name and its tree

module _ (held : Holder) (k c : ℕ) (x : Name) (t : WideTree) (s s1 : LayerStage) where
  pub no_levels : k ≡ 0 → s1.count ≡ s.count → SettingOver held k c x t s s1
  no_levels low same = at_name (bare_none k (c - s.joined.cost) (leaf x) s.names low) same

  pub name_over : (b : SoFar) → 0 < k → IsJoined s.joined b (name_outcome (c - s.joined.cost) x) false →
      s1.count ≡ s.count → SettingOver held k c x t s s1
  name_over b some h same =
      at_name (named_is k (c - s.joined.cost) x s.names some
      ∙ joined_none s.joined b (name_outcome (c - s.joined.cost) x) h) same

  pub setting_comes : (b : SoFar) (went : Bool) → 0 < k →
      IsJoined s.joined b (name_outcome (c - s.joined.cost) x) true →
      TreeComes held k c x t (record s { joined = b }) s1 went → SettingComes held k c x t s s1 went
  setting_comes b went some h g = by went (subst (λ a. TreeComes held k c x t (record s { joined = a }) s1 went) is g)
    where
      is : b ≡ joined_with s.joined (name_trace x)
      is = (joined_name (c - s.joined.cost) x s.joined b h).1

      named : evaluates_bare k (c - s.joined.cost) (leaf x) s.names ≡ Some (name_trace x)
      named =
          named_is k (c - s.joined.cost) x s.names some ∙ (joined_name (c - s.joined.cost) x s.joined b h).0

      by : (went : Bool) → TreeComes held k c x t (behind_name x s) s1 went → SettingComes held k c x t s s1 went
      by true d = record { named = named; done = d }
      by false d = at_tree named d

-- ---- a tree

true_same : (a b : WideTree) (d : Bool) → is_same a b && d ≡ true → (a ≡ b) × (d ≡ true)
true_same a b d h = (same_is a b (both (is_same a b) d h).0, (both (is_same a b) d h).1)

-- what serves for the tree is of this tree, and its looks agree
pub serves_is : (t : WideTree) (e : Before) (m : TreeTrace) → serves_for t e m ≡ true →
    (m.tree ≡ t) × (agrees e m.trace.looks ≡ true)
serves_is t e m h = true_same m.tree t (agrees e m.trace.looks) h

-- a trace that is held and allowed
pub held_comes : (m : TreeTrace) (k c : ℕ) (e : Before) → Supports m.trace (bare m.tree) →
    agrees e m.trace.looks ≡ true → m.trace.cost ≤ c → m.trace.height ≤ k →
    evaluates_bare k c m.tree e ≡ Some m.trace
held_comes m k c e supports fits cheap low = supports k c e (agrees_is e m.trace.looks fits) cheap low

-- a trace that is held and isn't allowed
pub held_over : (m : TreeTrace) (k c : ℕ) (e : Before) → Supports m.trace (bare m.tree) →
    agrees e m.trace.looks ≡ true → (c < m.trace.cost) ⊎ (k < m.trace.height) →
    evaluates_bare k c m.tree e ≡ None
held_over m k c e supports fits dear =
    none_allowed m.trace k c (bare m.tree) e supports (agrees_is e m.trace.looks fits) dear

-- a tree that is done, by the setting that is added for it
pub tree_done : (held : Holder) (k c : ℕ) (x : Name) (t : WideTree) (s s1 : LayerStage) (z : DoneSetting)
    (trace : WideTrace) → evaluates_bare k (c - s.joined.cost) t s.names ≡ Some trace →
    z ≡ setting_of held x t s.names trace → s1.joined ≡ joined_with s.joined z.done.trace →
    s1.settings ≡ s.settings ++ z ∷ [] → s1.names ≡ env_atop z.done.trace.writes s.names →
    s1.count ≡ s.count + (if held t s.names then 0 else trace.cost) → TreeDone held k c x t s s1
tree_done held k c x t s s1 z trace comes is joined settings names count =
    record {
      trace = trace;
      comes = comes;
      joined = joined ∙ ap (λ (y : DoneSetting). joined_with s.joined y.done.trace) is;
      settings = settings ∙ ap (λ y. s.settings ++ y ∷ []) is;
      names = names ∙ ap (λ (y : DoneSetting). env_atop y.done.trace.writes s.names) is;
      count = count;
    }

-- a tree is done or runs out by whether it is held, whatever holds others
pub tree_by : (one held : Holder) (k c : ℕ) (x : Name) (u t : WideTree) (s s1 : LayerStage) (went : Bool) →
    u ≡ t → one u s.names ≡ held t s.names → TreeComes one k c x u s s1 went → TreeComes held k c x t s s1 went
tree_by one held k c x u t s s1 true same alike d =
    let bare_is : evaluates_bare k (c - s.joined.cost) t s.names ≡ Some d.trace =
    ap (λ v. evaluates_bare k (c - s.joined.cost) v s.names) (sym same) ∙ d.comes in
    record {
      trace = d.trace;
      comes = bare_is;
      joined = d.joined;
      settings = d.settings
          ∙ ap (λ b. s.settings ++ record {
            name = x;
            done = record { tree = u; trace = d.trace };
            held = b;
          } ∷ []) alike
          ∙ ap (λ v. s.settings ++ record {
            name = x;
            done = record { tree = v; trace = d.trace };
            held = held t s.names;
          } ∷ []) same;
      names = d.names;
      count = d.count ∙ ap (λ b. s.count + (if b then 0 else d.trace.cost)) alike;
    }
tree_by one held k c x u t s s1 false same alike d =
    record {
      comes = ap (λ v. evaluates_bare k (c - s.joined.cost) v s.names) (sym same) ∙ d.comes;
      count = d.count ∙ ap (λ b. s.count + (if b then 0 else c - s.joined.cost)) alike;
    }

-- ---- the loop

-- after i names with their trees
pub record LayerGoing (held : Holder) (k c : ℕ) (l : Layer) (s : LayerStage) (i : ℕ) (s1 : LayerStage) : Type 0 where
  pub number : ℕ
  pub run : children_from (evaluates_bare k) c 0 nothing_yet (in_turn l.names l.trees) s.names ≡
      children_from (evaluates_bare k) c number s1.joined (in_turn (drop i l.names) (drop i l.trees)) s.names
  pub so_far : Holder → TreeMeasure → ℕ
  pub counts : (more : Holder) (measure : TreeMeasure) →
      tree_counts_from more measure k c 0 nothing_yet l.names l.trees s.names ≡ so_far more measure
      + tree_counts_from more measure k c number s1.joined (drop i l.names) (drop i l.trees) s.names
  pub count : s1.count ≡ s.count + so_far held paid
  pub nodes : new_nodes s1.settings ≡ so_far held set_nodes
  pub known : (more : Holder) (measure : TreeMeasure) → AllHeldBy more s1.settings → so_far more measure ≡ 0
  pub names : s1.names ≡ env_atop s1.joined.writes s.names
  pub settings : pairs_of_settings s1.settings ≡ layer_pairs (take i l.names) s1.joined.values
  pub cost : s1.joined.cost ≤ c
  pub many : length s1.joined.values ≡ 2 * i

none_before : (n : ℕ) → n ≡ 0 + n
none_before n = omega arith

pub layer_begins : (held : Holder) (k c : ℕ) (l : Layer) (s : LayerStage) → s.joined ≡ nothing_yet →
    s.settings ≡ [] → LayerGoing held k c l s 0 s
layer_begins held k c l s h g =
    let cost : s.joined.cost ≡ 0 = ap (λ (a : SoFar). a.cost) h in
    record {
      number = 0;
      run = ap (λ a. children_from (evaluates_bare k) c 0 a (in_turn l.names l.trees) s.names) (sym h);
      so_far = λ more measure. 0;
      counts = λ more measure.
          ap (λ a. tree_counts_from more measure k c 0 a l.names l.trees s.names) (sym h)
          ∙ none_before (tree_counts_from more measure k c 0 s.joined l.names l.trees s.names);
      count = omega arith;
      nodes = ap new_nodes g;
      known = λ more measure p. refl;
      names = sym (atop_empty s.names) ∙ ap (λ (a : SoFar). env_atop a.writes s.names) (sym h);
      settings = ap pairs_of_settings g ∙ ap (λ (a : SoFar). layer_pairs [] a.values) (sym h);
      cost = omega (arith, cost);
      many = ap (λ (a : SoFar). length a.values) h;
    }

length_taken : {X : Type 0} (xs : List X) (n : ℕ) (x : X) → slice_get xs n ≡ Some x → length (take n xs) ≡ n
length_taken [] n x h = cc
length_taken (y ∷ ys) zero x h = refl
length_taken {X} (y ∷ ys) (suc n) x h = ap suc (length_taken {X = X} ys n x h)

one_taken : {X : Type 0} (xs : List X) (n : ℕ) (x : X) → slice_get xs n ≡ Some x →
    take (n + 1) xs ≡ take n xs ++ x ∷ []
one_taken [] n x h = cc
one_taken (y ∷ ys) zero x h = let same : y ≡ x = cc in ap (λ z. z ∷ []) same
one_taken {X} (y ∷ ys) (suc n) x h =
    let number : suc n + 1 ≡ suc (n + 1) = omega arith in
    ap (λ m. take m (y ∷ ys)) number ∙ ap (λ zs. y ∷ zs) (one_taken {X = X} ys n x h)

-- the name sets nothing
name_env : (x : Name) (a : SoFar) (e : Before) → env_atop (joined_with a (name_trace x)).writes e ≡ env_atop a.writes e
name_env x a e = atop_twice empty a.writes e ∙ atop_empty (env_atop a.writes e)

sums_three : (a b c : ℕ) → a + (b + c) ≡ (a + b) + c
sums_three a b c = omega arith

nothing_both : (a b : ℕ) → a ≡ 0 → b ≡ 0 → a + b ≡ 0
nothing_both a b h g = omega (arith, h, g)

module _ (held : Holder) (k c : ℕ) (l : Layer) (s : LayerStage) (i : ℕ) (s1 : LayerStage)
    (g : LayerGoing held k c l s i s1) (x : Name) (t : WideTree) (is_name : slice_get l.names i ≡ Some x)
    (is_tree : slice_get l.trees i ≡ Some t) where
  abbrev xs : List Name
  xs = drop (i + 1) l.names

  abbrev ts : List WideTree
  ts = drop (i + 1) l.trees

  abbrev kids_then : ℕ → SoFar → Option SoFar
  kids_then n a = children_from (evaluates_bare k) c n a (in_turn xs ts) s.names

  abbrev counts_then : Holder → TreeMeasure → ℕ → SoFar → ℕ
  counts_then more measure n a = tree_counts_from more measure k c n a xs ts s.names

  -- after the name
  abbrev named : SoFar
  named = joined_with s1.joined (name_trace x)

  run_now : children_from (evaluates_bare k) c 0 nothing_yet (in_turn l.names l.trees) s.names ≡
      children_from (evaluates_bare k) c g.number s1.joined (in_turn (x ∷ xs) (t ∷ ts)) s.names
  run_now =
      g.run
      ∙ ap (λ ys. children_from (evaluates_bare k) c g.number s1.joined (in_turn ys (drop i l.trees)) s.names)
      (drop_item l.names i x is_name)
      ∙ ap (λ us. children_from (evaluates_bare k) c g.number s1.joined (in_turn (x ∷ xs) us) s.names)
      (drop_item l.trees i t is_tree)

  counts_now : (more : Holder) (measure : TreeMeasure) →
      tree_counts_from more measure k c 0 nothing_yet l.names l.trees s.names ≡
      g.so_far more measure + tree_counts_from more measure k c g.number s1.joined (x ∷ xs) (t ∷ ts) s.names
  counts_now more measure =
      g.counts more measure
      ∙ ap (λ ys. g.so_far more measure
      + tree_counts_from more measure k c g.number s1.joined ys (drop i l.trees) s.names)
      (drop_item l.names i x is_name)
      ∙ ap (λ us. g.so_far more measure + tree_counts_from more measure k c g.number s1.joined (x ∷ xs) us s.names)
      (drop_item l.trees i t is_tree)

  -- ---- where the name is done

  module _ (done : evaluates_bare k (c - s1.joined.cost) (leaf x) s1.names ≡ Some (name_trace x)) where
    name_here : evaluates_bare k (c - s1.joined.cost) (leaf x) (env_atop s1.joined.writes s.names) ≡
        Some (name_trace x)
    name_here = ap (evaluates_bare k (c - s1.joined.cost) (leaf x)) (sym g.names) ∙ done

    name_joined : with_child g.number s1.joined (name_trace x) ≡ named
    name_joined = child_bare g.number k (c - s1.joined.cost) s1.joined (leaf x) s1.names (name_trace x) done

    run_named : children_from (evaluates_bare k) c 0 nothing_yet (in_turn l.names l.trees) s.names ≡
        children_from (evaluates_bare k) c (g.number + 1) named (t ∷ in_turn xs ts) s.names
    run_named =
        run_now
        ∙ ap (option_and_then (λ trace. children_from (evaluates_bare k) c (g.number + 1)
        (with_child g.number s1.joined trace) (t ∷ in_turn xs ts) s.names)) name_here
        ∙ ap (λ a. children_from (evaluates_bare k) c (g.number + 1) a (t ∷ in_turn xs ts) s.names) name_joined

    counts_named : (more : Holder) (measure : TreeMeasure) →
        tree_counts_from more measure k c 0 nothing_yet l.names l.trees s.names ≡ g.so_far more measure
        + tree_counts more measure k c (g.number + 1) named t (counts_then more measure (g.number + 1 + 1)) s.names
    counts_named more measure =
        counts_now more measure
        ∙ ap (λ o. g.so_far more measure + option_map_or (λ trace. tree_counts more measure k c (g.number + 1)
        (with_child g.number s1.joined trace) t (counts_then more measure (g.number + 1 + 1)) s.names) o 0) name_here
        ∙ ap (λ a. g.so_far more measure + tree_counts more measure k c (g.number + 1) a t
        (counts_then more measure (g.number + 1 + 1)) s.names) name_joined

    -- what the tree is evaluated in
    names_here : s1.names ≡ env_atop named.writes s.names
    names_here = g.names ∙ sym (name_env x s1.joined s.names)

    name_cost : named.cost ≤ c
    name_cost =
        let cost : s1.joined.cost ≤ c = g.cost in
        let most = allowed k (c - s1.joined.cost) (bare (leaf x)) s1.names (name_trace x) done in
        omega (arith, cost, most.0)

    -- what is counted of the tree, by its trace
    abbrev mine : Holder → TreeMeasure → Option WideTrace → ℕ
    mine more measure o = if more t (env_atop named.writes s.names) then 0 else measure (c - named.cost) o

    counts_tree : (more : Holder) (measure : TreeMeasure) (o : Option WideTrace) →
        evaluates_bare k (c - named.cost) t (env_atop named.writes s.names) ≡ o →
        tree_counts_from more measure k c 0 nothing_yet l.names l.trees s.names ≡
        (g.so_far more measure + mine more measure o) + option_map_or
        (λ trace. counts_then more measure (g.number + 1 + 1) (with_child (g.number + 1) named trace)) o 0
    counts_tree more measure o here =
        counts_named more measure
        ∙ ap (λ r. g.so_far more measure + (mine more measure r + option_map_or
        (λ trace. counts_then more measure (g.number + 1 + 1) (with_child (g.number + 1) named trace)) r 0)) here
        ∙ sums_three (g.so_far more measure) (mine more measure o) (option_map_or
        (λ trace. counts_then more measure (g.number + 1 + 1) (with_child (g.number + 1) named trace)) o 0)

    tree_over : (s2 : LayerStage) → TreeOver held k c t (behind_name x s1) s2 → LayerOver held k c l s s2
    tree_over s2 d =
        let here : evaluates_bare k (c - named.cost) t (env_atop named.writes s.names) ≡ None =
        ap (evaluates_bare k (c - named.cost) t) (sym names_here) ∙ d.comes in
        let counts : tree_counts_from held paid k c 0 nothing_yet l.names l.trees s.names ≡
        (g.so_far held paid + mine held paid None) + 0 = counts_tree held paid None here in
        let count : s2.count ≡ s1.count + mine held paid None =
        d.count ∙ ap (λ e. s1.count + (if held t e then 0 else c - named.cost)) names_here in
        let before : s1.count ≡ s.count + g.so_far held paid = g.count in
        record {
          comes = run_named ∙ ap (option_and_then (λ trace. kids_then (g.number + 1 + 1)
              (with_child (g.number + 1) named trace))) here;
          count = omega (arith, count, before, counts);
        }

    -- a holder that holds all settings holds the tree
    tree_known : (s2 : LayerStage) (d : TreeDone held k c x t (behind_name x s1) s2) (more : Holder)
        (measure : TreeMeasure) → AllHeldBy more s2.settings →
        g.so_far more measure + mine more measure (Some d.trace) ≡ 0
    tree_known s2 d more measure h =
        let all : AllHeldBy more s1.settings × IsHeldWith more (record { tree = t; trace = d.trace }) =
        all_front more s1.settings (setting_of held x t s1.names d.trace) (subst (AllHeldBy more) d.settings h) in
        let looks : Agrees s1.names d.trace.looks =
        looks_agree k (c - named.cost) (bare t) s1.names d.trace d.comes in
        let here : more t (env_atop named.writes s.names) ≡ true =
        ap (more t) (sym names_here) ∙ all.1 s1.names (agrees_of s1.names d.trace.looks looks) in
        nothing_both (g.so_far more measure) (mine more measure (Some d.trace)) (g.known more measure all.0)
        (ap (λ b. if b then 0 else measure (c - named.cost) (Some d.trace)) here)

    tree_next : (s2 : LayerStage) → TreeDone held k c x t (behind_name x s1) s2 → LayerGoing held k c l s (i + 1) s2
    tree_next s2 d =
        let here : evaluates_bare k (c - named.cost) t (env_atop named.writes s.names) ≡ Some d.trace =
        ap (evaluates_bare k (c - named.cost) t) (sym names_here) ∙ d.comes in
        let same : with_child (g.number + 1) named d.trace ≡ s2.joined =
        child_bare (g.number + 1) k (c - named.cost) named t s1.names d.trace d.comes ∙ sym d.joined in
        let count : s2.count ≡ s1.count + mine held paid (Some d.trace) =
        d.count ∙ ap (λ e. s1.count + (if held t e then 0 else d.trace.cost)) names_here in
        let before : s1.count ≡ s.count + g.so_far held paid = g.count in
        let nodes : new_nodes s2.settings ≡ new_nodes s1.settings + (mine held set_nodes (Some d.trace) + 0) =
        ap new_nodes d.settings ∙ nodes_both s1.settings (setting_of held x t s1.names d.trace ∷ [])
        ∙ ap (λ e. new_nodes s1.settings + ((if held t e then 0 else nodes_of (plain d.trace.value)) + 0)) names_here in
        let nodes_before : new_nodes s1.settings ≡ g.so_far held set_nodes = g.nodes in
        let low : named.cost ≤ c = name_cost in
        let most = allowed k (c - named.cost) (bare t) s1.names d.trace d.comes in
        let all : s2.joined.cost ≡ named.cost + d.trace.cost = ap (λ (a : SoFar). a.cost) d.joined in
        let values : s2.joined.values ≡ s1.joined.values ++ text x None ∷ d.trace.value ∷ [] =
        ap (λ (a : SoFar). a.values) d.joined
        ∙ append_assoc s1.joined.values (text x None ∷ []) (d.trace.value ∷ []) in
        let two : length (s1.joined.values ++ text x None ∷ d.trace.value ∷ []) ≡ length s1.joined.values + 2 =
        length-append s1.joined.values (text x None ∷ d.trace.value ∷ []) in
        let many : length s1.joined.values ≡ 2 * i = g.many in
        let taken : length (take i l.names) ≡ i = length_taken l.names i x is_name in
        record {
          number = g.number + 1 + 1;
          run = run_named ∙ ap (option_and_then (λ trace. kids_then (g.number + 1 + 1)
              (with_child (g.number + 1) named trace))) here
              ∙ ap (kids_then (g.number + 1 + 1)) same;
          so_far = λ more measure. g.so_far more measure + mine more measure (Some d.trace);
          counts = λ more measure. counts_tree more measure (Some d.trace) here
              ∙ ap (λ a. (g.so_far more measure + mine more measure (Some d.trace))
              + counts_then more measure (g.number + 1 + 1) a) same;
          count = omega (arith, count, before);
          nodes = omega (arith, nodes, nodes_before);
          known = tree_known s2 d;
          names = d.names ∙ ap (env_atop d.trace.writes) names_here
              ∙ sym (atop_twice d.trace.writes named.writes s.names)
              ∙ ap (λ (a : SoFar). env_atop a.writes s.names) (sym d.joined);
          settings = ap pairs_of_settings d.settings ∙ map-append pair_of_setting s1.settings
              (setting_of held x t s1.names d.trace ∷ [])
              ∙ ap (λ ps. ps ++ (x, plain d.trace.value) ∷ []) g.settings
              ∙ sym (pairs_more (take i l.names) x s1.joined.values (text x None) d.trace.value
              (many ∙ ap (λ n. 2 * n) (sym taken)))
              ∙ ap (λ vs. layer_pairs (take i l.names ++ x ∷ []) vs) (sym values)
              ∙ ap (λ ys. layer_pairs ys s2.joined.values) (sym (one_taken l.names i x is_name));
          cost = omega (arith, all, low, most.0);
          many = ap length values ∙ omega (arith, two, many);
        }

  pub setting_next : (s2 : LayerStage) → SettingDone held k c x t s1 s2 → LayerGoing held k c l s (i + 1) s2
  setting_next s2 d = tree_next d.named s2 d.done

  pub setting_over : (s2 : LayerStage) → SettingOver held k c x t s1 s2 → LayerOver held k c l s s2
  setting_over s2 (at_name missed same) =
      let here : evaluates_bare k (c - s1.joined.cost) (leaf x) (env_atop s1.joined.writes s.names) ≡ None =
      ap (evaluates_bare k (c - s1.joined.cost) (leaf x)) (sym g.names) ∙ missed in
      let counts : tree_counts_from held paid k c 0 nothing_yet l.names l.trees s.names ≡ g.so_far held paid + 0 =
      counts_now held paid ∙ ap (λ o. g.so_far held paid + option_map_or (λ trace. tree_counts held paid k c
      (g.number + 1) (with_child g.number s1.joined trace) t (counts_then held paid (g.number + 1 + 1)) s.names) o 0)
      here in
      let before : s1.count ≡ s.count + g.so_far held paid = g.count in
      record {
        comes = run_now ∙ ap (option_and_then (λ trace. children_from (evaluates_bare k) c (g.number + 1)
            (with_child g.number s1.joined trace) (t ∷ in_turn xs ts) s.names)) here;
        count = omega (arith, same, before, counts);
      }
  setting_over s2 (at_tree done d) = tree_over done s2 d

pub layer_ends : (held : Holder) (k c : ℕ) (l : Layer) (s : LayerStage) (i : ℕ) (s1 : LayerStage) →
    LayerGoing held k c l s i s1 → i ≡ length l.names → length l.names ≡ length l.trees → LayerDone held k c l s s1
layer_ends held k c l s i s1 g h full =
    let counts : (more : Holder) (measure : TreeMeasure) →
    tree_counts_from more measure k c 0 nothing_yet l.names l.trees s.names ≡ g.so_far more measure + 0 =
    λ more measure. g.counts more measure
    ∙ ap (λ ys. g.so_far more measure
    + tree_counts_from more measure k c g.number s1.joined ys (drop i l.trees) s.names)
    (drop_all i l.names (omega (arith, h))) in
    let before : s1.count ≡ s.count + g.so_far held paid = g.count in
    let nodes_before : new_nodes s1.settings ≡ g.so_far held set_nodes = g.nodes in
    let many : length s1.joined.values ≡ 2 * i = g.many in
    record {
      comes = g.run ∙ ap (λ ys. children_from (evaluates_bare k) c g.number s1.joined (in_turn ys (drop i l.trees))
          s.names) (drop_all i l.names (omega (arith, h)));
      settings = g.settings ∙ ap (λ ys. layer_pairs ys s1.joined.values) (take_all i l.names (omega (arith, h)));
      names = g.names;
      count = omega (arith, before, counts held paid);
      nodes = omega (arith, nodes_before, counts held set_nodes);
      known = λ more measure p. counts more measure ∙ nothing_both (g.so_far more measure) 0
          (g.known more measure p) refl;
      many = omega (arith, many, h);
    }
