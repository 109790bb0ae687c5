-- A tag with a shell, and any tree.
use Rattle.std.proofs.Common.{◌≡◌, ℕ, zero, suc, ◌+◌, ◌-◌, ◌≤◌, min, List, [], ◌∷◌, ◌++◌, map, refl, ap, sym, ◌∙◌, arith}
use Rattle.std.proofs.lemmas.Grind.{common_steps}
use Rattle.std.specs.Prelude.{Bool, true, false, nat_le, if◌then◌else◌, Option, Some, None}
use Rattle.std.specs.Option.{option_map, option_or}
use Rattle.std.specs.FinMap.{get, empty}
use Rattle.tx_tree.specs.WideTree.{WideTree, Forest, leaf, node}
use Rattle.tx_env.specs.Pairs.{Name}
use Rattle.tx_origin.specs.Values.{WideValue}
use Rattle.tx_origin.specs.Under.{value_under}
use Rattle.tx_exec_form.specs.Maps.{LookMap, noted}
use Rattle.tx_exec_form.specs.Runs.{Before, State, Run, Over, Done, on_done, give, look, from_own}
use Rattle.tx_exec_form.specs.Evaluated.{WideTrace}
use Rattle.tx_parts.specs.Atop.{atop, env_atop, both_looks}
use Rattle.tx_parts.specs.Adding.{after_part}
use Rattle.tx_parts.specs.Openness.{Document, With, Shut, openness}
use Rattle.tx_parts.specs.Shells.{Layer, Shell}
use Rattle.tx_parts.specs.Opening.{Opening, ByTree, ByShell, opening, opening_by}
use Rattle.tx_parts.specs.Shellers.{IsSheller}
use Rattle.tx_parts.specs.Composed.{evaluates}
use Rattle.tx_parts.specs.Layered.{evaluates_in, shell_trace, composed_opened}
use Rattle.tx_parts.specs.Parts.{Part, parts_by, parts_in, parts_opened}
use Rattle.tx_parts.specs.LayerCosts.{holds_nothing, layer_costs_by, layer_costs_in, costs_opened}
use Rattle.tx_parts.proofs.Maps.{atop_nothing, looks_nothing, both_set, both_unset}
use Rattle.tx_parts.proofs.Restoring.{past_none}
use Rattle.tx_parts.proofs.Settings.{none_low}
use Rattle.tx_parts.proofs.Opened.{opened_is, none_inside as none_low_inside}
use Rattle.tx_replay.specs.Held.{charges}
use Rattle.tx_replay.specs.Seen.{Seen, seen_in, Guide, charged, charged_in}
use Rattle.tx_replay.specs.OpenRows.{label_looked}
use Rattle.tx_replay.specs.Walks.{Stage, Walked, Stopped, Went, on_went, moved, told, LayerWalker, tag_walk}
use Rattle.tx_replay.specs.Walks.{walk_opened, walk, walk_in, tree_told}
use Rattle.tx_replay.proofs.States.{looks_joined}
use Rattle.tx_replay.proofs.Charging.{none_charged}
use Rattle.tx_replay.proofs.ChildWalks.{Tells}
use Rattle.tx_replay.proofs.Entering.{stepped, at_state, entered_is}
use Rattle.tx_replay.proofs.Opened.{over_told, part_is, document_is, with_is}
use Rattle.tx_replay.proofs.Whole.{TellsIn, over_in, child_is, layer_is}

-- ---- the look at a label

-- with the look at a name that has this before
abbrev looked_at : Name → Option WideTree → State → State
looked_at x v z = record z { looks = both_looks z.looks z.own (noted empty x v) }

pub look_is : (x : Name) (e : Before) (z : State) →
    look x e z ≡ Done (env_atop z.own e x) (looked_at x (env_atop z.own e x) z)
unfolding look
look_is x e z = by (get z.own x) refl
  where
    by : (o : Option WideTree) → get z.own x ≡ o →
        from_own x o e z ≡ Done (option_or o (e x)) (looked_at x (option_or o (e x)) z)
    by (Some t) h =
        ap (λ m. Done (Some t) (record z { looks = m }))
        (sym (both_set z.looks z.own empty x t (Some t) h ∙ looks_nothing z.looks z.own))
    by None h =
        ap (λ m. Done (e x) (record z { looks = m }))
        (sym (both_unset z.looks z.own empty x (e x) h
        ∙ ap (λ m. noted m x (e x)) (looks_nothing z.looks z.own)))

-- the state after the label of a tag
abbrev pub in_tag : ℕ → Name → Before → State → State
in_tag k x e z = looked_at x (env_atop z.own e x) (stepped k z)

pub label_then : {A : Type 0} (k : ℕ) (x : Name) (f : Before → Stage → Walked A) (e : Before) (s : Stage) →
    on_went {A = Unit {0}} e (λ _. f) (moved s (label_looked (suc k) x e s.state)) ≡
    (if nat_le 1 s.state.left then f e (at_state s (in_tag k x e s.state)) else Stopped s.count)
unfolding label_looked
label_then {A} k x f e s =
    ap (λ r. on_went {A = Unit {0}} e (λ _. f) (moved s (on_done {A = Unit {0}} e looking r)))
    (entered_is k e s.state)
    ∙ by (nat_le 1 s.state.left)
  where
    looking : Unit {0} → Run (Unit {0})
    looking u = λ e1 z1. on_done e1 (λ (o : Option WideTree). give tt) (look x e1 z1)

    by : (b : Bool) → on_went {A = Unit {0}} e (λ _. f) (moved s (on_done {A = Unit {0}} e looking
        (if b then Done tt (stepped k s.state) else Over))) ≡
        (if b then f e (at_state s (in_tag k x e s.state)) else Stopped s.count)
    by true =
        ap (λ r. on_went {A = Unit {0}} e (λ _. f) (moved s (on_done e (λ (o : Option WideTree). give tt) r)))
        (look_is x e (stepped k s.state))
    by false = refl

-- ---- the tag

module _ (g : Guide) (sound : IsSheller g.sheller) (k : ℕ) (path : List ℕ) (e : Before) (s : Stage) (label : List ℕ)
    (ts : Forest) (shell : Shell) (u : WideTree)
    (opens : opening g.sheller (node label ts) (env_atop s.state.own e) ≡ ByShell shell u) where
  abbrev t : WideTree
  t = node label ts

  abbrev names : Before
  names = env_atop s.state.own e

  abbrev left : ℕ
  left = s.state.left

  tag_parts : parts_by g.sheller (suc k) left path t names ≡
      parts_in g.sheller k shell.layers shell.inner (left - 1) path u names
  unfolding parts_by
  tag_parts = ap (λ o. parts_opened o k (parts_by g.sheller k) (parts_in g.sheller k) left path t names) opens

  tag_costs : layer_costs_by holds_nothing g.sheller (suc k) left t names ≡
      layer_costs_in holds_nothing g.sheller k shell.layers (left - 1) u names
  unfolding layer_costs_by
  tag_costs =
      ap (λ o. costs_opened o k (layer_costs_by holds_nothing g.sheller k)
      (layer_costs_in holds_nothing g.sheller k) left t names) opens

  tag_charged : charged g (suc k) left path t names ≡
      charged_in g k shell.layers shell.inner (left - 1) path u names
  tag_charged =
      ap (λ (ps : List Part). charges g.stores ps + layer_costs_by holds_nothing g.sheller (suc k) left t names)
      tag_parts
      ∙ ap (λ n. charges g.stores (parts_in g.sheller k shell.layers shell.inner (left - 1) path u names) + n)
      tag_costs

  tag_whole : evaluates (suc k) left t names ≡ (if nat_le 1 left then option_map (shell_trace t names)
      (evaluates_in k shell.layers shell.inner (left - 1) u names) else None)
  tag_whole =
      opened_is g.sheller sound k left t names
      ∙ ap (λ o. composed_opened o k (evaluates k) (evaluates_in k) left t names) opens

  abbrev within : State
  within = in_tag k label e s.state

  abbrev seen_inside : List Seen
  seen_inside = map (seen_in g.stores) (parts_in g.sheller k shell.layers shell.inner (left - 1) path u names)

  abbrev charged_inside : ℕ
  charged_inside = charged_in g k shell.layers shell.inner (left - 1) path u names

  looks_are : (m : LookMap) →
      both_looks (both_looks s.state.looks s.state.own (noted empty label (names label))) s.state.own m ≡
      both_looks s.state.looks s.state.own (atop (noted empty label (names label)) m)
  looks_are m =
      ap (λ o. both_looks (both_looks s.state.looks s.state.own (noted empty label (names label))) o m)
      (sym (atop_nothing s.state.own))
      ∙ looks_joined s.state.looks (noted empty label (names label)) m s.state.own empty
      ∙ ap (λ n. both_looks s.state.looks s.state.own (atop (noted empty label (names label)) n)) (past_none m)

  tag_behind : (trace : WideTrace) →
      after_part k within trace ≡ after_part (suc k) s.state (shell_trace t names trace)
  tag_behind trace =
      let fewer : (left - 1) - trace.cost ≡ left - (1 + trace.cost) = omega arith in
      let slack : min (min s.state.slack k) (k - trace.height) ≡
      min s.state.slack (suc k - (1 + trace.height)) = omega arith in
      ap (λ m. record {
        own = atop trace.writes s.state.own;
        looks = m;
        left = (left - 1) - trace.cost;
        slack = min (min s.state.slack k) (k - trace.height);
      }) (looks_are trace.looks)
      ∙ ap (λ n. record {
        own = atop trace.writes s.state.own;
        looks = both_looks s.state.looks s.state.own (atop (noted empty label (names label)) trace.looks);
        left = n;
        slack = min (min s.state.slack k) (k - trace.height);
      }) fewer
      ∙ ap (λ n. record {
        own = atop trace.writes s.state.own;
        looks = both_looks s.state.looks s.state.own (atop (noted empty label (names label)) trace.looks);
        left = left - (1 + trace.cost);
        slack = n;
      }) slack

  then_tag : (o : Option WideTrace) → told k path (at_state s within) seen_inside charged_inside o ≡
      told (suc k) path s seen_inside charged_inside (option_map (shell_trace t names) o)
  then_tag None = refl
  then_tag (Some trace) =
      ap (λ z. Went (value_under path trace.value) (record {
        state = z;
        done = s.done ++ seen_inside;
        count = s.count + charged_inside;
      })) (tag_behind trace)

  module _ (inside : LayerWalker) (tells : TellsIn g k inside) where
    abbrev walked : Before → Stage → Walked WideValue
    walked = inside shell.layers (path ++ shell.inner ∷ []) u

    by_tag : (d : Bool) → d ≡ nat_le 1 left →
        (if d then walked e (at_state s within) else Stopped s.count) ≡ tree_told g (suc k) path t e s
    by_tag false q =
        let none : left ≡ 0 = grind (arith, common_steps, q) in
        over_told g (suc k) left path t names s (map (seen_in g.stores) (parts_by g.sheller (suc k) left path t names))
        (tag_whole ∙ ap (λ b. if b then option_map (shell_trace t names)
        (evaluates_in k shell.layers shell.inner (left - 1) u names) else None) (sym q))
        (none_charged g sound (suc k) left path t names none)
    by_tag true q =
        let low : min s.state.slack k ≤ k = omega arith in
        tells shell.layers shell.inner path u e (at_state s within) low
        ∙ then_tag (evaluates_in k shell.layers shell.inner (left - 1) u names)
        ∙ ap (λ o. told (suc k) path s seen_inside charged_inside o)
        (ap (λ b. if b then option_map (shell_trace t names)
        (evaluates_in k shell.layers shell.inner (left - 1) u names) else None) q ∙ sym tag_whole)
        ∙ ap (λ n. told (suc k) path s seen_inside n (evaluates (suc k) left t names)) (sym tag_charged)
        ∙ ap (λ ps. told (suc k) path s (map (seen_in g.stores) ps) (charged g (suc k) left path t names)
        (evaluates (suc k) left t names)) (sym tag_parts)

    pub tag_is : tag_walk (suc k) walked t e s ≡ tree_told g (suc k) path t e s
    unfolding tag_walk
    tag_is = label_then k label walked e s ∙ by_tag (nat_le 1 left) refl

-- ---- any tree

-- a text has no shell
no_tag : (shell : Shell) (words : List ℕ) (o : Option Shell) (u : WideTree) →
    opening_by o (leaf words) ≡ ByShell shell u → ⊥
no_tag shell words None u h = let off : ByTree (openness (leaf words)) ≡ ByShell shell u = h in cc
no_tag shell words (Some other) u h = let off : ByTree (openness (leaf words)) ≡ ByShell shell u = h in cc

none_low_charged : (g : Guide) (c : ℕ) (path : List ℕ) (t : WideTree) (e : Before) → charged g 0 c path t e ≡ 0
unfolding parts_by layer_costs_by
none_low_charged g c path t e = refl

none_low_in : (g : Guide) (ls : List Layer) (i c : ℕ) (path : List ℕ) (t : WideTree) (e : Before) →
    charged_in g 0 ls i c path t e ≡ 0
unfolding parts_in layer_costs_in
none_low_in g ls i c path t e = refl

module _ (g : Guide) (sound : IsSheller g.sheller) where
  zero_tells : Tells g 0 (walk g 0)
  unfolding walk
  zero_tells path t e s low =
      over_told g 0 s.state.left path t (env_atop s.state.own e) s
      (map (seen_in g.stores) (parts_by g.sheller 0 s.state.left path t (env_atop s.state.own e)))
      (none_low s.state.left t (env_atop s.state.own e))
      (none_low_charged g s.state.left path t (env_atop s.state.own e))

  zero_in : TellsIn g 0 (walk_in g 0)
  unfolding walk_in
  zero_in ls i path t e s low =
      over_in g 0 ls i path t e s (none_low_inside ls i s.state.left t (env_atop s.state.own e))
      (none_low_in g ls i s.state.left path t (env_atop s.state.own e))

  module _ (k : ℕ) (tells : Tells g k (walk g k)) (tells_in : TellsIn g k (walk_in g k)) where
    by_opening : (o : Opening) (path : List ℕ) (t : WideTree) (e : Before) (s : Stage) →
        opening g.sheller t (env_atop s.state.own e) ≡ o →
        walk_opened o g.stores k (walk g k) (walk_in g k) path t e s ≡ tree_told g (suc k) path t e s
    by_opening (ByTree (Document ts)) path t e s q = document_is g sound k path t e s (walk g k) tells ts q
    by_opening (ByTree (With ps b)) path t e s q = with_is g sound k path t e s (walk g k) tells ps b q
    by_opening (ByTree Shut) path t e s q = part_is g sound k path t e s q
    by_opening (ByShell shell u) path (leaf words) e s q =
        absurd (no_tag shell words (g.sheller (leaf words) (env_atop s.state.own e)) u q)
    by_opening (ByShell shell u) path (node label ts) e s q =
        tag_is g sound k path e s label ts shell u q (walk_in g k) tells_in

    next_tells : Tells g (suc k) (walk g (suc k))
    unfolding walk
    next_tells path t e s low = by_opening (opening g.sheller t (env_atop s.state.own e)) path t e s refl

    next_in : TellsIn g (suc k) (walk_in g (suc k))
    unfolding walk_in
    next_in [] i path t e s low = child_is g sound k i path t e s (walk g k) tells
    next_in (l ∷ ls) i path t e s low = layer_is g sound k i path t e s l ls (walk_in g k) tells_in

  pub both_tell : (k : ℕ) → Tells g k (walk g k) × TellsIn g k (walk_in g k)
  both_tell zero = (zero_tells, zero_in)
  both_tell (suc k) = (next_tells k (both_tell k).0 (both_tell k).1, next_in k (both_tell k).0 (both_tell k).1)
