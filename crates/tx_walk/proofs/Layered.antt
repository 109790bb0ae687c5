-- Trees in layers, and tags with shells.
use Rattle.std.proofs.Common.{◌≡◌, ℕ, zero, suc, ◌+◌, ◌*◌, ◌-◌, ◌<◌, ◌≤◌, max, List, [], ◌∷◌, ◌++◌, map, length, refl}
use Rattle.std.proofs.Common.{ap, sym, subst, ◌∙◌, arith}
use mathlib.Core.Path.{fun_ext}
use Rattle.std.proofs.lemmas.Grind.{common_steps}
use Rattle.std.proofs.lemmas.List.{map-append}
use Rattle.std.specs.Prelude.{true, false, nat_le, if◌then◌else◌, Option, Some, None, option_and_then, IfSome}
use Rattle.std.specs.Prelude.{slice_get, codes, Result, Ok, Err, IfOk, OnOk}
use Rattle.std.specs.Option.{option_map, option_map_or}
use Rattle.std.specs.FinMap.{get, empty}
use Rattle.tx_tree.specs.WideTree.{WideTree, leaf, node, children_of, size_of, depth_of, total_size, deepest}
use Rattle.tx_env.specs.Pairs.{Name}
use Rattle.tx_env.specs.Environments.{Environment, NameMap, overlaid}
use Rattle.tx_exec.specs.States.{before_of}
use Rattle.tx_origin.specs.Values.{WideValue, made, vals, plain, plains}
use Rattle.tx_origin.specs.Under.{value_under}
use Rattle.tx_origin.proofs.Under.{under_nested, vals_under, plain_under}
use Rattle.tx_exec_form.specs.Maps.{LookMap}
use Rattle.tx_exec_form.specs.Runs.{Before}
use Rattle.tx_exec_form.specs.Rows.{sizes}
use Rattle.tx_exec_form.specs.Evaluated.{WideTrace, paid}
use Rattle.tx_exec_form.proofs.Tracing.{allowed, small}
use Rattle.tx_parts.specs.Atop.{atop, env_atop, past, both_looks}
use Rattle.tx_parts.specs.Openness.{openness}
use Rattle.tx_parts.specs.Shells.{Layer, Shell, IsFull, bare, in_turn}
use Rattle.tx_parts.specs.Opening.{ByShell, opening_by, shell_opening, opening}
use Rattle.tx_parts.specs.Shellers.{IsSheller}
use Rattle.tx_parts.specs.Composed.{alone, evaluates, SoFar, nothing_yet, with_child, children_from}
use Rattle.tx_parts.specs.Layered.{evaluates_bare, layer_pairs, as_sets, layer_sets, layer_cost}
use Rattle.tx_parts.specs.Layered.{inside_layer, layer_trace, child_trace, layer_composed}
use Rattle.tx_parts.specs.Layered.{evaluates_in, label_look, shell_trace, composed_opened}
use Rattle.tx_parts.specs.Parts.{Part, parts_opened, parts_by, parts_in}
use Rattle.tx_parts.specs.LayerCosts.{Holder, HoldsMore, set_nodes, layer_tree_costs, layer_set_nodes, costs_inside}
use Rattle.tx_parts.specs.LayerCosts.{costs_opened, layer_costs_by, layer_costs_in}
use Rattle.tx_parts.proofs.Children.{FirstDone, first_done, children_within, bare_bounded}
use Rattle.tx_parts.proofs.Opened.{layers_are, opened_is, in_bounded, layer_done, child_done, none_inside}
use Rattle.tx_parts.proofs.Opened as opened
use Rattle.tx_parts.proofs.PartRuns.{atop_twice}
use Rattle.tx_walk.specs.declared.part.Part.{Part as DonePart}
use Rattle.tx_walk.specs.Held.{charges}
use Rattle.tx_walk.specs.Guides.{Guide, charged, charged_in}
use Rattle.tx_walk.specs.Walked.{seen, seen_in}
use Rattle.tx_walk.specs.Steps.{trace_under, IsBehind, IsAdded}
use Rattle.tx_walk.specs.LayerTraces.{TreeTrace, holds_in, AllHeldBy, AreKnownBy, AreKnownIn}
use Rattle.tx_walk.specs.Layers.{pairs_of_settings, set_sizes, new_nodes, LayerStage, LayerDone, LayerOver}
use Rattle.tx_walk.proofs.Known.{known_as, all_more}
use Rattle.tx_walk.specs.Shelled.{step_more, look_before, IsCountedTrace, layer_by, FitsLayer, BehindLayer}
use Rattle.tx_walk.proofs.Charging.{none_inside as nothing_inside}
use Rattle.tx_walk.proofs.LayerSteps.{traced_bare}
use Rattle.tx_walk.proofs.Within.{set_atop}
use Rattle.tx_parts.proofs.Maps.{get_atop, atop_nothing}

up : (k : ℕ) → 0 < k → suc (k - 1) ≡ k
up k some = omega (arith, some)

-- ---- what comes after, where the result is made of what was inside

pub added_as : (guide : Guide) (f : WideTrace → WideTrace) (ps qs : List Part) (old new : List DonePart)
    (o r : Option WideTrace) → ps ≡ qs → r ≡ option_map f o → IsAdded guide.stores ps old new o →
    IsAdded guide.stores qs old new r
added_as guide f ps qs old new o None same g h = tt
added_as guide f ps qs old new None (Some w) same g h = cc
added_as guide f ps qs old new (Some u) (Some w) same g h =
    h ∙ ap (λ xs. map seen old ++ map (seen_in guide.stores) xs) same

-- where it sets the same
pub behind_as : (f : WideTrace → WideTrace) → ((u : WideTrace) → (f u).writes ≡ u.writes) → (e e1 : Before)
    (o r : Option WideTrace) → r ≡ option_map f o → IsBehind e e1 o → IsBehind e e1 r
behind_as f keeps e e1 o None g h = tt
behind_as f keeps e e1 None (Some w) g h = cc
behind_as f keeps e e1 (Some u) (Some w) g h =
    let same : w ≡ f u = cc in
    h ∙ ap (λ m. env_atop m e) (sym (ap (λ (v : WideTrace). v.writes) same ∙ keeps u))

-- what is counted, where k and c are one more
counted_as : (path : List ℕ) (k c : ℕ) (x o : Option WideTrace) → ((w : WideTrace) → x ≡ Some w →
    (w.cost ≤ c - 1) × (w.height ≤ k - 1)) → o ≡ option_map (trace_under path) x → 0 < k → 0 < c → k ≤ 400 →
    c ≤ 1000000 → IfSome o IsCountedTrace
counted_as path k c x None most g some left low few = tt
counted_as path k c None (Some u) most g some left low few = cc
counted_as path k c (Some w) (Some u) most g some left low few =
    let same : trace_under path w ≡ u = sym cc in
    let bounds : (w.cost ≤ c - 1) × (w.height ≤ k - 1) = most w refl in
    subst IsCountedTrace same (record {
      cost = omega (arith, bounds.0, left, few);
      height = omega (arith, bounds.1, some, low);
    })

pub added_same : (guide : Guide) (ps qs : List Part) (old new : List DonePart) (o : Option WideTrace) → ps ≡ qs →
    IsAdded guide.stores ps old new o → IsAdded guide.stores qs old new o
added_same guide ps qs old new o same h = subst (λ rs. IsAdded guide.stores rs old new o) same h

-- ---- what the code asks

-- an element of a number below the length is there
pub missing : {X : Type 0} (xs : List X) (i : ℕ) → i < length xs → slice_get xs i ≡ None → ⊥
missing [] i low h = absurd (omega (arith, low))
missing (x ∷ xs) zero low h = cc
missing {X} (x ∷ xs) (suc i) low h = missing {X = X} xs i (omega (arith, low)) h

pub behind_same : (between before : Environment) → between ≡ before → (own : NameMap) (after : Before)
    (o : Option WideTrace) → BehindLayer own (before_of between) after o → BehindLayer own (before_of before) after o
behind_same between before same own after o h = subst (λ env. BehindLayer own (before_of env) after o) same h

pub none_first : {X : Type 0} (xs : List X) → length xs ≡ 0 → xs ≡ []
none_first [] h = refl
none_first (x ∷ xs) h = absurd (omega (arith, h))

pub pushed_both : {X Y : Type 0} (r : Result X Y) (P : Type 0) (Q R : X → Type 0) → (P → (x : X) → Q x → R x) →
    OnOk r P → IfOk r Q → IfOk r R
pushed_both (Ok x) P Q R f p q = f p x q
pushed_both (Err y) P Q R f p q = tt

-- ---- without steps

some_size : (t : WideTree) → 1 ≤ size_of t
some_size (leaf words) = omega arith
some_size (node label ts) = omega arith

pub without_steps : (k c : ℕ) (t : WideTree) (e : Before) → c ≡ 0 → evaluates k c t e ≡ None
without_steps k c t e h = by (evaluates k c t e) refl
  where
    by : (o : Option WideTrace) → evaluates k c t e ≡ o → o ≡ None
    by None q = refl
    by (Some w) q =
        let bounds : (w.cost ≤ c) × (w.height ≤ k) = allowed k c (alone t) e w q in
        let size : (size_of (plain w.value) ≤ w.cost) × (depth_of (plain w.value) ≤ w.height) =
        small k c (alone t) e w q in
        absurd (omega (arith, bounds.0, size.0, some_size (plain w.value), h))

-- ---- a child in no more layers

module _ (guide : Guide) (k c i : ℕ) (path : List ℕ) (t : WideTree) (e : Before) (some : 0 < k) (left : 0 < c)
  where
    child_is : evaluates_in k [] i c t e ≡ option_map (child_trace i) (evaluates (k - 1) (c - 1) t e)
    child_is =
        let one : nat_le 1 c ≡ true = grind (arith, common_steps, left) in
        ap (λ n. evaluates_in n [] i c t e) (sym (up k some)) ∙ layers_are (k - 1) [] i c t e
        ∙ ap (λ b. if b then option_map (child_trace i) (evaluates (k - 1) (c - 1) t e) else None) one

    pub child_parts : parts_in guide.sheller k [] i c path t e ≡
        parts_by guide.sheller (k - 1) (c - 1) (path ++ i ∷ []) t e
    unfolding parts_in
    child_parts = ap (λ n. parts_in guide.sheller n [] i c path t e) (sym (up k some))

    child_costs : (held : Holder) →
        layer_costs_in held guide.sheller k [] c t e ≡ layer_costs_by held guide.sheller (k - 1) (c - 1) t e
    unfolding layer_costs_in
    child_costs held = ap (λ n. layer_costs_in held guide.sheller n [] c t e) (sym (up k some))

    pub child_charged : charged_in guide k [] i c path t e ≡ charged guide (k - 1) (c - 1) (path ++ i ∷ []) t e
    child_charged =
        ap (λ (ps : List Part). charges guide.stores ps
        + layer_costs_in guide.holder guide.sheller k [] c t e) child_parts
        ∙ ap (λ n. charges guide.stores (parts_by guide.sheller (k - 1) (c - 1) (path ++ i ∷ []) t e) + n)
        (child_costs guide.holder)

    pub child_known : (old new : List TreeTrace) (o r : Option WideTrace) → r ≡ option_map step_more o →
        AreKnownBy guide.sheller (k - 1) (c - 1) t e old new o → AreKnownIn guide.sheller k [] c t e old new r
    child_known old new o r g h =
        known_as (λ held. layer_costs_by held guide.sheller (k - 1) (c - 1) t e)
        (λ held. layer_costs_in held guide.sheller k [] c t e) step_more old new o r child_costs g h

    module _ (below : List ℕ) (o : Option WideTrace) (is : below ≡ path ++ i ∷ [])
        (comes : o ≡ option_map (trace_under below) (evaluates (k - 1) (c - 1) t e)) where
      pub child_exact : (r : Option WideTrace) → r ≡ option_map step_more o →
          r ≡ option_map (trace_under path) (evaluates_in k [] i c t e)
      child_exact r g =
          g ∙ ap (option_map step_more) (comes
          ∙ ap (λ p. option_map (trace_under p) (evaluates (k - 1) (c - 1) t e)) is)
          ∙ by (evaluates (k - 1) (c - 1) t e) ∙ ap (option_map (trace_under path)) (sym child_is)
        where
          by : (x : Option WideTrace) → option_map step_more (option_map (trace_under (path ++ i ∷ [])) x) ≡
              option_map (trace_under path) (option_map (child_trace i) x)
          by None = refl
          by (Some w) = ap (λ v. Some (record {
            value = v;
            looks = w.looks;
            writes = w.writes;
            cost = 1 + w.cost;
            height = 1 + w.height;
          })) (under_nested path (i ∷ []) w.value)

      pub child_counted : k ≤ 400 → c ≤ 1000000 → IfSome o IsCountedTrace
      child_counted low few =
          counted_as below k c (evaluates (k - 1) (c - 1) t e) o
          (λ w h. allowed (k - 1) (c - 1) (alone t) e w h) comes some left low few

-- ---- a tag

module _ (guide : Guide) (k c : ℕ) (path : List ℕ) (t : WideTree) (shell : Shell) (u : WideTree) (e : Before)
    (sound : IsSheller guide.sheller) (shelled : guide.sheller t e ≡ Some shell)
    (got : slice_get (children_of t) shell.inner ≡ Some u) (some : 0 < k) where
  opening_is : opening guide.sheller t e ≡ ByShell shell u
  opening_is =
      ap (λ o. opening_by o t) shelled ∙ ap (λ o. shell_opening shell o (openness t)) got

  tag_whole : evaluates k c t e ≡ (if nat_le 1 c then option_map (shell_trace t e)
      (evaluates_in (k - 1) shell.layers shell.inner (c - 1) u e) else None)
  tag_whole =
      ap (λ n. evaluates n c t e) (sym (up k some)) ∙ opened_is guide.sheller sound (k - 1) c t e
      ∙ ap (λ o. composed_opened o (k - 1) (evaluates (k - 1)) (evaluates_in (k - 1)) c t e) opening_is

  pub tag_over : c ≡ 0 → evaluates k c t e ≡ None
  tag_over h =
      let less : nat_le 1 c ≡ false = grind (arith, common_steps, h) in
      tag_whole ∙ ap (λ b. if b then option_map (shell_trace t e)
      (evaluates_in (k - 1) shell.layers shell.inner (c - 1) u e) else None) less

  pub tag_parts : parts_by guide.sheller k c path t e ≡
      parts_in guide.sheller (k - 1) shell.layers shell.inner (c - 1) path u e
  unfolding parts_by
  tag_parts =
      ap (λ n. parts_by guide.sheller n c path t e) (sym (up k some))
      ∙ ap (λ o. parts_opened o (k - 1) (parts_by guide.sheller (k - 1)) (parts_in guide.sheller (k - 1)) c path t e)
      opening_is

  tag_costs : (held : Holder) → layer_costs_by held guide.sheller k c t e ≡
      layer_costs_in held guide.sheller (k - 1) shell.layers (c - 1) u e
  unfolding layer_costs_by
  tag_costs held =
      ap (λ n. layer_costs_by held guide.sheller n c t e) (sym (up k some))
      ∙ ap (λ o. costs_opened o (k - 1) (layer_costs_by held guide.sheller (k - 1))
      (layer_costs_in held guide.sheller (k - 1)) c t e) opening_is

  pub tag_known : (looks : LookMap) (old new : List TreeTrace) (o r : Option WideTrace) →
      r ≡ option_map (look_before looks) o →
      AreKnownIn guide.sheller (k - 1) shell.layers (c - 1) u e old new o →
      AreKnownBy guide.sheller k c t e old new r
  tag_known looks old new o r g h =
      known_as (λ held. layer_costs_in held guide.sheller (k - 1) shell.layers (c - 1) u e)
      (λ held. layer_costs_by held guide.sheller k c t e) (look_before looks) old new o r tag_costs g h

  pub tag_charged : charged guide k c path t e ≡ charged_in guide (k - 1) shell.layers shell.inner (c - 1) path u e
  tag_charged =
      ap (λ (ps : List Part). charges guide.stores ps + layer_costs_by guide.holder guide.sheller k c t e) tag_parts
      ∙ ap (λ n. charges guide.stores (parts_in guide.sheller (k - 1) shell.layers shell.inner (c - 1) path u e) + n)
      (tag_costs guide.holder)

  module _ (left : 0 < c) (o : Option WideTrace)
      (comes : o ≡ option_map (trace_under path) (evaluates_in (k - 1) shell.layers shell.inner (c - 1) u e)) where
    pub tag_exact : (looks : LookMap) (r : Option WideTrace) → looks ≡ label_look t e →
        r ≡ option_map (look_before looks) o → r ≡ option_map (trace_under path) (evaluates k c t e)
    tag_exact looks r is g =
        let one : nat_le 1 c ≡ true = grind (arith, common_steps, left) in
        g ∙ ap (λ m. option_map (look_before m) o) is ∙ ap (option_map (look_before (label_look t e))) comes
        ∙ by (evaluates_in (k - 1) shell.layers shell.inner (c - 1) u e)
        ∙ ap (option_map (trace_under path)) (sym (tag_whole
        ∙ ap (λ b. if b then option_map (shell_trace t e)
        (evaluates_in (k - 1) shell.layers shell.inner (c - 1) u e) else None) one))
      where
        by : (x : Option WideTrace) → option_map (look_before (label_look t e)) (option_map (trace_under path) x) ≡
            option_map (trace_under path) (option_map (shell_trace t e) x)
        by None = refl
        by (Some w) = refl

    pub tag_counted : k ≤ 400 → c ≤ 1000000 → IfSome o IsCountedTrace
    tag_counted low few =
        counted_as path k c (evaluates_in (k - 1) shell.layers shell.inner (c - 1) u e) o
        (λ w h. in_bounded (k - 1) shell.layers shell.inner (c - 1) u e w h) comes some left low few

-- ---- values of a layer

total_more : (vs : List WideValue) (u : WideValue) →
    total_size (plains (vals (vs ++ u ∷ []))) ≡ total_size (plains (vals vs)) + size_of (plain u)
total_more [] u = omega arith
total_more (v ∷ vs) u =
    let rest : total_size (plains (vals (vs ++ u ∷ []))) ≡ total_size (plains (vals vs)) + size_of (plain u) =
    total_more vs u in
    omega (arith, rest)

deep_more : (vs : List WideValue) (u : WideValue) →
    deepest (plains (vals (vs ++ u ∷ []))) ≡ max (deepest (plains (vals vs))) (depth_of (plain u))
deep_more [] u = omega arith
deep_more (v ∷ vs) u =
    let rest : deepest (plains (vals (vs ++ u ∷ []))) ≡ max (deepest (plains (vals vs))) (depth_of (plain u)) =
    deep_more vs u in
    omega (arith, rest)

abbrev IsSmall : SoFar → Type 0
IsSmall a = (total_size (plains (vals a.values)) ≤ a.cost) × (deepest (plains (vals a.values)) ≤ a.height)

values_small : (k c i : ℕ) (a : SoFar) (ts : List WideTree) (e : Before) (b : SoFar) → IsSmall a →
    children_from (evaluates_bare k) c i a ts e ≡ Some b → IsSmall b
values_small k c i a [] e b h g = let same : a ≡ b = cc in subst IsSmall same h
values_small k c i a (t ∷ ts) e b h g =
    by (first_done (evaluates_bare k) c i a t ts e b g) (λ a' p q. values_small k c (i + 1) a' ts e b p q)
  where
    by : FirstDone (evaluates_bare k) c i a t ts e b →
        ((a' : SoFar) → IsSmall a' → children_from (evaluates_bare k) c (i + 1) a' ts e ≡ Some b → IsSmall b) →
        IsSmall b
    by f go =
        let one : (size_of (plain f.trace.value) ≤ f.trace.cost) × (depth_of (plain f.trace.value) ≤ f.trace.height) =
        small k (c - a.cost) (bare t) (env_atop a.writes e) f.trace f.first in
        let same : plain (value_under (i ∷ []) f.trace.value) ≡ plain f.trace.value =
        plain_under (i ∷ []) f.trace.value in
        let size : size_of (plain (value_under (i ∷ []) f.trace.value)) ≡ size_of (plain f.trace.value) =
        ap size_of same in
        let depth : depth_of (plain (value_under (i ∷ []) f.trace.value)) ≡ depth_of (plain f.trace.value) =
        ap depth_of same in
        let total = total_more a.values (value_under (i ∷ []) f.trace.value) in
        let deep = deep_more a.values (value_under (i ∷ []) f.trace.value) in
        go (with_child i a f.trace) (omega (arith, one.0, size, total, h.0), omega (arith, one.1, depth, deep, h.1))
        f.others

nothing_small : IsSmall nothing_yet
nothing_small = (omega arith, omega arith)

-- they have no origins
values_bare : (path : List ℕ) (k c i : ℕ) (a : SoFar) (ts : List WideTree) (e : Before) (b : SoFar) →
    map (value_under path) a.values ≡ a.values → children_from (evaluates_bare k) c i a ts e ≡ Some b →
    map (value_under path) b.values ≡ b.values
values_bare path k c i a [] e b h g =
    let same : a ≡ b = cc in
    subst (λ (x : SoFar). map (value_under path) x.values ≡ x.values) same h
values_bare path k c i a (t ∷ ts) e b h g =
    by (first_done (evaluates_bare k) c i a t ts e b g) (λ a' p q. values_bare path k c (i + 1) a' ts e b p q)
  where
    by : FirstDone (evaluates_bare k) c i a t ts e b → ((a' : SoFar) → map (value_under path) a'.values ≡ a'.values →
        children_from (evaluates_bare k) c (i + 1) a' ts e ≡ Some b → map (value_under path) b.values ≡ b.values) →
        map (value_under path) b.values ≡ b.values
    by f go =
        let one : value_under (i ∷ []) f.trace.value ≡ f.trace.value =
        traced_bare (i ∷ []) k (c - a.cost) t (env_atop a.writes e) f.trace f.first in
        let two : value_under path f.trace.value ≡ f.trace.value =
        traced_bare path k (c - a.cost) t (env_atop a.writes e) f.trace f.first in
        go (with_child i a f.trace)
        (map-append (value_under path) a.values (value_under (i ∷ []) f.trace.value ∷ [])
        ∙ ap (λ vs. vs ++ value_under path (value_under (i ∷ []) f.trace.value) ∷ []) h
        ∙ ap (λ v. a.values ++ v ∷ []) (ap (value_under path) one ∙ two ∙ sym one))
        f.others

-- a tree in layers evaluates to a value that is no larger than its cost, and no deeper than its height
in_small : (k : ℕ) (ls : List Layer) (i c : ℕ) (t : WideTree) (e : Before) (trace : WideTrace) →
    evaluates_in k ls i c t e ≡ Some trace →
    (size_of (plain trace.value) ≤ trace.cost) × (depth_of (plain trace.value) ≤ trace.height)
in_small zero ls i c t e trace h = let off : None ≡ Some trace = sym (none_inside ls i c t e) ∙ h in cc
in_small (suc k) [] i c t e trace h = by (child_done k i c t e trace h)
  where
    by : opened.ChildDone k i c t e trace →
        (size_of (plain trace.value) ≤ trace.cost) × (depth_of (plain trace.value) ≤ trace.height)
    by d =
        let one : (size_of (plain d.inner.value) ≤ d.inner.cost) × (depth_of (plain d.inner.value) ≤ d.inner.height) =
        small k (c - 1) (alone t) e d.inner d.inside in
        let value : plain trace.value ≡ plain d.inner.value =
        ap (λ (w : WideTrace). plain w.value) d.is ∙ plain_under (i ∷ []) d.inner.value in
        let size : size_of (plain trace.value) ≡ size_of (plain d.inner.value) = ap size_of value in
        let depth : depth_of (plain trace.value) ≡ depth_of (plain d.inner.value) = ap depth_of value in
        let cost : trace.cost ≡ 1 + d.inner.cost = ap (λ (w : WideTrace). w.cost) d.is in
        let height : trace.height ≡ 1 + d.inner.height = ap (λ (w : WideTrace). w.height) d.is in
        (omega (arith, one.0, size, cost), omega (arith, one.1, depth, height))
in_small (suc k) (l ∷ ls) i c t e trace h =
    by (layer_done k l ls i c t e trace h) (λ n d w g. in_small k ls i n t d w g)
  where
    by : opened.LayerDone k l ls i c t e trace → ((n : ℕ) (d : Before) (w : WideTrace) →
        evaluates_in k ls i n t d ≡ Some w →
        (size_of (plain w.value) ≤ w.cost) × (depth_of (plain w.value) ≤ w.height)) →
        (size_of (plain trace.value) ≤ trace.cost) × (depth_of (plain trace.value) ≤ trace.height)
    by d go =
        let one : (size_of (plain d.inner.value) ≤ d.inner.cost) × (depth_of (plain d.inner.value) ≤ d.inner.height) =
        go (c - layer_cost l.names d.values) (inside_layer l.names d.values e) d.inner d.inside in
        let all : IsSmall d.values =
        values_small k (c - 1) 0 nothing_yet (in_turn l.names l.trees) e d.values nothing_small d.done in
        let total = total_more d.values.values d.inner.value in
        let deep = deep_more d.values.values d.inner.value in
        let size : size_of (plain trace.value) ≡ 1 + total_size (plains (vals (d.values.values ++ d.inner.value ∷ [])))
        =
        ap (λ (w : WideTrace). size_of (plain w.value)) d.is in
        let depth : depth_of (plain trace.value) ≡ 1 + deepest (plains (vals (d.values.values ++ d.inner.value ∷ []))) =
        ap (λ (w : WideTrace). depth_of (plain w.value)) d.is in
        let cost : trace.cost ≡ layer_cost l.names d.values + d.inner.cost = ap (λ (w : WideTrace). w.cost) d.is in
        let height : trace.height ≡ 1 + max d.values.height d.inner.height =
        ap (λ (w : WideTrace). w.height) d.is in (
          omega (arith, one.0, all.0, total, size, cost),
          omega (arith, one.1, all.1, deep, depth, height),
        )

pub nothing_in : (k : ℕ) (ls : List Layer) (i c : ℕ) (t : WideTree) (e : Before) → c ≡ 0 →
    evaluates_in k ls i c t e ≡ None
nothing_in k ls i c t e h = by (evaluates_in k ls i c t e) refl
  where
    by : (o : Option WideTrace) → evaluates_in k ls i c t e ≡ o → o ≡ None
    by None q = refl
    by (Some w) q =
        let bounds : (w.cost ≤ c) × (w.height ≤ k) = in_bounded k ls i c t e w q in
        let size : (size_of (plain w.value) ≤ w.cost) × (depth_of (plain w.value) ≤ w.height) =
        in_small k ls i c t e w q in
        absurd (omega (arith, bounds.0, size.0, some_size (plain w.value), h))

pub low_in : (k : ℕ) (ls : List Layer) (i c : ℕ) (t : WideTree) (e : Before) → k ≡ 0 →
    evaluates_in k ls i c t e ≡ None
low_in zero ls i c t e h = none_inside ls i c t e
low_in (suc k) ls i c t e h = absurd (omega (arith, h))

-- ---- a layer

-- what names and trees cost is allowed
pub values_cost : (held : Holder) (k c : ℕ) (l : Layer) (s s1 : LayerStage) → LayerDone held k c l s s1 →
    s1.joined.cost ≤ c
values_cost held k c l s s1 d = (children_within k (evaluates_bare k) (bare_bounded k) c 0 nothing_yet
    (in_turn l.names l.trees) s.names s1.joined (omega arith, omega arith) d.comes).0

sizes_are : (ps : List (Name × WideTree)) → sizes (as_sets ps) ≡ set_sizes ps
sizes_are [] = refl
sizes_are (p ∷ ps) =
    let rest : sizes (as_sets ps) ≡ set_sizes ps = sizes_are ps in
    omega (arith, rest)

-- pairs that are set in an environment override it
overlaid_atop : (m : NameMap) (ps : List (Name × WideTree)) →
    get (overlaid m ps) ≡ env_atop (overlaid empty ps) (get m)
overlaid_atop m ps =
    ap (λ x. get (overlaid x ps)) (sym (atop_nothing m)) ∙ ap get (set_atop empty m ps)
    ∙ fun_ext (λ q. get_atop (overlaid empty ps) m q)

module _ (guide : Guide) (sound : IsSheller guide.sheller) (k c i : ℕ) (path : List ℕ) (l : Layer) (ls : List Layer)
    (t : WideTree) (s : LayerStage) (some : 0 < k) where
  -- where one of the names and trees runs out
  module _ (s1 : LayerStage) (d : LayerOver guide.holder (k - 1) (c - 1) l s s1) where
    pub values_over : evaluates_in k (l ∷ ls) i c t s.names ≡ None
    values_over =
        ap (λ n. evaluates_in n (l ∷ ls) i c t s.names) (sym (up k some))
        ∙ layers_are (k - 1) (l ∷ ls) i c t s.names
        ∙ ap (option_and_then (λ a. layer_composed l.names a (evaluates_in (k - 1) ls i) c t s.names)) d.comes

    over_parts : parts_in guide.sheller k (l ∷ ls) i c path t s.names ≡ []
    unfolding parts_in
    over_parts =
        ap (λ n. parts_in guide.sheller n (l ∷ ls) i c path t s.names) (sym (up k some))
        ∙ ap (λ o. option_map_or (λ a. parts_in guide.sheller (k - 1) ls i (c - layer_cost l.names a) path t
        (inside_layer l.names a s.names)) o []) d.comes

    over_costs : layer_costs_in guide.holder guide.sheller k (l ∷ ls) c t s.names ≡
        layer_tree_costs guide.holder (k - 1) l c s.names + 0
    unfolding layer_costs_in
    over_costs =
        ap (λ n. layer_costs_in guide.holder guide.sheller n (l ∷ ls) c t s.names) (sym (up k some))
        ∙ ap (λ o. layer_tree_costs guide.holder (k - 1) l c s.names
        + option_map_or (λ a. costs_inside guide.holder (k - 1) l a
        (layer_costs_in guide.holder guide.sheller (k - 1) ls) c t s.names) o 0)
        d.comes

    pub over_counted : s1.count ≡ s.count + charged_in guide k (l ∷ ls) i c path t s.names
    over_counted =
        let count : s1.count ≡ s.count + layer_tree_costs guide.holder (k - 1) l c s.names = d.count in
        let parts : charges guide.stores (parts_in guide.sheller k (l ∷ ls) i c path t s.names) ≡ 0 =
        ap (charges guide.stores) over_parts in
        omega (arith, count, parts, over_costs)

  -- where they are done
  module _ (s1 : LayerStage) (d : LayerDone guide.holder (k - 1) (c - 1) l s s1) where
    abbrev a : SoFar
    a = s1.joined

    pub cost_is : (1 + a.cost) + set_sizes (pairs_of_settings s1.settings) ≡ layer_cost l.names a
    cost_is =
        let same : set_sizes (pairs_of_settings s1.settings) ≡ sizes (as_sets (layer_pairs l.names a.values)) =
        ap set_sizes d.settings ∙ sym (sizes_are (layer_pairs l.names a.values)) in
        omega (arith, same)

    layer_whole : evaluates_in k (l ∷ ls) i c t s.names ≡
        layer_composed l.names a (evaluates_in (k - 1) ls i) c t s.names
    layer_whole =
        ap (λ n. evaluates_in n (l ∷ ls) i c t s.names) (sym (up k some))
        ∙ layers_are (k - 1) (l ∷ ls) i c t s.names
        ∙ ap (option_and_then (λ x. layer_composed l.names x (evaluates_in (k - 1) ls i) c t s.names)) d.comes

    layer_parts : parts_in guide.sheller k (l ∷ ls) i c path t s.names ≡
        parts_in guide.sheller (k - 1) ls i (c - layer_cost l.names a) path t (inside_layer l.names a s.names)
    unfolding parts_in
    layer_parts =
        ap (λ n. parts_in guide.sheller n (l ∷ ls) i c path t s.names) (sym (up k some))
        ∙ ap (λ o. option_map_or (λ x. parts_in guide.sheller (k - 1) ls i (c - layer_cost l.names x) path t
        (inside_layer l.names x s.names)) o []) d.comes

    layer_costs : (held : Holder) → layer_costs_in held guide.sheller k (l ∷ ls) c t s.names ≡
        layer_tree_costs held (k - 1) l c s.names
        + costs_inside held (k - 1) l a (layer_costs_in held guide.sheller (k - 1) ls) c t s.names
    unfolding layer_costs_in
    layer_costs held =
        ap (λ n. layer_costs_in held guide.sheller n (l ∷ ls) c t s.names) (sym (up k some))
        ∙ ap (λ o. layer_tree_costs held (k - 1) l c s.names + option_map_or
        (λ x. costs_inside held (k - 1) l x (layer_costs_in held guide.sheller (k - 1) ls) c t s.names) o 0)
        d.comes

    -- the layer costs too much
    module _ (dear : c < (1 + a.cost) + set_sizes (pairs_of_settings s1.settings)) where
      dear_test : nat_le (layer_cost l.names a) c ≡ false
      dear_test = grind (arith, common_steps, dear, cost_is)

      pub dear_over : evaluates_in k (l ∷ ls) i c t s.names ≡ None
      dear_over =
          layer_whole ∙ ap (λ b. if b then option_map (layer_trace l.names a)
          (evaluates_in (k - 1) ls i (c - layer_cost l.names a) t (inside_layer l.names a s.names)) else None)
          dear_test

      pub dear_counted : s1.count ≡ s.count + charged_in guide k (l ∷ ls) i c path t s.names
      dear_counted =
          let count : s1.count ≡ s.count + layer_tree_costs guide.holder (k - 1) l c s.names = d.count in
          let same : charges guide.stores (parts_in guide.sheller k (l ∷ ls) i c path t s.names) ≡
          charges guide.stores (parts_in guide.sheller (k - 1) ls i (c - layer_cost l.names a) path t
          (inside_layer l.names a s.names)) = ap (charges guide.stores) layer_parts in
          let gone : charged_in guide (k - 1) ls i (c - layer_cost l.names a) path t
          (inside_layer l.names a s.names) ≡ 0 =
          nothing_inside guide sound (k - 1) (c - layer_cost l.names a) path t (inside_layer l.names a s.names) ls i
          (omega (arith, dear, cost_is)) in
          let costs : layer_costs_in guide.holder guide.sheller k (l ∷ ls) c t s.names ≡
          layer_tree_costs guide.holder (k - 1) l c s.names + 0 =
          layer_costs guide.holder ∙ ap (λ b. layer_tree_costs guide.holder (k - 1) l c s.names
          + (if b then layer_set_nodes guide.holder (k - 1) l c s.names
          + layer_costs_in guide.holder guide.sheller (k - 1) ls
          (c - layer_cost l.names a) t (inside_layer l.names a s.names) else 0)) dear_test in
          omega (arith, count, same, gone, costs)

    -- what is inside is evaluated
    module _ (n rest : ℕ) (is_cost : n ≡ (1 + a.cost) + set_sizes (pairs_of_settings s1.settings)) (low : n ≤ c)
        (is_rest : rest ≡ c - n) (m : NameMap) (names : get m ≡ s1.names) (pairs : List (Name × WideTree))
        (is_pairs : pairs ≡ pairs_of_settings s1.settings) where
      cost_so : n ≡ layer_cost l.names a
      cost_so = is_cost ∙ cost_is

      rest_so : rest ≡ c - layer_cost l.names a
      rest_so = is_rest ∙ ap (λ x. c - x) cost_so

      pairs_so : pairs ≡ layer_pairs l.names a.values
      pairs_so = is_pairs ∙ d.settings

      low_test : nat_le (layer_cost l.names a) c ≡ true
      low_test = grind (arith, common_steps, low, cost_so)

      names_so : get (overlaid m pairs) ≡ inside_layer l.names a s.names
      names_so =
          overlaid_atop m pairs
          ∙ ap (λ ps. env_atop (overlaid empty ps) (get m)) pairs_so
          ∙ ap (env_atop (layer_sets l.names a)) (names ∙ d.names)

      inside_is : evaluates_in k (l ∷ ls) i c t s.names ≡ option_map (layer_trace l.names a)
          (evaluates_in (k - 1) ls i rest t (get (overlaid m pairs)))
      inside_is =
          layer_whole ∙ ap (λ b. if b then option_map (layer_trace l.names a)
          (evaluates_in (k - 1) ls i (c - layer_cost l.names a) t (inside_layer l.names a s.names)) else None)
          low_test
          ∙ ap (λ x. option_map (layer_trace l.names a) (evaluates_in (k - 1) ls i x t
          (inside_layer l.names a s.names))) (sym rest_so)
          ∙ ap (λ x. option_map (layer_trace l.names a) (evaluates_in (k - 1) ls i rest t x)) (sym names_so)

      bare_values : map (value_under path) a.values ≡ a.values
      bare_values =
          values_bare path (k - 1) (c - 1) 0 nothing_yet (in_turn l.names l.trees) s.names a refl d.comes

      -- a trace of what is inside, in the layer
      around : (w : WideTrace) → layer_by (overlaid empty pairs) a n (trace_under path w) ≡
          trace_under path (layer_trace l.names a w)
      around w =
          ap (λ ps. layer_by (overlaid empty ps) a n (trace_under path w)) pairs_so
          ∙ ap (λ x. layer_by (layer_sets l.names a) a x (trace_under path w)) cost_so
          ∙ ap (λ vs. record {
            value = made (codes "with") vs None;
            looks = both_looks a.looks a.writes (past (layer_sets l.names a) w.looks);
            writes = atop (past (layer_sets l.names a) w.writes) a.writes;
            cost = layer_cost l.names a + w.cost;
            height = 1 + max a.height w.height;
          }) (ap (λ vs. vals (vs ++ value_under path w.value ∷ [])) (sym bare_values)
          ∙ ap vals (sym (map-append (value_under path) a.values (w.value ∷ [])))
          ∙ sym (vals_under path (a.values ++ w.value ∷ [])))

      module _ (o : Option WideTrace)
          (comes : o ≡ option_map (trace_under path) (evaluates_in (k - 1) ls i rest t (get (overlaid m pairs))))
        where
          by_around : (x : Option WideTrace) →
              option_map (layer_by (overlaid empty pairs) a n) (option_map (trace_under path) x) ≡
              option_map (trace_under path) (option_map (layer_trace l.names a) x)
          by_around None = refl
          by_around (Some w) = ap Some (around w)

          pub inside_exact : (r : Option WideTrace) → r ≡ option_map (layer_by (overlaid empty pairs) a n) o →
              r ≡ option_map (trace_under path) (evaluates_in k (l ∷ ls) i c t s.names)
          inside_exact r g =
              g ∙ ap (option_map (layer_by (overlaid empty pairs) a n)) comes
              ∙ by_around (evaluates_in (k - 1) ls i rest t (get (overlaid m pairs)))
              ∙ ap (option_map (trace_under path)) (sym inside_is)

          by_fits : (x u : Option WideTrace) →
              evaluates_in (k - 1) ls i rest t (get (overlaid m pairs)) ≡ x → u ≡ option_map (trace_under path) x →
              IsFull l → k ≤ 400 → c ≤ 1000000 → IfSome u (FitsLayer a n)
          by_fits x None q h full few cheap = tt
          by_fits None (Some u) q h full few cheap = cc
          by_fits (Some w) (Some u) q h full few cheap =
              let same : trace_under path w ≡ u = sym cc in
              let whole : evaluates_in k (l ∷ ls) i c t s.names ≡ Some (layer_trace l.names a w) =
              inside_is ∙ ap (option_map (layer_trace l.names a)) q in
              let bounds : (layer_cost l.names a + w.cost ≤ c) × (1 + max a.height w.height ≤ k) =
              in_bounded k (l ∷ ls) i c t s.names (layer_trace l.names a w) whole in
              let sizes : (1 + total_size (plains (vals (a.values ++ w.value ∷ []))) ≤ layer_cost l.names a + w.cost)
              × (1 + deepest (plains (vals (a.values ++ w.value ∷ []))) ≤ 1 + max a.height w.height) =
              in_small k (l ∷ ls) i c t s.names (layer_trace l.names a w) whole in
              let plain_is : plain (value_under path w.value) ≡ plain w.value = plain_under path w.value in
              let size : size_of (plain (value_under path w.value)) ≡ size_of (plain w.value) = ap size_of plain_is in
              let depth : depth_of (plain (value_under path w.value)) ≡ depth_of (plain w.value) =
              ap depth_of plain_is in
              let many : length a.values ≡ 2 * length l.names = d.many in
              let small_names : 2 * length l.names < 65535 = full.1 in
              let cost : n ≡ layer_cost l.names a = cost_so in
              subst (FitsLayer a n) same (record {
                arity = omega (arith, many, small_names);
                size = omega (
                  arith,
                  bounds.0,
                  sizes.0,
                  size,
                  total_more a.values w.value,
                  total_more a.values (value_under path w.value),
                  cheap,
                );
                depth = omega (
                  arith,
                  bounds.1,
                  sizes.1,
                  depth,
                  deep_more a.values w.value,
                  deep_more a.values (value_under path w.value),
                  few,
                );
                sum = omega (arith, cost, bounds.0, cheap);
                height = omega (arith, bounds.1, few);
              })

          pub inside_fits : IsFull l → k ≤ 400 → c ≤ 1000000 → IfSome o (FitsLayer a n)
          inside_fits full few cheap =
              by_fits (evaluates_in (k - 1) ls i rest t (get (overlaid m pairs))) o refl comes full few cheap

          pub inside_behind : (r : Option WideTrace) (after : Before) →
              r ≡ option_map (layer_by (overlaid empty pairs) a n) o →
              BehindLayer (overlaid empty pairs) s1.names after o → IsBehind s.names after r
          inside_behind r after g h = by o r g h
            where
              by : (o r : Option WideTrace) → r ≡ option_map (layer_by (overlaid empty pairs) a n) o →
                  BehindLayer (overlaid empty pairs) s1.names after o → IsBehind s.names after r
              by o None g h = tt
              by None (Some u) g h = cc
              by (Some w) (Some u) g h =
                  let same : u ≡ layer_by (overlaid empty pairs) a n w = cc in
                  h ∙ ap (env_atop (past (overlaid empty pairs) w.writes)) d.names
                  ∙ sym (atop_twice (past (overlaid empty pairs) w.writes) a.writes s.names)
                  ∙ ap (λ x. env_atop x s.names) (sym (ap (λ (v : WideTrace). v.writes) same))

      pub inside_parts : parts_in guide.sheller (k - 1) ls i rest path t (get (overlaid m pairs)) ≡
          parts_in guide.sheller k (l ∷ ls) i c path t s.names
      inside_parts =
          ap (λ x. parts_in guide.sheller (k - 1) ls i x path t (get (overlaid m pairs))) rest_so
          ∙ ap (parts_in guide.sheller (k - 1) ls i (c - layer_cost l.names a) path t) names_so
          ∙ sym layer_parts

      inner_costs : (held : Holder) →
          layer_costs_in held guide.sheller (k - 1) ls rest t (get (overlaid m pairs)) ≡
          layer_costs_in held guide.sheller (k - 1) ls (c - layer_cost l.names a) t (inside_layer l.names a s.names)
      inner_costs held =
          ap (λ x. layer_costs_in held guide.sheller (k - 1) ls x t (get (overlaid m pairs))) rest_so
          ∙ ap (layer_costs_in held guide.sheller (k - 1) ls (c - layer_cost l.names a) t) names_so

      costs_allowed : (held : Holder) → layer_costs_in held guide.sheller k (l ∷ ls) c t s.names ≡
          layer_tree_costs held (k - 1) l c s.names + (layer_set_nodes held (k - 1) l c s.names
          + layer_costs_in held guide.sheller (k - 1) ls (c - layer_cost l.names a) t (inside_layer l.names a s.names))
      costs_allowed held =
          layer_costs held ∙ ap (λ b. layer_tree_costs held (k - 1) l c s.names
          + (if b then layer_set_nodes held (k - 1) l c s.names + layer_costs_in held guide.sheller (k - 1) ls
          (c - layer_cost l.names a) t (inside_layer l.names a s.names) else 0)) low_test

      pub inside_counted : (between after : ℕ) → between ≡ s1.count + new_nodes s1.settings →
          after ≡ between + charged_in guide (k - 1) ls i rest path t (get (overlaid m pairs)) →
          after ≡ s.count + charged_in guide k (l ∷ ls) i c path t s.names
      inside_counted between after h g =
          let count : s1.count ≡ s.count + layer_tree_costs guide.holder (k - 1) l c s.names = d.count in
          let nodes : new_nodes s1.settings ≡ layer_set_nodes guide.holder (k - 1) l c s.names = d.nodes in
          let parts : charges guide.stores (parts_in guide.sheller (k - 1) ls i rest path t (get (overlaid m pairs))) ≡
          charges guide.stores (parts_in guide.sheller k (l ∷ ls) i c path t s.names) =
          ap (charges guide.stores) inside_parts in
          omega (arith, count, nodes, parts, inner_costs guide.holder, costs_allowed guide.holder, h, g)

      -- where what holds the layer's trees was cached
      pub inside_known : (old mid new : List TreeTrace) (o r : Option WideTrace) →
          HoldsMore (holds_in old) (holds_in mid) → AllHeldBy (holds_in mid) s1.settings →
          r ≡ option_map (layer_by (overlaid empty pairs) a n) o →
          AreKnownIn guide.sheller (k - 1) ls rest t (get (overlaid m pairs)) mid new o →
          AreKnownIn guide.sheller k (l ∷ ls) c t s.names old new r
      inside_known old mid new o None more all g h = tt
      inside_known old mid new None (Some w) more all g h = cc
      inside_known old mid new (Some u) (Some w) more all g h =
          record {
            more = λ v e p. h.more v e (more v e p);
            nothing = λ x p.
                let held : AllHeldBy x s1.settings =
                all_more (holds_in mid) x (λ v e q. p v e (h.more v e q)) s1.settings all in
                let trees : layer_tree_costs x (k - 1) l c s.names ≡ 0 = d.known x paid held in
                let nodes : layer_set_nodes x (k - 1) l c s.names ≡ 0 = d.known x set_nodes held in
                let inner : layer_costs_in x guide.sheller (k - 1) ls rest t (get (overlaid m pairs)) ≡ 0 =
                h.nothing x p in
                omega (arith, trees, nodes, inner, inner_costs x, costs_allowed x);
          }
