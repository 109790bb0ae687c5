-- A tag with a shell evaluates to what its child evaluates to in the layers. By induction, the trace of each tree is
-- composed of those of its parts.
use Rattle.std.proofs.Common.{◌≡◌, ℕ, zero, suc, ◌+◌, ◌-◌, ◌≤◌, min, max, List, [], ◌∷◌, ap, refl, sym, ◌∙◌, arith}
use mathlib.Core.Path.{fun_ext}
use Rattle.std.specs.Prelude.{Bool, true, false, nat_le, if◌then◌else◌, Option, Some, None, option_and_then, slice_get}
use Rattle.std.specs.Option.{option_map}
use Rattle.std.specs.Ordering.{nat_cmp}
use Rattle.std.specs.Cmp.Lexicographic.{slice_cmp}
use Rattle.std.specs.FinMap.{empty, get-empty}
use Rattle.std.proofs.lemmas.Grind.{common_steps}
use Rattle.tx_tree.specs.WideTree.{WideTree, Forest, leaf, node, nil, cons, trees, children_of}
use Rattle.tx_origin.specs.Values.{WideValue}
use Rattle.tx_origin.specs.TaggedTrees.{kids_from}
use Rattle.tx_origin.proofs.Under.{under_none}
use Rattle.tx_exec_form.specs.Maps.{noted}
use Rattle.tx_exec_form.specs.Runs.{Before, State, Over, Run, on_done, ◌>>=◌, look, from_own}
use Rattle.tx_exec_form.specs.Frames.{top}
use Rattle.tx_exec_form.specs.Evaluated.{WideTrace, traced, evaluated_in}
use Rattle.tx_origin.specs.Under.{value_under}
use Rattle.tx_parts.specs.Atop.{atop, env_atop, both_looks}
use Rattle.tx_parts.specs.Adding.{part_ran}
use Rattle.tx_parts.specs.Shells.{Layer, Shell, IsShell, child_in, in_layers, shell_run}
use Rattle.tx_parts.specs.Opening.{Sheller, no_shells, opening, opening_by, shell_opening}
use Rattle.tx_parts.specs.Openness.{openness}
use Rattle.tx_parts.specs.Composed.{evaluates, SoFar}
use Rattle.tx_parts.specs.Layered.{layer_values, layer_cost, layer_trace, inside_layer, child_trace, layer_composed}
use Rattle.tx_parts.specs.Layered.{composed_layers, evaluates_in, shell_trace, composed_opened, composed_by}
use Rattle.tx_parts.specs.Layered.{composed_in}
use Rattle.tx_parts.specs.Shellers.{IsSheller}
use Rattle.tx_parts.proofs.Running.{fresh, step_start}
use Rattle.tx_parts.proofs.Children.{IsBounded, evaluates_bounded, IsWithin, children_within, bare_bounded}
use Rattle.tx_parts.proofs.Restoring.{atop_none, past_none, atop_empty}
use Rattle.tx_parts.proofs.Settings.{none_low}
use Rattle.tx_parts.proofs.Layers.{layers_part}
use Rattle.tx_parts.proofs.Inside.{runs_in}
use Rattle.tx_parts.proofs.Composing.{inner_are}

-- ---- layers

pub layers_are : (k : ℕ) (ls : List Layer) (i c : ℕ) (t : WideTree) (e : Before) →
    evaluates_in (suc k) ls i c t e ≡ composed_layers k (evaluates k) (evaluates_in k) ls i c t e
unfolding evaluates_in
layers_are k ls i c t e = refl

-- in the whole
pub in_part : (k : ℕ) (ls : List Layer) (i : ℕ) (t : WideTree) (e : Before) (s : State) → s.slack ≤ k →
    in_layers k ls (record { tree = t; at = Some (i ∷ []) }) top e s ≡
    part_ran k [] s (evaluates_in k ls i s.left t (env_atop s.own e))
in_part k ls i t e s low =
    layers_part k ls i t (λ c d. evaluates_in k ls i c t d) (λ c d. runs_in k ls i c t d) e s low

-- ---- bounds

-- a layer that is done, and what is inside
pub record LayerDone (k : ℕ) (l : Layer) (ls : List Layer) (i c : ℕ) (t : WideTree) (e : Before) (trace : WideTrace) :
    Type 0 where
  pub values : SoFar
  pub done : layer_values k l c e ≡ Some values
  pub cheap : layer_cost l.names values ≤ c
  pub inner : WideTrace
  pub inside : evaluates_in k ls i (c - layer_cost l.names values) t (inside_layer l.names values e) ≡ Some inner
  pub is : trace ≡ layer_trace l.names values inner

pub layer_done : (k : ℕ) (l : Layer) (ls : List Layer) (i c : ℕ) (t : WideTree) (e : Before) (trace : WideTrace) →
    evaluates_in (suc k) (l ∷ ls) i c t e ≡ Some trace → LayerDone k l ls i c t e trace
unfolding evaluates_in
layer_done k l ls i c t e trace h = by (layer_values k l c e) refl h
  where
    by_inner : (a : SoFar) (o : Option WideTrace) → layer_values k l c e ≡ Some a → layer_cost l.names a ≤ c →
        evaluates_in k ls i (c - layer_cost l.names a) t (inside_layer l.names a e) ≡ o →
        option_map (layer_trace l.names a) o ≡ Some trace → LayerDone k l ls i c t e trace
    by_inner a None q cheap p g = cc
    by_inner a (Some inner) q cheap p g =
        let same : layer_trace l.names a inner ≡ trace = cc in
        record { values = a; done = q; cheap = cheap; inner = inner; inside = p; is = sym same }

    by_test : (a : SoFar) (d : Bool) → layer_values k l c e ≡ Some a → d ≡ nat_le (layer_cost l.names a) c →
        (if d then option_map (layer_trace l.names a)
        (evaluates_in k ls i (c - layer_cost l.names a) t (inside_layer l.names a e)) else None) ≡ Some trace →
        LayerDone k l ls i c t e trace
    by_test a true q p g =
        by_inner a (evaluates_in k ls i (c - layer_cost l.names a) t (inside_layer l.names a e)) q
        (grind (arith, common_steps, p)) refl g
    by_test a false q p g = cc

    by : (o : Option SoFar) → layer_values k l c e ≡ o →
        option_and_then (λ a. layer_composed l.names a (evaluates_in k ls i) c t e) o ≡ Some trace →
        LayerDone k l ls i c t e trace
    by None q g = cc
    by (Some a) q g = by_test a (nat_le (layer_cost l.names a) c) q refl g

-- a child that is done, with a level and a step round it
pub record ChildDone (k i c : ℕ) (t : WideTree) (e : Before) (trace : WideTrace) : Type 0 where
  pub some : 1 ≤ c
  pub inner : WideTrace
  pub inside : evaluates k (c - 1) t e ≡ Some inner
  pub is : trace ≡ child_trace i inner

pub child_done : (k i c : ℕ) (t : WideTree) (e : Before) (trace : WideTrace) →
    evaluates_in (suc k) [] i c t e ≡ Some trace → ChildDone k i c t e trace
unfolding evaluates_in
child_done k i c t e trace h = by (nat_le 1 c) (evaluates k (c - 1) t e) refl refl h
  where
    by : (d : Bool) (o : Option WideTrace) → d ≡ nat_le 1 c → evaluates k (c - 1) t e ≡ o →
        (if d then option_map (child_trace i) o else None) ≡ Some trace → ChildDone k i c t e trace
    by true None p q g = cc
    by true (Some inner) p q g =
        let same : child_trace i inner ≡ trace = cc in
        record { some = grind (arith, common_steps, p); inner = inner; inside = q; is = sym same }
    by false o p q g = cc

pub none_inside : (ls : List Layer) (i c : ℕ) (t : WideTree) (e : Before) → evaluates_in 0 ls i c t e ≡ None
unfolding evaluates_in
none_inside ls i c t e = refl

pub in_bounded : (k : ℕ) (ls : List Layer) (i : ℕ) → IsBounded k (evaluates_in k ls i)
in_bounded zero ls i c t e trace h = let off : None ≡ Some trace = sym (none_inside ls i c t e) ∙ h in cc
in_bounded (suc k) [] i c t e trace h = by (child_done k i c t e trace h)
  where
    by : ChildDone k i c t e trace → (trace.cost ≤ c) × (trace.height ≤ suc k)
    by d =
        let bounds : (d.inner.cost ≤ c - 1) × (d.inner.height ≤ k) = evaluates_bounded k (c - 1) t e d.inner d.inside in
        let cost : trace.cost ≡ 1 + d.inner.cost = ap (λ (u : WideTrace). u.cost) d.is in
        let height : trace.height ≡ 1 + d.inner.height = ap (λ (u : WideTrace). u.height) d.is in
        (omega (arith, cost, bounds.0, d.some), omega (arith, height, bounds.1))
in_bounded (suc k) (l ∷ ls) i c t e trace h =
    by (layer_done k l ls i c t e trace h) (λ n d u g. in_bounded k ls i n t d u g)
  where
    by : LayerDone k l ls i c t e trace → ((n : ℕ) (d : Before) (u : WideTrace) → evaluates_in k ls i n t d ≡ Some u →
        (u.cost ≤ n) × (u.height ≤ k)) → (trace.cost ≤ c) × (trace.height ≤ suc k)
    by d go =
        let bounds : (d.inner.cost ≤ c - layer_cost l.names d.values) × (d.inner.height ≤ k) =
        go (c - layer_cost l.names d.values) (inside_layer l.names d.values e) d.inner d.inside in
        let within : IsWithin k (c - 1) d.values = children_within k _ (bare_bounded k) (c - 1) 0 _ _ e d.values
        (omega arith, omega arith) d.done in
        let cost : trace.cost ≡ layer_cost l.names d.values + d.inner.cost = ap (λ (u : WideTrace). u.cost) d.is in
        let height : trace.height ≡ 1 + max d.values.height d.inner.height =
        ap (λ (u : WideTrace). u.height) d.is in
        let cheap : layer_cost l.names d.values ≤ c = d.cheap in
        (omega (arith, cost, bounds.0, cheap), omega (arith, height, bounds.1, within.1))

-- ---- the tag

pub kid_got : (ts : Forest) (j i : ℕ) (u : WideTree) → slice_get (trees ts) i ≡ Some u →
    slice_get (kids_from (Some []) j ts) i ≡ Some (record { tree = u; at = Some ((j + i) ∷ []) })
kid_got nil j i u h = cc
kid_got (cons t ts) j zero u h =
    let same : t ≡ u = cc in
    let number : j ≡ j + 0 = omega arith in
    ap (λ n. Some (record { tree = t; at = Some (n ∷ []) })) number
    ∙ ap (λ w. Some (record { tree = w; at = Some ((j + 0) ∷ []) })) same
kid_got (cons t ts) j (suc i) u h =
    let number : (j + 1) + i ≡ j + suc i = omega arith in
    kid_got ts (j + 1) i u h ∙ ap (λ n. Some (record { tree = u; at = Some (n ∷ []) })) number

module _ (k c : ℕ) (label : List ℕ) (ts : Forest) (shell : Shell) (u : WideTree) (e : Before)
    (got : slice_get (trees ts) shell.inner ≡ Some u) where
  abbrev looked : State
  looked = record { own = empty; looks = noted empty label (e label); left = c - 1; slack = k }

  abbrev then_child : Option WideTree → Run WideValue
  then_child o = child_in (in_layers k shell.layers) (slice_get (kids_from (Some []) 0 ts) shell.inner)

  look_is : (look label >>= then_child) e (fresh (c - 1) k) ≡
      part_ran k [] looked (evaluates_in k shell.layers shell.inner (c - 1) u e)
  unfolding look
  look_is =
      let number : 0 + shell.inner ≡ shell.inner = omega arith in
      ap (λ o. on_done e then_child (from_own label o e (fresh (c - 1) k))) (get-empty (slice_cmp nat_cmp) label)
      ∙ ap (λ o. child_in (in_layers k shell.layers) o e looked) (kid_got ts 0 shell.inner u got
      ∙ ap (λ n. Some (record { tree = u; at = Some (n ∷ []) })) number)
      ∙ in_part k shell.layers shell.inner u e looked (omega arith)
      ∙ ap (λ d. part_ran k [] looked (evaluates_in k shell.layers shell.inner (c - 1) u d)) (atop_empty e)

  tag_traced : (o : Option WideTrace) → evaluates_in k shell.layers shell.inner (c - 1) u e ≡ o → 1 ≤ c →
      traced (suc k) c (part_ran k [] looked o) ≡ option_map (shell_trace (node label ts) e) o
  tag_traced None h one = refl
  tag_traced (Some trace) h one =
      let bounds : (trace.cost ≤ c - 1) × (trace.height ≤ k) =
      in_bounded k shell.layers shell.inner (c - 1) u e trace h in
      let cost : c - ((c - 1) - trace.cost) ≡ 1 + trace.cost = omega (arith, one, bounds.0) in
      let height : suc k - min k (k - trace.height) ≡ 1 + trace.height = omega (arith, bounds.1) in
      let all : WideTrace = record {
        value = value_under [] trace.value;
        looks = both_looks (noted empty label (e label)) empty trace.looks;
        writes = atop trace.writes empty;
        cost = c - ((c - 1) - trace.cost);
        height = suc k - min k (k - trace.height);
      } in
      ap (λ v. Some (record {
        value = v;
        looks = both_looks (noted empty label (e label)) empty trace.looks;
        writes = atop trace.writes empty;
        cost = c - ((c - 1) - trace.cost);
        height = suc k - min k (k - trace.height);
      })) (under_none trace.value)
      ∙ ap (λ m. Some (record {
        value = trace.value;
        looks = atop (noted empty label (e label)) m;
        writes = atop trace.writes empty;
        cost = c - ((c - 1) - trace.cost);
        height = suc k - min k (k - trace.height);
      })) (past_none trace.looks)
      ∙ ap (λ m. Some (record {
        value = trace.value;
        looks = atop (noted empty label (e label)) trace.looks;
        writes = m;
        cost = c - ((c - 1) - trace.cost);
        height = suc k - min k (k - trace.height);
      })) (atop_none trace.writes)
      ∙ ap (λ n. Some (record {
        value = trace.value;
        looks = atop (noted empty label (e label)) trace.looks;
        writes = trace.writes;
        cost = n;
        height = suc k - min k (k - trace.height);
      })) cost
      ∙ ap (λ n. Some (record {
        value = trace.value;
        looks = atop (noted empty label (e label)) trace.looks;
        writes = trace.writes;
        cost = 1 + trace.cost;
        height = n;
      })) height

  tag_is : IsShell shell (node label ts) e → evaluates (suc k) c (node label ts) e ≡
      (if nat_le 1 c then option_map (shell_trace (node label ts) e)
      (evaluates_in k shell.layers shell.inner (c - 1) u e) else None)
  unfolding evaluated_in shell_run
  tag_is h =
      ap (traced (suc k) c) (h.runs (suc k) c ∙ step_start k c (look label >>= then_child) e
      ∙ ap (λ r. if nat_le 1 c then r else Over) look_is)
      ∙ by (nat_le 1 c) refl
    where
      by : (d : Bool) → d ≡ nat_le 1 c →
          traced (suc k) c (if d then part_ran k [] looked (evaluates_in k shell.layers shell.inner (c - 1) u e)
          else Over) ≡
          (if d then option_map (shell_trace (node label ts) e)
          (evaluates_in k shell.layers shell.inner (c - 1) u e) else None)
      by true q = tag_traced (evaluates_in k shell.layers shell.inner (c - 1) u e) refl (grind (arith, common_steps, q))
      by false q = refl

-- ---- any tree

shell_is : (k c : ℕ) (t : WideTree) (shell : Shell) (u : WideTree) (e : Before) →
    slice_get (children_of t) shell.inner ≡ Some u → IsShell shell t e → evaluates (suc k) c t e ≡
    (if nat_le 1 c then option_map (shell_trace t e) (evaluates_in k shell.layers shell.inner (c - 1) u e) else None)
shell_is k c (leaf words) shell u e got h = cc
shell_is k c (node label ts) shell u e got h = tag_is k c label ts shell u e got h

by_shell : (k c : ℕ) (t : WideTree) (e : Before) (shell : Shell) (o : Option WideTree) →
    slice_get (children_of t) shell.inner ≡ o → IsShell shell t e → evaluates (suc k) c t e ≡
    composed_opened (shell_opening shell o (openness t)) k (evaluates k) (evaluates_in k) c t e
by_shell k c t e shell None q h = inner_are k c t e
by_shell k c t e shell (Some u) q h = shell_is k c t shell u e q h

by_sheller : (k c : ℕ) (t : WideTree) (e : Before) (o : Option Shell) →
    ((shell : Shell) → o ≡ Some shell → IsShell shell t e) →
    evaluates (suc k) c t e ≡ composed_opened (opening_by o t) k (evaluates k) (evaluates_in k) c t e
by_sheller k c t e None h = inner_are k c t e
by_sheller k c t e (Some shell) h =
    by_shell k c t e shell (slice_get (children_of t) shell.inner) refl (h shell refl)

-- where nothing has a shell
pub closed_is : IsSheller no_shells
closed_is = record { shells = λ t e shell q. cc; again = λ k c t e d trace q h. refl }

-- the trace of a tree is composed of those of its inner trees, also in shells
pub opened_is : (sheller : Sheller) → IsSheller sheller → (k c : ℕ) (t : WideTree) (e : Before) →
    evaluates (suc k) c t e ≡ composed_opened (opening sheller t e) k (evaluates k) (evaluates_in k) c t e
opened_is sheller h k c t e = by_sheller k c t e (sheller t e) (λ shell q. h.shells t e shell q)

module _ (sheller : Sheller) (sound : IsSheller sheller) where
  mutual
    unfolding composed_by composed_in evaluates_in

    pub composed_by_is : (k c : ℕ) (t : WideTree) (e : Before) → evaluates k c t e ≡ composed_by sheller k c t e
    composed_by_is zero c t e = none_low c t e
    composed_by_is (suc k) c t e =
        let below : evaluates k ≡ composed_by sheller k =
        fun_ext (λ n. fun_ext (λ u. fun_ext (λ d. composed_by_is k n u d))) in
        let inside : evaluates_in k ≡ composed_in sheller k = fun_ext (λ ls. fun_ext (λ i. fun_ext (λ n.
        fun_ext (λ u. fun_ext (λ d. composed_in_is k ls i n u d))))) in
        opened_is sheller sound k c t e
        ∙ ap (λ tracer. composed_opened (opening sheller t e) k tracer (evaluates_in k) c t e) below
        ∙ ap (λ tracer. composed_opened (opening sheller t e) k (composed_by sheller k) tracer c t e) inside

    pub composed_in_is : (k : ℕ) (ls : List Layer) (i c : ℕ) (t : WideTree) (e : Before) →
        evaluates_in k ls i c t e ≡ composed_in sheller k ls i c t e
    composed_in_is zero ls i c t e = refl
    composed_in_is (suc k) ls i c t e =
        let below : evaluates k ≡ composed_by sheller k =
        fun_ext (λ n. fun_ext (λ u. fun_ext (λ d. composed_by_is k n u d))) in
        let inside : evaluates_in k ≡ composed_in sheller k = fun_ext (λ ls. fun_ext (λ i. fun_ext (λ n.
        fun_ext (λ u. fun_ext (λ d. composed_in_is k ls i n u d))))) in
        ap (λ tracer. composed_layers k tracer (evaluates_in k) ls i c t e) below
        ∙ ap (λ tracer. composed_layers k (composed_by sheller k) tracer ls i c t e) inside
