-- A layer evaluates to its trees' values and to the value of what is inside, where its names are set to those values.
use Rattle.std.proofs.Common.{◌≡◌, ℕ, zero, suc, ◌+◌, ◌-◌, ◌≤◌, min, max, List, [], ◌∷◌, ◌++◌, ap, refl, ◌∙◌, arith}
use Rattle.std.specs.Prelude.{Bool, true, false, nat_le, if◌then◌else◌, Option, Some, None, option_and_then, codes}
use Rattle.std.specs.Option.{option_map}
use Rattle.std.specs.FinMap.{empty}
use Rattle.std.proofs.lemmas.Grind.{common_steps}
use Rattle.tx_tree.specs.WideTree.{WideTree}
use Rattle.tx_env.specs.Pairs.{Name}
use Rattle.tx_env.specs.Environments.{NameMap}
use Rattle.tx_origin.specs.Values.{WideValue, made, vals}
use Rattle.tx_origin.specs.TaggedTrees.{TaggedTree}
use Rattle.tx_exec_form.specs.Runs.{Before, State, Ran, Over, Done, Run, on_done, ◌>>=◌, ◌>>◌, give, pay}
use Rattle.tx_exec_form.specs.Frames.{top}
use Rattle.tx_exec_form.specs.Rows.{ex, Sets, set_all, sizes, kept, kept_of, with_body, with_parts, with_row, wrong}
use Rattle.tx_exec_form.specs.Evaluated.{WideTrace, start}
use Rattle.tx_parts.specs.Atop.{atop, past, both_looks}
use Rattle.tx_origin.specs.Under.{value_under}
use Rattle.tx_origin.proofs.Under.{under_none}
use Rattle.tx_parts.specs.Adding.{after_part, part_ran}
use Rattle.tx_parts.specs.Shells.{Layer, in_turn, in_layers}
use Rattle.tx_parts.specs.Composed.{alone, evaluates, SoFar, nothing_yet}
use Rattle.tx_parts.specs.Layered.{evaluates_bare, layer_values, layer_pairs, as_sets, layer_sets, layer_cost}
use Rattle.tx_parts.specs.Layered.{inside_layer, layer_trace, child_trace, layer_composed, composed_layers}
use Rattle.tx_parts.specs.Layered.{evaluates_in}
use Rattle.tx_parts.proofs.PartRuns.{part_is, atop_twice}
use Rattle.tx_parts.proofs.Running.{fresh, step_start}
use Rattle.tx_parts.proofs.Children.{IsWithin, children_within, bare_bounded, state_behind, at_first}
use Rattle.tx_parts.proofs.Restoring.{all_set, first_looks, set_atop, again_is, looks_past, atop_none, past_none}
use Rattle.tx_parts.proofs.Restoring.{atop_empty}
use Rattle.tx_parts.proofs.Layers.{layer_kids, layer_eval, ran_of, layers_part}
use Rattle.tx_parts.proofs.LayerValues.{bodies_at, body_at, values_are, odd_kids}

-- the traces of a tree in layers are what it runs to
abbrev pub RunsIn : ℕ → List Layer → Type 0
RunsIn k ls = (i c : ℕ) (t : WideTree) (e : Before) →
    in_layers k ls (record { tree = t; at = Some (i ∷ []) }) top e (start k c) ≡ ran_of k c (evaluates_in k ls i c t e)

none_in : (ls : List Layer) (c : ℕ) (t : TaggedTree) (e : Before) → in_layers 0 ls t top e (start 0 c) ≡ Over
unfolding in_layers
none_in ls c t e = refl

-- ---- the last child of a layer

module _ (k : ℕ) (ls : List Layer) (i : ℕ) (t : WideTree) (e : Before) (xs : List Name) (z : SoFar)
    (inside : RunsIn k ls) where
  abbrev b : TaggedTree
  b = record { tree = t; at = Some (i ∷ []) }

  abbrev ps : List (Name × WideTree)
  ps = layer_pairs xs z.values

  abbrev own : NameMap
  own = atop (layer_sets xs z) z.writes

  abbrev old : Sets
  old = kept_of (as_sets ps) z.writes

  -- what the row does after the last child
  abbrev then_back : WideValue → Run WideValue
  then_back v = set_all old >> give (made (codes "with") (vals (z.values ++ v ∷ [])) None)

  abbrev begun : ℕ → State
  begun left = record { own = own; looks = z.looks; left = left; slack = k - z.height }

  -- the layer, where what is inside has this trace and had so many steps
  abbrev pub layer_ran : ℕ → Option WideTrace → Ran WideValue
  layer_ran left None = Over
  layer_ran left (Some trace) = Done (made (codes "with") (vals (z.values ++ trace.value ∷ [])) None) (record {
    own = atop (past (layer_sets xs z) trace.writes) z.writes;
    looks = both_looks z.looks z.writes (past (layer_sets xs z) trace.looks);
    left = left - trace.cost;
    slack = min (k - z.height) (k - trace.height);
  })

  back : (left : ℕ) (o : Option WideTrace) → on_done e then_back (part_ran k [] (begun left) o) ≡ layer_ran left o
  back left None = refl
  back left (Some trace) =
      let value : WideValue → WideValue = λ v. made (codes "with") (vals (z.values ++ v ∷ [])) None in
      ap (λ v. then_back v e (after_part k (begun left) trace)) (under_none trace.value)
      ∙ ap (on_done {A = Unit {0}} e (λ _. give (value trace.value))) (all_set old e (after_part k (begun left) trace))
      ∙ ap (λ m. Done (value trace.value) (record {
        own = m;
        looks = both_looks z.looks own trace.looks;
        left = left - trace.cost;
        slack = min (k - z.height) (k - trace.height);
      })) (again_is ps z.writes trace.writes)
      ∙ ap (λ m. Done (value trace.value) (record {
        own = atop (past (layer_sets xs z) trace.writes) z.writes;
        looks = m;
        left = left - trace.cost;
        slack = min (k - z.height) (k - trace.height);
      })) (looks_past z.looks trace.looks (layer_sets xs z) z.writes)

  inside_is : (left : ℕ) →
      (set_all (as_sets ps) >> (in_layers k ls b top >>= then_back)) e
      (record { own = z.writes; looks = z.looks; left = left; slack = k - z.height }) ≡
      layer_ran left (evaluates_in k ls i left t (inside_layer xs z e))
  inside_is left =
      ap (on_done {A = Unit {0}} e (λ _. in_layers k ls b top >>= then_back))
      (all_set (as_sets ps) e (record { own = z.writes; looks = z.looks; left = left; slack = k - z.height }))
      ∙ ap (λ m. (in_layers k ls b top >>= then_back) e
      (record { own = m; looks = z.looks; left = left; slack = k - z.height })) (set_atop ps z.writes)
      ∙ ap (on_done e then_back)
      (layers_part k ls i t (λ c d. evaluates_in k ls i c t d) (λ c d. inside i c t d) e (begun left) (omega arith))
      ∙ ap (λ d. on_done e then_back (part_ran k [] (begun left) (evaluates_in k ls i left t d)))
      (atop_twice (layer_sets xs z) z.writes e)
      ∙ back left (evaluates_in k ls i left t (inside_layer xs z e))

  pub body_is : (c : ℕ) → body_at k c ls b e xs z ≡
      (if nat_le (sizes (as_sets ps)) (c - z.cost)
      then layer_ran ((c - z.cost) - sizes (as_sets ps))
      (evaluates_in k ls i ((c - z.cost) - sizes (as_sets ps)) t (inside_layer xs z e)) else Over)
  unfolding with_body kept pay
  body_is c = by (nat_le (sizes (as_sets ps)) (c - z.cost))
    where
      by : (d : Bool) →
          on_done {A = Unit {0}} e (λ _. kept (as_sets ps) >>= λ before. set_all (as_sets ps) >>
          (in_layers k ls b top >>= λ v. set_all before >>
          give (made (codes "with") (vals (z.values ++ v ∷ [])) None)))
          (if d then Done tt (record (state_behind k c z) { left = (c - z.cost) - sizes (as_sets ps) }) else Over) ≡
          (if d then layer_ran ((c - z.cost) - sizes (as_sets ps))
          (evaluates_in k ls i ((c - z.cost) - sizes (as_sets ps)) t (inside_layer xs z e)) else Over)
      by true = inside_is ((c - z.cost) - sizes (as_sets ps))
      by false = refl

-- ---- the layer

module _ (k c : ℕ) (l : Layer) (ls : List Layer) (i : ℕ) (t : WideTree) (e : Before) (inside : RunsIn k ls) where
  abbrev child : TaggedTree
  child = record { tree = t; at = Some (i ∷ []) }

  abbrev row_of_layer : Run WideValue
  row_of_layer = with_row (suc k) (layer_eval k ls) top (codes "with") None (layer_kids l child)

  row_starts : row_of_layer e (fresh (c - 1) k) ≡ bodies_at k (c - 1) ls child e l.names (layer_values k l c e)
  row_starts =
      ap (λ d. (if d then with_parts (suc k) (layer_eval k ls) top (codes "with") None [] [] (layer_kids l child)
      else wrong (suc k) (codes "bad") (codes "with")) e (fresh (c - 1) k)) (odd_kids l.names l.trees child)
      ∙ ap (with_parts (suc k) (layer_eval k ls) top (codes "with") None [] [] (layer_kids l child) e)
      (at_first k (c - 1))
      ∙ values_are k (c - 1) ls child e 0 [] l.names l.trees nothing_yet (omega arith, omega arith) refl

  -- the trace of what is inside leads to that of the layer
  traced_inside : (a : SoFar) (o : Option WideTrace) →
      layer_ran k ls i t e l.names a inside (c - layer_cost l.names a) o ≡
      ran_of (suc k) c (option_map (layer_trace l.names a) o)
  traced_inside a None = refl
  traced_inside a (Some trace) =
      let left : (c - layer_cost l.names a) - trace.cost ≡ c - (layer_cost l.names a + trace.cost) = omega arith in
      let slack : min (k - a.height) (k - trace.height) ≡ suc k - (1 + max a.height trace.height) = omega arith in
      let whole : WideTrace = layer_trace l.names a trace in
      ap (λ n. Done whole.value (record {
        own = whole.writes;
        looks = whole.looks;
        left = n;
        slack = min (k - a.height) (k - trace.height);
      })) left
      ∙ ap (λ n. Done whole.value (record {
        own = whole.writes;
        looks = whole.looks;
        left = c - (layer_cost l.names a + trace.cost);
        slack = n;
      })) slack

  by_test : (a : SoFar) (d : Bool) → (if d then layer_ran k ls i t e l.names a inside (c - layer_cost l.names a)
      (evaluates_in k ls i (c - layer_cost l.names a) t (inside_layer l.names a e)) else Over) ≡
      ran_of (suc k) c (if d then option_map (layer_trace l.names a)
      (evaluates_in k ls i (c - layer_cost l.names a) t (inside_layer l.names a e)) else None)
  by_test a true = traced_inside a (evaluates_in k ls i (c - layer_cost l.names a) t (inside_layer l.names a e))
  by_test a false = refl

  same_test : (n m : ℕ) → 1 ≤ c → m ≤ c - 1 → nat_le n ((c - 1) - m) ≡ nat_le (1 + m + n) c
  same_test n m one most = by (nat_le n ((c - 1) - m)) (nat_le (1 + m + n) c) refl refl
    where
      by : (p q : Bool) → p ≡ nat_le n ((c - 1) - m) → q ≡ nat_le (1 + m + n) c → p ≡ q
      by true true h g = refl
      by false false h g = refl
      by true false h g = absurd (grind (arith, common_steps, h, g, one, most))
      by false true h g = absurd (grind (arith, common_steps, h, g, one, most))

  by_values : (o : Option SoFar) → layer_values k l c e ≡ o → (d : Bool) → d ≡ nat_le 1 c →
      (if d then bodies_at k (c - 1) ls child e l.names o else Over) ≡
      ran_of (suc k) c (option_and_then (λ a. layer_composed l.names a (evaluates_in k ls i) c t e) o)
  by_values None q true h = refl
  by_values None q false h = refl
  by_values (Some a) q false h = few (nat_le (layer_cost l.names a) c) refl
    where
      few : (d : Bool) → d ≡ nat_le (layer_cost l.names a) c → Over ≡
          ran_of (suc k) c (if d then option_map (layer_trace l.names a)
          (evaluates_in k ls i (c - layer_cost l.names a) t (inside_layer l.names a e)) else None)
      few true g = absurd (grind (arith, common_steps, g, h))
      few false g = refl
  by_values (Some a) q true h =
      let one : 1 ≤ c = grind (arith, common_steps, h) in
      let most : IsWithin k (c - 1) a = children_within k (evaluates_bare k) (bare_bounded k) (c - 1) 0 nothing_yet
      (in_turn l.names l.trees) e a (omega arith, omega arith) q in
      let size : ℕ = sizes (as_sets (layer_pairs l.names a.values)) in
      let left : ((c - 1) - a.cost) - sizes (as_sets (layer_pairs l.names a.values)) ≡ c - layer_cost l.names a =
      omega arith in
      body_is k ls i t e l.names a inside (c - 1)
      ∙ ap (λ n. if nat_le (sizes (as_sets (layer_pairs l.names a.values))) ((c - 1) - a.cost)
      then layer_ran k ls i t e l.names a inside n (evaluates_in k ls i n t (inside_layer l.names a e)) else Over) left
      ∙ ap (λ d. if d then layer_ran k ls i t e l.names a inside (c - layer_cost l.names a)
      (evaluates_in k ls i (c - layer_cost l.names a) t (inside_layer l.names a e)) else Over)
      (same_test (sizes (as_sets (layer_pairs l.names a.values))) a.cost one most.0)
      ∙ by_test a (nat_le (layer_cost l.names a) c)

  pub layer_is : in_layers (suc k) (l ∷ ls) child top e (start (suc k) c) ≡
      ran_of (suc k) c (composed_layers k (evaluates k) (evaluates_in k) (l ∷ ls) i c t e)
  unfolding in_layers
  layer_is =
      step_start k c row_of_layer e
      ∙ ap (λ r. if nat_le 1 c then r else Over) row_starts
      ∙ by_values (layer_values k l c e) refl (nat_le 1 c) refl

-- ---- the child

child_is : (k c i : ℕ) (t : WideTree) (e : Before) →
    in_layers (suc k) [] (record { tree = t; at = Some (i ∷ []) }) top e (start (suc k) c) ≡
    ran_of (suc k) c (composed_layers k (evaluates k) (evaluates_in k) [] i c t e)
unfolding in_layers
child_is k c i t e =
    step_start k c (ex k (record { tree = t; at = Some (i ∷ []) }) top) e
    ∙ ap (λ r. if nat_le 1 c then r else Over) (part_is k (i ∷ []) (alone t) e (fresh (c - 1) k) (omega arith))
    ∙ ap (λ d. if nat_le 1 c then part_ran k (i ∷ []) (fresh (c - 1) k) (evaluates k (c - 1) t d) else Over)
    (atop_empty e)
    ∙ by_step (nat_le 1 c) (evaluates k (c - 1) t e)
  where
    by_trace : (o : Option WideTrace) →
        part_ran k (i ∷ []) (fresh (c - 1) k) o ≡ ran_of (suc k) c (option_map (child_trace i) o)
    by_trace None = refl
    by_trace (Some trace) =
        let left : (c - 1) - trace.cost ≡ c - (1 + trace.cost) = omega arith in
        let slack : min k (k - trace.height) ≡ suc k - (1 + trace.height) = omega arith in
        ap (λ m. Done (value_under (i ∷ []) trace.value) (record {
          own = m;
          looks = both_looks empty empty trace.looks;
          left = (c - 1) - trace.cost;
          slack = min k (k - trace.height);
        })) (atop_none trace.writes)
        ∙ ap (λ m. Done (value_under (i ∷ []) trace.value) (record {
          own = trace.writes;
          looks = m;
          left = (c - 1) - trace.cost;
          slack = min k (k - trace.height);
        })) (first_looks empty trace.looks ∙ past_none trace.looks)
        ∙ ap (λ n. Done (value_under (i ∷ []) trace.value) (record {
          own = trace.writes;
          looks = trace.looks;
          left = n;
          slack = min k (k - trace.height);
        })) left
        ∙ ap (λ n. Done (value_under (i ∷ []) trace.value) (record {
          own = trace.writes;
          looks = trace.looks;
          left = c - (1 + trace.cost);
          slack = n;
        })) slack

    by_step : (b : Bool) (o : Option WideTrace) → (if b then part_ran k (i ∷ []) (fresh (c - 1) k) o else Over) ≡
        ran_of (suc k) c (if b then option_map (child_trace i) o else None)
    by_step true o = by_trace o
    by_step false o = refl

pub runs_in : (k : ℕ) (ls : List Layer) → RunsIn k ls
unfolding evaluates_in
runs_in zero ls i c t e = none_in ls c (record { tree = t; at = Some (i ∷ []) }) e
runs_in (suc k) [] i c t e = child_is k c i t e
runs_in (suc k) (l ∷ ls) i c t e = layer_is k c l ls i t e (runs_in k ls)
