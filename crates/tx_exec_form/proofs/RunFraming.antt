-- Traces of trees that are evaluated one after the other in a frame.
use Rattle.std.proofs.Common.{◌≡◌, ℕ, ◌-◌, ◌<◌, ◌≤◌, ◌⊎◌, List, [], ap, refl, sym, subst, ◌∙◌, arith}
use Rattle.std.specs.Prelude.{Some, None}
use Rattle.std.specs.FinMap.{empty}
use Rattle.tx_tree.specs.WideTree.{total_size, deepest}
use Rattle.tx_origin.specs.Values.{WideValue, vals, plains}
use Rattle.tx_origin.specs.TaggedTrees.{TaggedTree}
use Rattle.tx_exec_form.specs.Runs.{Before, State, Ran, Over, Done, Run}
use Rattle.tx_exec_form.specs.Frames.{Frame}
use Rattle.tx_exec_form.specs.Rows.{ex, each}
use Rattle.tx_exec_form.specs.Evaluated.{start}
use Rattle.tx_exec_form.specs.Laws.{Agrees}
use Rattle.tx_exec_form.specs.Framed.{RunTrace, run_trace_of, run_traced, run_framed, SupportsRun, IsPastRun}
use Rattle.tx_exec_form.proofs.Follows.{Follows, ex_follows, eachs as each_follows}
use Rattle.tx_exec_form.proofs.Small.{FitAll, Ends, ex_fit, eachs as each_fits}
use Rattle.tx_exec_form.proofs.Again.{held, again, left_fits, taken_again, over_past, none_passes, passes_none}

module _ (f : Frame) where
  -- no trees
  pub of_none : (k c : ℕ) (e : Before) → run_framed f k c [] e ≡
      Some (record { values = []; looks = empty; writes = empty; cost = 0; height = 0 })
  unfolding run_framed
  of_none k c e =
      let no_cost : c - c ≡ 0 = omega arith in
      let no_height : k - k ≡ 0 = omega arith in
      ap (λ n. Some (record { values = []; looks = empty; writes = empty; cost = n; height = k - k })) no_cost
      ∙ ap (λ n. Some (record { values = []; looks = empty; writes = empty; cost = 0; height = n })) no_height

  -- the run that a trace came of
  pub record Came (k c : ℕ) (ts : List TaggedTree) (e : Before) (trace : RunTrace) : Type 0 where
    pub result : List WideValue
    pub state : State
    pub run : each (ex k) f [] ts e (start k c) ≡ Done result state
    pub is : trace ≡ run_trace_of k c result state

  came_of : (k c : ℕ) (ts : List TaggedTree) (e : Before) (trace : RunTrace) (r : Ran (List WideValue)) →
      each (ex k) f [] ts e (start k c) ≡ r → run_traced k c r ≡ Some trace → Came k c ts e trace
  came_of k c ts e trace Over q h = absurd cc
  came_of k c ts e trace (Done v s) q h = let same : run_trace_of k c v s ≡ trace =
      cc in record { result = v; state = s; run = q; is = sym same }

  pub came : (k c : ℕ) (ts : List TaggedTree) (e : Before) (trace : RunTrace) → run_framed f k c ts e ≡ Some trace →
      Came k c ts e trace
  unfolding run_framed
  came k c ts e trace h = came_of k c ts e trace (each (ex k) f [] ts e (start k c)) refl h

  abbrev levels : List TaggedTree → ℕ → Run (List WideValue)
  levels ts k = each (ex k) f [] ts

  follow : (ts : List TaggedTree) (k k' : ℕ) → Follows k k' (levels ts k) (levels ts k')
  follow ts k k' =
      each_follows k k' (ex k) (ex k') (ex_follows k k') f ts []

  -- the same trace, with the steps and levels that were left
  same_trace : (k c k' c' : ℕ) (v : List WideValue) (s : State) → s.left ≤ c → s.slack ≤ k → c - s.left ≤ c' →
      k - s.slack ≤ k' →
      run_trace_of k' c' v (record s { left = c' - (c - s.left); slack = k' - (k - s.slack) }) ≡ run_trace_of k c v s
  same_trace k c k' c' v s p q enough high =
      ap (λ n. record {
        values = v;
        looks = s.looks;
        writes = s.own;
        cost = n;
        height = k' - (k' - (k - s.slack));
      }) (taken_again c c' s.left p enough)
      ∙ ap (λ n. record { values = v; looks = s.looks; writes = s.own; cost = c - s.left; height = n })
      (taken_again k k' s.slack q high)

  pub supports : (k c : ℕ) (ts : List TaggedTree) (e : Before) (trace : RunTrace) → run_framed f k c ts e ≡ Some trace →
      SupportsRun f trace ts
  unfolding run_framed
  supports k c ts e trace h = by (came k c ts e trace h)
    where
      by : Came k c ts e trace → SupportsRun f trace ts
      by w = subst (λ u. SupportsRun f u ts) (sym w.is) (λ k' c' e' agrees enough high.
          let fits : (w.state.left ≤ c) × (w.state.slack ≤ k) =
          left_fits (levels ts) (follow ts) k c e w.result w.state w.run in
          ap (run_traced k' c')
          (again (levels ts) (follow ts) k c e w.result w.state w.run k' c' e' agrees enough high)
          ∙ ap Some (same_trace k c k' c' w.result w.state fits.0 fits.1 enough high))

  pub agrees : (k c : ℕ) (ts : List TaggedTree) (e : Before) (trace : RunTrace) → run_framed f k c ts e ≡ Some trace →
      Agrees e trace.looks
  agrees k c ts e trace h = by (came k c ts e trace h)
    where
      by : Came k c ts e trace → Agrees e trace.looks
      by w = subst (λ u. Agrees e u.looks) (sym w.is)
          (held (levels ts) (follow ts) k k c e w.result w.state w.run).agrees

  pub allowed : (k c : ℕ) (ts : List TaggedTree) (e : Before) (trace : RunTrace) → run_framed f k c ts e ≡ Some trace →
      (trace.cost ≤ c) × (trace.height ≤ k)
  allowed k c ts e trace h = by (came k c ts e trace h)
    where
      by : Came k c ts e trace → (trace.cost ≤ c) × (trace.height ≤ k)
      by w = subst (λ (u : RunTrace). (u.cost ≤ c) × (u.height ≤ k)) (sym w.is) (omega arith, omega arith)

  fits : (k c : ℕ) (ts : List TaggedTree) (e : Before) (vs : List WideValue) (s : State) →
      each (ex k) f [] ts e (start k c) ≡ Done vs s → FitAll c k k vs s
  fits k c ts e vs s q = subst (Ends (FitAll c k k)) q
      ((each_fits k (ex k) (ex_fit k) f ts [] c c k k (omega arith) (omega arith) (omega arith)).runs e (start k c)
      (record { left = omega arith; slack = omega arith }))

  pub small : (k c : ℕ) (ts : List TaggedTree) (e : Before) (trace : RunTrace) → run_framed f k c ts e ≡ Some trace →
      (total_size (plains (vals trace.values)) ≤ trace.cost) × (deepest (plains (vals trace.values)) ≤ trace.height)
  small k c ts e trace h = by (came k c ts e trace h)
    where
      by : Came k c ts e trace →
          (total_size (plains (vals trace.values)) ≤ trace.cost) × (deepest (plains (vals trace.values)) ≤ trace.height)
      by w =
          let held : FitAll c k k w.result w.state = fits k c ts e w.result w.state w.run in
          subst (λ (u : RunTrace). (total_size (plains (vals u.values)) ≤ u.cost)
          × (deepest (plains (vals u.values)) ≤ u.height)) (sym w.is)
          (omega (arith, held.size), omega (arith, held.depth))

  -- with fewer steps or levels one of them runs out
  pub over : (trace : RunTrace) (k c : ℕ) (ts : List TaggedTree) (e : Before) → SupportsRun f trace ts →
      Agrees e trace.looks → (c < trace.cost) ⊎ (k < trace.height) → run_framed f k c ts e ≡ None
  over trace k c ts e h p few = over_past (λ (u : RunTrace). u.looks) (λ (u : RunTrace). u.cost)
      (λ (u : RunTrace). u.height) (λ k c e. run_framed f k c ts e) (λ k c e u q. supports k c ts e u q)
      (λ k c e u q. agrees k c ts e u q) (λ k c e u q. allowed k c ts e u q) trace k c e h p few

  pub over_is_past : (k c : ℕ) (ts : List TaggedTree) (e : Before) → run_framed f k c ts e ≡ None → IsPastRun f k c ts e
  over_is_past k c ts e none = none_passes (λ (u : RunTrace). u.looks) (λ (u : RunTrace). u.cost)
      (λ (u : RunTrace). u.height) (λ k c e. run_framed f k c ts e) (λ k c e u q. supports k c ts e u q)
      (λ k c e u q. agrees k c ts e u q) (λ k c e u q. allowed k c ts e u q) k c e none

  pub past_is_over : (k c : ℕ) (ts : List TaggedTree) (e : Before) → IsPastRun f k c ts e → run_framed f k c ts e ≡ None
  past_is_over k c ts e h = passes_none (λ (u : RunTrace). u.looks) (λ (u : RunTrace). u.cost)
      (λ (u : RunTrace). u.height) (λ k c e. run_framed f k c ts e) (λ k c e u q. supports k c ts e u q)
      (λ k c e u q. agrees k c ts e u q) (λ k c e u q. allowed k c ts e u q) k c e h
