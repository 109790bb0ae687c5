-- Traces of one tree in a frame.
use Rattle.std.proofs.Common.{◌≡◌, ℕ, ◌-◌, ◌<◌, ◌≤◌, ◌⊎◌, ap, refl, sym, subst, ◌∙◌, arith}
use Rattle.std.specs.Prelude.{Some, None}
use Rattle.tx_tree.specs.WideTree.{size_of, depth_of}
use Rattle.tx_origin.specs.Values.{WideValue, plain}
use Rattle.tx_origin.specs.TaggedTrees.{TaggedTree}
use Rattle.tx_exec_form.specs.Runs.{Before, State, Ran, Over, Done, Run}
use Rattle.tx_exec_form.specs.Frames.{Frame, top}
use Rattle.tx_exec_form.specs.Rows.{ex}
use Rattle.tx_exec_form.specs.Evaluated.{WideTrace, start, trace_of, traced, evaluated_in}
use Rattle.tx_exec_form.specs.Laws.{Agrees}
use Rattle.tx_exec_form.specs.Framed.{framed, SupportsFramed, IsPastFramed}
use Rattle.tx_exec_form.proofs.Follows.{Follows, ex_follows}
use Rattle.tx_exec_form.proofs.Small.{Fits, fits}
use Rattle.tx_exec_form.proofs.Again.{held, again, left_fits, taken_again, over_past, none_passes, passes_none}

-- without a frame
pub framed_top : (k c : ℕ) (t : TaggedTree) (e : Before) → framed top k c t e ≡ evaluated_in k c t e
unfolding framed evaluated_in
framed_top k c t e = refl

module _ (f : Frame) where
  -- the run that a trace came of
  pub record Came (k c : ℕ) (t : TaggedTree) (e : Before) (trace : WideTrace) : Type 0 where
    pub result : WideValue
    pub state : State
    pub run : ex k t f e (start k c) ≡ Done result state
    pub is : trace ≡ trace_of k c result state

  came_of : (k c : ℕ) (t : TaggedTree) (e : Before) (trace : WideTrace) (r : Ran WideValue) →
      ex k t f e (start k c) ≡ r → traced k c r ≡ Some trace → Came k c t e trace
  came_of k c t e trace Over q h = absurd cc
  came_of k c t e trace (Done v s) q h = let same : trace_of k c v s ≡ trace =
      cc in record { result = v; state = s; run = q; is = sym same }

  pub came : (k c : ℕ) (t : TaggedTree) (e : Before) (trace : WideTrace) → framed f k c t e ≡ Some trace →
      Came k c t e trace
  unfolding framed
  came k c t e trace h = came_of k c t e trace (ex k t f e (start k c)) refl h

  abbrev levels : TaggedTree → ℕ → Run WideValue
  levels t k = ex k t f

  follow : (t : TaggedTree) (k k' : ℕ) → Follows k k' (levels t k) (levels t k')
  follow t k k' = ex_follows k k' t f

  -- the same trace, with the steps and levels that were left
  same_trace : (k c k' c' : ℕ) (v : WideValue) (s : State) → s.left ≤ c → s.slack ≤ k → c - s.left ≤ c' →
      k - s.slack ≤ k' →
      trace_of k' c' v (record s { left = c' - (c - s.left); slack = k' - (k - s.slack) }) ≡ trace_of k c v s
  same_trace k c k' c' v s p q enough high =
      ap (λ n. record {
        value = v;
        looks = s.looks;
        writes = s.own;
        cost = n;
        height = k' - (k' - (k - s.slack));
      }) (taken_again c c' s.left p enough)
      ∙ ap (λ n. record { value = v; looks = s.looks; writes = s.own; cost = c - s.left; height = n })
      (taken_again k k' s.slack q high)

  pub supports : (k c : ℕ) (t : TaggedTree) (e : Before) (trace : WideTrace) → framed f k c t e ≡ Some trace →
      SupportsFramed f trace t
  unfolding framed
  supports k c t e trace h = by (came k c t e trace h)
    where
      by : Came k c t e trace → SupportsFramed f trace t
      by w = subst (λ u. SupportsFramed f u t) (sym w.is) (λ k' c' e' agrees enough high.
          let fits : (w.state.left ≤ c) × (w.state.slack ≤ k) =
          left_fits (levels t) (follow t) k c e w.result w.state w.run in
          ap (traced k' c')
          (again (levels t) (follow t) k c e w.result w.state w.run k' c' e' agrees enough high)
          ∙ ap Some (same_trace k c k' c' w.result w.state fits.0 fits.1 enough high))

  pub agrees : (k c : ℕ) (t : TaggedTree) (e : Before) (trace : WideTrace) → framed f k c t e ≡ Some trace →
      Agrees e trace.looks
  agrees k c t e trace h = by (came k c t e trace h)
    where
      by : Came k c t e trace → Agrees e trace.looks
      by w = subst (λ u. Agrees e u.looks) (sym w.is)
          (held (levels t) (follow t) k k c e w.result w.state w.run).agrees

  pub allowed : (k c : ℕ) (t : TaggedTree) (e : Before) (trace : WideTrace) → framed f k c t e ≡ Some trace →
      (trace.cost ≤ c) × (trace.height ≤ k)
  allowed k c t e trace h = by (came k c t e trace h)
    where
      by : Came k c t e trace → (trace.cost ≤ c) × (trace.height ≤ k)
      by w = subst (λ (u : WideTrace). (u.cost ≤ c) × (u.height ≤ k)) (sym w.is) (omega arith, omega arith)

  pub small : (k c : ℕ) (t : TaggedTree) (e : Before) (trace : WideTrace) → framed f k c t e ≡ Some trace →
      (size_of (plain trace.value) ≤ trace.cost) × (depth_of (plain trace.value) ≤ trace.height)
  small k c t e trace h = by (came k c t e trace h)
    where
      by : Came k c t e trace →
          (size_of (plain trace.value) ≤ trace.cost) × (depth_of (plain trace.value) ≤ trace.height)
      by w =
          let held : Fits c k k w.result w.state = fits k t f e (start k c) w.state w.result w.run in
          subst (λ (u : WideTrace). (size_of (plain u.value) ≤ u.cost)
          × (depth_of (plain u.value) ≤ u.height)) (sym w.is) (omega (arith, held.size), omega (arith, held.depth))

  -- with fewer steps or levels the tree runs out
  pub over : (trace : WideTrace) (k c : ℕ) (t : TaggedTree) (e : Before) → SupportsFramed f trace t →
      Agrees e trace.looks → (c < trace.cost) ⊎ (k < trace.height) → framed f k c t e ≡ None
  over trace k c t e h p few = over_past (λ (u : WideTrace). u.looks) (λ (u : WideTrace). u.cost)
      (λ (u : WideTrace). u.height) (λ k c e. framed f k c t e) (λ k c e u q. supports k c t e u q)
      (λ k c e u q. agrees k c t e u q) (λ k c e u q. allowed k c t e u q) trace k c e h p few

  pub over_is_past : (k c : ℕ) (t : TaggedTree) (e : Before) → framed f k c t e ≡ None → IsPastFramed f k c t e
  over_is_past k c t e none = none_passes (λ (u : WideTrace). u.looks) (λ (u : WideTrace). u.cost)
      (λ (u : WideTrace). u.height) (λ k c e. framed f k c t e) (λ k c e u q. supports k c t e u q)
      (λ k c e u q. agrees k c t e u q) (λ k c e u q. allowed k c t e u q) k c e none

  pub past_is_over : (k c : ℕ) (t : TaggedTree) (e : Before) → IsPastFramed f k c t e → framed f k c t e ≡ None
  past_is_over k c t e h = passes_none (λ (u : WideTrace). u.looks) (λ (u : WideTrace). u.cost)
      (λ (u : WideTrace). u.height) (λ k c e. framed f k c t e) (λ k c e u q. supports k c t e u q)
      (λ k c e u q. agrees k c t e u q) (λ k c e u q. allowed k c t e u q) k c e h
