-- The turns of a `while`.
use Rattle.std.proofs.Common.{◌≡◌, ℕ, suc, ◌+◌, ◌-◌, ◌<◌, Bool, true, false, List, [], ◌∷◌, ◌++◌, ap, sym, ◌∙◌, arith}
use Rattle.std.specs.Prelude.{Some, None, codes, if◌then◌else◌}
use Rattle.tx_origin.specs.Values.{WideValue}
use Rattle.tx_origin.specs.TaggedTrees.{TaggedTree}
use Rattle.tx_exec_form.specs.Runs.{Before, State, Ran, Done, Run, on_done, ◌>>=◌}
use Rattle.tx_exec_form.specs.Frames.{Frame}
use Rattle.tx_exec_form.specs.Rows.{Eval, wrong, gathered, decided, turns}
use Rattle.tx_exec.specs.Gives.{Fails}
use Rattle.tx_exec.specs.FlowRuns.{truth_run, ended_by}
use Rattle.tx_exec.specs.declared.picks.Ending.{Ending}
use Rattle.tx_exec.specs.declared.picks.Ending.TheVariants as endings
use Rattle.tx_exec.specs.declared.stop.Stop.{Stop}
use Rattle.tx_exec.proofs.Each.{stop_bind, fails_as}
use Rattle.tx_exec.proofs.Choosing.{by_truth}

module _ (k : ℕ) (below : Eval) (f : Frame) (label : List ℕ) (c b : TaggedTree) (vs : List WideValue) (e : Before)
    (s : State) (r : Ran WideValue) (m : ℕ) (no_more : m ≡ 0) (run : turns m k below f label c b vs e s ≡ r) where
  -- after the last turn
  limit : Run WideValue
  limit = wrong k (codes "limit") label

  closing : r ≡ on_done e (decided k label limit (gathered vs)) (truth_run below f c e s)
  unfolding turns limit
  closing =
      sym run ∙ ap (λ p. turns p k below f label c b vs e s) no_more
      ∙ by_truth k below f label c (wrong k (codes "limit") label) (gathered vs) e s

  pub last_stop : (x : Stop) → Fails x (truth_run below f c e s) → Fails x r
  last_stop x h =
      fails_as x r _ closing (stop_bind x e (decided k label limit (gathered vs)) (truth_run below f c e s) h)

  pub last_bad : (s1 : State) → truth_run below f c e s ≡ Done None s1
      → r ≡ ended_by k label vs endings.Bad e s1
  unfolding ended_by
  last_bad s1 h = closing ∙ ap (on_done e (decided k label limit (gathered vs))) h

  last_by : (holds : Bool) (s1 : State) → truth_run below f c e s ≡ Done (Some holds) s1
      → r ≡ ended_by k label vs (if holds then endings.Limit else endings.Finished) e s1
  unfolding ended_by limit
  last_by true s1 h = closing ∙ ap (on_done e (decided k label limit (gathered vs))) h
  last_by false s1 h = closing ∙ ap (on_done e (decided k label limit (gathered vs))) h

  pub last_holds : (holds : Bool) (s1 : State) (ending : Ending) → truth_run below f c e s ≡ Done (Some holds) s1
      → ending ≡ (if holds then endings.Limit else endings.Finished) → r ≡ ended_by k label vs ending e s1
  last_holds holds s1 ending h g = last_by holds s1 h ∙ ap (λ a. ended_by k label vs a e s1) (sym g)

module _ (k : ℕ) (below : Eval) (f : Frame) (label : List ℕ) (c b : TaggedTree) (vs : List WideValue) (e : Before)
    (s : State) (r : Ran WideValue) (m n : ℕ) (more : m ≡ suc n) (run : turns m k below f label c b vs e s ≡ r) where
  further : WideValue → Run WideValue
  further w = turns n k below f label c b (vs ++ w ∷ [])

  turn : Run WideValue
  turn = below b f >>= further

  opened : r ≡ on_done e (decided k label turn (gathered vs)) (truth_run below f c e s)
  unfolding turns turn further
  opened =
      sym run ∙ ap (λ p. turns p k below f label c b vs e s) more
      ∙ by_truth k below f label c (below b f >>= λ w. turns n k below f label c b (vs ++ w ∷ [])) (gathered vs) e s

  pub turn_stop : (x : Stop) → Fails x (truth_run below f c e s) → Fails x r
  turn_stop x h =
      fails_as x r _ opened (stop_bind x e (decided k label turn (gathered vs)) (truth_run below f c e s) h)

  pub turn_bad : (s1 : State) → truth_run below f c e s ≡ Done None s1
      → r ≡ ended_by k label vs endings.Bad e s1
  unfolding ended_by
  turn_bad s1 h = opened ∙ ap (on_done e (decided k label turn (gathered vs))) h

  pub turn_end : (s1 : State) → truth_run below f c e s ≡ Done (Some false) s1
      → r ≡ ended_by k label vs endings.Finished e s1
  unfolding ended_by
  turn_end s1 h = opened ∙ ap (on_done e (decided k label turn (gathered vs))) h

  body : (s1 : State) → truth_run below f c e s ≡ Done (Some true) s1 → r ≡ on_done e further (below b f e s1)
  unfolding turn
  body s1 h = opened ∙ ap (on_done e (decided k label turn (gathered vs))) h

  pub body_stop : (s1 : State) (x : Stop) → truth_run below f c e s ≡ Done (Some true) s1
      → Fails x (below b f e s1) → Fails x r
  body_stop s1 x h g = fails_as x r _ (body s1 h) (stop_bind x e further (below b f e s1) g)

  pub turn_next : (s1 s2 : State) (w : WideValue) (us : List WideValue) → truth_run below f c e s ≡ Done (Some true) s1
      → below b f e s1 ≡ Done w s2 → us ≡ vs ++ w ∷ [] → turns n k below f label c b us e s2 ≡ r
  unfolding further
  turn_next s1 s2 w us h g p =
      ap (λ ws. turns n k below f label c b ws e s2) p ∙ sym (body s1 h ∙ ap (on_done e further) g)

pub one_less : (m i : ℕ) → i < m → m - i ≡ suc (m - (i + 1))
one_less m i lt = omega (arith, lt)
