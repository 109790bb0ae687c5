-- The loop over children.
use Rattle.std.proofs.Common.{◌≡◌, ℕ, zero, suc, ◌+◌, ◌<◌, ◌≤◌, List, [], ◌∷◌, ◌++◌, length, drop, ap, refl, sym, subst}
use Rattle.std.proofs.Common.{◌∙◌, arith}
use Rattle.std.specs.Prelude.{Option, Some, None, Result, slice_get}
use Rattle.std.proofs.lemmas.Grind.{common_steps}
use Rattle.tx_tree.proofs.Walks.{drop_item}
use Rattle.tx_origin.specs.Values.{WideValue}
use Rattle.tx_origin.specs.TaggedTrees.{TaggedTree}
use Rattle.tx_exec_form.specs.Runs.{Before, State, Ran, Over, Done, Run, on_done}
use Rattle.tx_exec_form.specs.Frames.{Frame}
use Rattle.tx_exec_form.specs.Rows.{Eval, each}
use Rattle.tx_exec.specs.Gives.{Gives, Fails}
use Rattle.tx_exec.specs.PartRuns.{kid_run}
use Rattle.tx_exec.proofs.Kids.{there, kid_run_is}
use Rattle.tx_exec.specs.declared.stop.Stop.{Stop}
use Rattle.tx_exec.specs.declared.stop.Stop.TheVariants as stops

pub stop_bind : {A B : Type 0} (x : Stop) (e : Before) (f : A → Run B) (r : Ran A) → Fails x r → Fails x (on_done e f r)
stop_bind stops.Memory e f r h = tt
stop_bind stops.Over e f r h = ap (on_done e f) h

pub fails_as : {A : Type 0} (x : Stop) (r q : Ran A) → r ≡ q → Fails x q → Fails x r
fails_as stops.Memory r q e h = tt
fails_as stops.Over r q e h = e ∙ h

pub gives_as : {X A : Type 0} (view : X → A) (x : Result X Stop) (r q : Ran A) (s : State) → r ≡ q → Gives view x q s
    → Gives view x r s
gives_as view x r q s e h = subst (λ p. Gives view x p s) (sym e) h

module _ (below : Eval) (f : Frame) (kids : List TaggedTree) (i : ℕ) (vs : List WideValue) (e : Before) (s : State)
    (r : Ran (List WideValue)) where
  further : WideValue → Run (List WideValue)
  further v = each below f (vs ++ v ∷ []) (drop (i + 1) kids)

  opened : i < length kids → each below f vs (drop i kids) e s ≡ r → r ≡ on_done e further (kid_run below f kids i e s)
  unfolding further
  opened lt run =
      let kid = there kids i lt in
      sym run ∙ ap (λ ts. each below f vs ts e s) (drop_item kids i kid.0 kid.1)
      ∙ ap (λ m. on_done e further (m e s)) (sym (kid_run_is below f kids i kid.0 kid.1))

  pub each_next : (us : List WideValue) (v : WideValue) (s' : State) → i < length kids
      → kid_run below f kids i e s ≡ Done v s' → us ≡ vs ++ v ∷ [] → each below f vs (drop i kids) e s ≡ r
      → each below f us (drop (i + 1) kids) e s' ≡ r
  unfolding further
  each_next us v s' lt d p run =
      ap (λ ws. each below f ws (drop (i + 1) kids) e s') p ∙ sym (opened lt run ∙ ap (on_done e further) d)

  pub each_stop : (x : Stop) → i < length kids → Fails x (kid_run below f kids i e s)
      → each below f vs (drop i kids) e s ≡ r → Fails x r
  each_stop x lt g run = fails_as x r _ (opened lt run) (stop_bind x e further (kid_run below f kids i e s) g)

  pub each_end : length kids ≤ i → each below f vs (drop i kids) e s ≡ r → r ≡ Done vs s
  each_end le run =
      let end : drop i kids ≡ [] = grind (arith, common_steps, le) in
      sym run ∙ ap (λ ts. each below f vs ts e s) end
