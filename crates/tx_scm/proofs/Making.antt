-- Reading makes no more nodes than the tree has that the bytes spell, whatever the limits.
use Rattle.std.proofs.Common.{◌≡◌, ℕ, ◌+◌, ◌<◌, ◌≤◌, List, [], ◌∷◌, length, get_or, drop, sym, ap, subst, ◌∙◌, arith}
use Rattle.std.proofs.Common.{⊎_elim}
use Rattle.std.proofs.lemmas.List.{drop_more}
use Rattle.tx_tree.specs.WideTree.{WideTree, nodes_of}
use Rattle.tx_scm.specs.declared.kinds.Kind.{Kind}
use Rattle.tx_scm.specs.declared.kinds.Kind.TheVariants.{Closes}
use Rattle.tx_scm.specs.Kinds.{kind_of}
use Rattle.tx_scm.specs.Spelling.{Spells}
use Rattle.tx_scm.specs.Machine.{State, between, naming, whole, failed, the_limits, within, wide, step, run, leads}
use Rattle.tx_scm.specs.States.{made_by, made_in, IsCounted}
use Rattle.tx_scm.proofs.Counting.{step_counted}
use Rattle.tx_scm.proofs.Wide.{step_agrees, wide_whole}

-- ---- without limits

wide_step : (s t : State) (k : Kind) (b : ℕ) → (t ≡ failed → ⊥) → t ≡ step (within the_limits) s k b
    → t ≡ step wide s k b
wide_step s t k b n e = ⊎_elim (λ f. absurd (n (e ∙ f))) (λ f. e ∙ f) (step_agrees (within the_limits) s k b)

-- one step
pub leads_more : (bytes : List ℕ) (s : State) (i b : ℕ) → i < length bytes → get_or bytes i 0 ≡ b → (t : State)
    → (t ≡ failed → ⊥)
    → t ≡ step (within the_limits) s (kind_of b) b → leads s (drop i bytes) ≡ leads t (drop (i + 1) bytes)
unfolding leads
leads_more bytes s i b lt is t n e =
    ap (λ x. leads s x) (drop_more bytes i 0 lt ∙ ap (λ b. b ∷ drop (i + 1) bytes) is)
    ∙ ap (λ t. leads t (drop (i + 1) bytes)) (sym (wide_step s t (kind_of b) b n e))

-- ---- nodes

made_by_most : (k : Kind) → made_by k ≤ 1
made_by_most Closes = omega arith
made_by_most _ = omega arith

pub made_most : (s : State) (k : Kind) → made_in s k ≤ 1
made_most (between opens) k = made_by_most k
made_most (naming label opens) k = made_by_most k
made_most _ k = omega arith

module _ (from : ℕ) (t : WideTree) where
  run_counted : (x : List ℕ) (steps : ℕ) (s : State) → IsCounted from steps s → run wide s x ≡ whole t
      → steps ≤ from + nodes_of t
  run_counted [] steps s h e = subst (λ s. IsCounted from steps s) e h
  run_counted (b ∷ x) steps s h e =
      omega (
        arith,
        run_counted x (steps + made_in s (kind_of b)) (step wide s (kind_of b) b)
            (step_counted wide from steps s (kind_of b) b h) e,
      )

  module _ (bytes : List ℕ) (spelled : Spells bytes t) (s : State) (i steps : ℕ)
      (led : leads (between []) bytes ≡ leads s (drop i bytes)) (counted : IsCounted from steps s) where
    here : run wide s (drop i bytes) ≡ whole t
    unfolding leads
    here = sym led ∙ wide_whole bytes t spelled

    pub made_so_far : steps ≤ from + nodes_of t
    made_so_far = run_counted (drop i bytes) steps s counted here

    -- with the byte at i
    pub made_next : (k : Kind) (after : ℕ) → i < length bytes → k ≡ kind_of (get_or bytes i 0)
        → after ≤ steps + made_in s k → after ≤ from + nodes_of t
    made_next k after lt is most =
        let b = get_or bytes i 0 in
        let more : run wide (step wide s (kind_of b) b) (drop (i + 1) bytes) ≡ whole t =
        ap (λ x. run wide s x) (sym (drop_more bytes i 0 lt)) ∙ here in
        let same : made_in s k ≡ made_in s (kind_of b) = ap (λ k. made_in s k) is in
        omega (
          arith,
          most,
          same,
          run_counted (drop (i + 1) bytes) (steps + made_in s (kind_of b)) (step wide s (kind_of b) b)
              (step_counted wide from steps s (kind_of b) b counted) more,
        )
