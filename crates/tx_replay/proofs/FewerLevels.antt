-- What a tree evaluates to with fewer levels.
use Rattle.std.proofs.Common.{◌≡◌, ℕ, ◌+◌, ◌-◌, ◌<◌, ◌≤◌, inr, refl, ap, sym, ◌∙◌, arith}
use Rattle.std.specs.Prelude.{Option, Some, None}
use Rattle.tx_exec_form.specs.Runs.{Before}
use Rattle.tx_origin.specs.TaggedTrees.{TaggedTree}
use Rattle.tx_exec_form.specs.Evaluated.{WideTrace, evaluated_in, paid}
use Rattle.tx_exec_form.proofs.Tracing.{supports, agrees, allowed}
use Rattle.tx_exec.specs.declared.outcome.Trace.{Trace}
use Rattle.tx_exec.specs.declared.outcome.Outcome.{Outcome}
use Rattle.tx_exec.specs.declared.outcome.Outcome.TheVariants.{Over, Done}
use Rattle.tx_exec.specs.Outcomes.{wide_trace, wide_outcome}
use Rattle.tx_parts.proofs.PartRuns.{none_allowed}

pub comes_over : (o : Outcome) (r : Option WideTrace) → wide_outcome o ≡ r → o ≡ Over → r ≡ None
comes_over o r h is = sym h ∙ ap wide_outcome is

pub comes_done : (o : Outcome) (trace : Trace) (r : Option WideTrace) → wide_outcome o ≡ r → o ≡ Done trace →
    r ≡ Some (wide_trace trace)
comes_done o trace r h is = sym h ∙ ap wide_outcome is

pub counted_done : (o : Outcome) (trace : Trace) (before after c : ℕ) → after ≡ before + paid c (wide_outcome o) →
    o ≡ Done trace → after ≡ before + (wide_trace trace).cost
counted_done o trace before after c h is = h ∙ ap (λ x. before + paid c (wide_outcome x)) is

pub counted_over : (o : Outcome) (before after c : ℕ) → after ≡ before + paid c (wide_outcome o) → o ≡ Over →
    after ≡ before + c
counted_over o before after c h is = h ∙ ap (λ x. before + paid c (wide_outcome x)) is

-- what is done with some levels is done with as many as it needs
pub done_lower : (m k c : ℕ) (t : TaggedTree) (e : Before) (w : WideTrace) → evaluated_in m c t e ≡ Some w →
    w.height ≤ k → evaluated_in k c t e ≡ Some w
done_lower m k c t e w h low =
    let bounds : (w.cost ≤ c) × (w.height ≤ m) = allowed m c t e w h in
    supports m c t e w h k c e (agrees m c t e w h) bounds.0 low

-- with fewer levels it runs out
pub over_below : (m k c : ℕ) (t : TaggedTree) (e : Before) (w : WideTrace) → evaluated_in m c t e ≡ Some w →
    k < w.height → evaluated_in k c t e ≡ None
over_below m k c t e w h high =
    none_allowed w k c t e (supports m c t e w h) (agrees m c t e w h) (inr high)

pub cost_within : (m c : ℕ) (t : TaggedTree) (e : Before) (w : WideTrace) → evaluated_in m c t e ≡ Some w → w.cost ≤ c
cost_within m c t e w h = (allowed m c t e w h).0

-- the rest of what was left is counted too
pub rest_counted : (before between after c cost : ℕ) → between ≡ before + cost → cost ≤ c →
    after ≡ between + (c - cost) → after ≡ before + c
rest_counted before between after c cost h few g = omega (arith, h, few, g)

-- what runs out with all levels runs out with fewer
pub over_lower : (m k c : ℕ) (t : TaggedTree) (e : Before) → k ≤ m → evaluated_in m c t e ≡ None →
    evaluated_in k c t e ≡ None
over_lower m k c t e low none = by (evaluated_in k c t e) refl
  where
    by : (o : Option WideTrace) → evaluated_in k c t e ≡ o → o ≡ None
    by None h = refl
    by (Some w) h =
        let bounds : (w.cost ≤ c) × (w.height ≤ k) = allowed k c t e w h in
        let off : Some w ≡ None =
        sym (supports k c t e w h m c e (agrees k c t e w h) bounds.0 (omega (arith, low, bounds.1))) ∙ none in
        cc
