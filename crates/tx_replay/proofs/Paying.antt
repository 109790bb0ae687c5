-- Steps and levels that are taken, and the replay of a trace.
use Rattle.std.proofs.Common.{◌≡◌, ℕ, zero, suc, ◌-◌, ◌<◌, ◌≤◌, refl, ap, sym, ◌∙◌, arith}
use Rattle.std.proofs.lemmas.Grind.{common_steps}
use Rattle.std.specs.Prelude.{Bool, true, false, nat_le, if◌then◌else◌}
use Rattle.tx_env.specs.Environments.{overlaid}
use Rattle.tx_exec_form.specs.Runs.{Before, State, Ran, Over, Done, need, pay}
use Rattle.tx_exec.specs.declared.outcome.Trace.{Trace}
use Rattle.tx_exec.specs.Outcomes.{wide_trace}
use Rattle.tx_parts.specs.Adding.{after_part}
use Rattle.tx_replay.specs.OpenRows.{entered}
use Rattle.tx_replay.specs.Replays.{taken, lowered, looked}
use Rattle.tx_replay.specs.Traces.{AreOnce}
use Rattle.tx_replay.proofs.Entering.{stepped, entered_is}
use Rattle.tx_replay.proofs.Joining.{overlaid_atop}
use Rattle.tx_replay.proofs.Stepping.{owning}

within : (n m : ℕ) → n ≤ m → nat_le n m ≡ true
within n m h = grind (arith, common_steps, h)

past : (n m : ℕ) → m < n → nat_le n m ≡ false
past n m h = grind (arith, common_steps, h)

pub paid_done : (n : ℕ) (e : Before) (s z : State) → n ≤ s.left → z ≡ taken n s → pay n e s ≡ Done tt z
unfolding pay
paid_done n e s z few is =
    let by : Bool → Ran (Unit {0}) = λ b. if b then Done tt (taken n s) else Over in
    ap by (within n s.left few) ∙ ap (λ (y : State). Done tt y) (sym is)

pub paid_over : (n : ℕ) (e : Before) (s : State) → s.left < n → pay n e s ≡ Over
unfolding pay
paid_over n e s few =
    let by : Bool → Ran (Unit {0}) = λ b. if b then Done tt (taken n s) else Over in
    ap by (past n s.left few)

pub entered_none : (k : ℕ) (e : Before) (s : State) → k ≡ 0 → entered k e s ≡ Over
unfolding entered need
entered_none zero e s h = refl
entered_none (suc k) e s h = absurd (omega (arith, h))

pub entered_out : (k : ℕ) (e : Before) (s : State) → (k ≡ 0 → ⊥) → s.left ≡ 0 → entered k e s ≡ Over
entered_out zero e s some out = absurd (some refl)
entered_out (suc k) e s some out =
    let by : Bool → Ran (Unit {0}) = λ b. if b then Done tt (stepped k s) else Over in
    entered_is k e s ∙ ap by (past 1 s.left (omega (arith, out)))

pub entered_done : (k : ℕ) (e : Before) (s y z : State) → (k ≡ 0 → ⊥) → (s.left ≡ 0 → ⊥) → y ≡ taken 1 s →
    z ≡ lowered (k - 1) y → entered k e s ≡ Done tt z
entered_done zero e s y z some left is_y is_z = absurd (some refl)
entered_done (suc k) e s y z some left is_y is_z =
    let by : Bool → Ran (Unit {0}) = λ b. if b then Done tt (stepped k s) else Over in
    let level : suc k - 1 ≡ k = omega arith in
    entered_is k e s ∙ ap by (within 1 s.left (omega (arith, left)))
    ∙ ap (λ n. Done tt (lowered n (taken 1 s))) (sym level)
    ∙ ap (λ (x : State). Done tt (lowered (suc k - 1) x)) (sym is_y)
    ∙ ap (λ (x : State). Done tt x) (sym is_z)

-- ---- a trace

pub replayed : (k : ℕ) (trace : Trace) (s s1 s2 s3 z : State) → AreOnce trace → s1 ≡ looked trace.looks s →
    s2 ≡ owning s1 (overlaid s1.own trace.writes) → s3 ≡ taken trace.cost s2 →
    z ≡ lowered (k - trace.height) s3 → z ≡ after_part k s (wide_trace trace)
replayed k trace s s1 s2 s3 z once is_1 is_2 is_3 is_z =
    is_z ∙ ap (lowered (k - trace.height)) is_3
    ∙ ap (λ y. lowered (k - trace.height) (taken trace.cost y)) is_2
    ∙ ap (λ y. lowered (k - trace.height) (taken trace.cost (owning y (overlaid y.own trace.writes)))) is_1
    ∙ ap (λ m. lowered (k - trace.height) (taken trace.cost (owning (looked trace.looks s) m)))
    (overlaid_atop s.own trace.writes once.1)
