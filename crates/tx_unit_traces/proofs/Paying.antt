-- Moments, and what units are charged.
use Rattle.std.proofs.Common.{◌≡◌, ℕ, ◌-◌, ◌≤◌, inl, inr, min, refl, sym, ap, ◌∙◌, arith}
use Rattle.std.specs.Prelude.{Option, Some, None}
use Rattle.std.specs.FinMap.{get}
use Rattle.tx_tree.specs.WideTree.{size_of, depth_of}
use Rattle.tx_env.specs.Environments.{NameMap, Environment, overlaid}
use Rattle.tx_origin.specs.Values.{WideValue, plain}
use Rattle.tx_origin.specs.TaggedTrees.{TaggedTree}
use Rattle.tx_exec_form.specs.declared.TheConstants.{MOST_LEVELS}
use Rattle.tx_exec_form.specs.Runs.{Before}
use Rattle.tx_exec_form.specs.Evaluated.{WideTrace, evaluated, evaluated_in, paid}
use Rattle.tx_exec.specs.States.{before_of}
use Rattle.tx_exec.specs.Outcomes.{wide_trace}
use Rattle.tx_exec.specs.declared.outcome.Trace.{Trace}
use Rattle.tx_view_form.specs.declared.TheConstants.{MOST_UNIT_STEPS}
use Rattle.tx_view_form.specs.Outcomes.{Moment, allowance, outcome, behind, unit_value, over_value, charge}
use Rattle.tx_unit_traces.specs.Moments.{IsPaid}
use Rattle.tx_unit_traces.specs.Traces.{AreOnce}
use Rattle.tx_unit_traces.proofs.Once.{overlaid_same}

abbrev pub moment_at : Environment → ℕ → Moment
moment_at e left = record { env = e.map; left = left }

-- what evaluation in this environment with so many steps gives is the outcome at the moment
pub outcome_at : (t : TaggedTree) (m : Moment) (e : Environment) (left n : ℕ) (o : Option WideTrace)
    → moment_at e left ≡ m → n ≡ min MOST_UNIT_STEPS left → o ≡ evaluated t (before_of e) n → o ≡ outcome t m
unfolding outcome
outcome_at t m e left n o seen same h =
    h ∙ ap (evaluated t (before_of e)) same ∙ ap (λ (k : Moment). evaluated t (get k.env) (allowance k)) seen

pub charge_at : (t : TaggedTree) (m : Moment) (e : Environment) (left n : ℕ) (o : Option WideTrace)
    → moment_at e left ≡ m → n ≡ min MOST_UNIT_STEPS left → o ≡ evaluated t (before_of e) n
    → paid n o ≡ charge m (outcome t m)
charge_at t m e left n o seen same h =
    ap (λ k. paid k o) (same ∙ ap (λ (k : Moment). min MOST_UNIT_STEPS k.left) seen)
    ∙ ap (charge m) (outcome_at t m e left n o seen same h)

-- ---- the moment after a unit

pub behind_over : (m : Moment) (e : Environment) (left n : ℕ) (o : Option WideTrace) → moment_at e left ≡ m
    → n ≡ min MOST_UNIT_STEPS left → o ≡ None → moment_at e (left - n) ≡ behind m o
behind_over m e left n o seen same is =
    ap (λ k. moment_at e (left - k)) same ∙ ap (λ (k : Moment). behind k None) seen ∙ ap (behind m) (sym is)

pub behind_done : (m : Moment) (e : Environment) (left : ℕ) (o : Option WideTrace) (trace : Trace) (new : Environment)
    → moment_at e left ≡ m → o ≡ Some (wide_trace trace) → new.map ≡ overlaid e.map trace.writes → AreOnce trace
    → moment_at new (left - trace.cost) ≡ behind m o
behind_done m e left o trace new seen is over once =
    ap at (over ∙ overlaid_same e.map trace.writes once.1)
    ∙ ap (λ (k : Moment). behind k (Some (wide_trace trace))) seen ∙ ap (behind m) (sym is)
  where
    at : NameMap → Moment
    at map = record { env = map; left = left - trace.cost }

-- there are steps enough for a trace
pub cost_fits : (m : Moment) (e : Environment) (left : ℕ) (o : Option WideTrace) (trace : Trace) → moment_at e left ≡ m
    → o ≡ Some (wide_trace trace) → charge m o ≤ m.left → trace.cost ≤ left
cost_fits m e left o trace seen is enough =
    let cost : charge m o ≡ trace.cost = ap (charge m) is in
    let all : left ≡ m.left = ap (λ (k : Moment). k.left) seen in
    omega (arith, enough, cost, all)

-- ---- a value has been paid for

abbrev pub AllAllowed : Type 0
AllAllowed = (k c : ℕ) (t : TaggedTree) (e : Before) (trace : WideTrace) → evaluated_in k c t e ≡ Some trace
    → (trace.cost ≤ c) × (trace.height ≤ k)

-- there are steps enough for what a unit evaluates to
pub charge_fits : AllAllowed → (m : Moment) (o : Option WideTrace) (t : TaggedTree) → o ≡ outcome t m
    → charge m o ≤ m.left
unfolding outcome
charge_fits allowed m None t e = omega arith
charge_fits allowed m (Some trace) t e =
    let cost : trace.cost ≤ allowance m = (allowed MOST_LEVELS (allowance m) t (get m.env) trace (sym e)).0 in
    omega (arith, cost)

abbrev pub AllSmall : Type 0
AllSmall = (k c : ℕ) (t : TaggedTree) (e : Before) (trace : WideTrace) → evaluated_in k c t e ≡ Some trace
    → (size_of (plain trace.value) ≤ trace.cost) × (depth_of (plain trace.value) ≤ trace.height)

pub paid_for : AllSmall → AllAllowed → (m after : Moment) (t : TaggedTree) (o : Option WideTrace) (v : WideValue)
    → o ≡ outcome t m → v ≡ unit_value o → after ≡ behind m o → IsPaid m after v
unfolding outcome
paid_for small allowed m after t None v e is at =
    let seven : size_of (plain over_value) ≡ 7 = refl in
    let size : size_of (plain v) ≡ size_of (plain over_value) = ap (λ u. size_of (plain u)) is in
    let left : after.left ≡ m.left - allowance m = ap (λ (k : Moment). k.left) at in
    record { small = omega (arith, seven, size); paid = inl is; falls = omega (arith, left) }
paid_for small allowed m after t (Some trace) v e is at =
    let fits : size_of (plain trace.value) ≤ trace.cost =
    (small MOST_LEVELS (allowance m) t (get m.env) trace (sym e)).0 in
    let most : trace.cost ≤ allowance m = (allowed MOST_LEVELS (allowance m) t (get m.env) trace (sym e)).0 in
    let size : size_of (plain v) ≡ size_of (plain trace.value) = ap (λ u. size_of (plain u)) is in
    let left : after.left ≡ m.left - trace.cost = ap (λ (k : Moment). k.left) at in
    record {
      small = omega (arith, fits, most, size);
      paid = inr (omega (arith, fits, most, size, left));
      falls = omega (arith, left);
    }
