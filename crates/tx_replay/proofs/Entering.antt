-- The level and the step of an open tree, and what a `with` sets.
use Rattle.std.proofs.Common.{◌≡◌, ℕ, suc, ◌+◌, ◌-◌, min, refl, ap, ◌∙◌, arith}
use Rattle.std.proofs.lemmas.Grind.{common_steps}
use Rattle.std.specs.Prelude.{Bool, true, false, nat_le, if◌then◌else◌}
use Rattle.tx_exec_form.specs.Runs.{Before, State, Run, Ran, Over, Done, on_done, give, pay, need}
use Rattle.tx_exec_form.specs.Rows.{Sets, kept, kept_of}
use Rattle.tx_parts.specs.Openness.{Settings}
use Rattle.tx_parts.specs.Composed.{setting_pairs, settings_cost}
use Rattle.tx_parts.specs.Layered.{as_sets}
use Rattle.tx_parts.proofs.Running.{both_paid}
use Rattle.tx_parts.proofs.Restoring.{set_in, all_set}
use Rattle.tx_replay.specs.OpenRows.{entered, names_set, names_begun, settings_set}
use Rattle.tx_replay.specs.Walks.{Stage, Walked, Stopped, on_went, moved, plainly}

level_there : (k : ℕ) → nat_le 1 (suc k) ≡ true
level_there k = grind (arith, common_steps)

-- a step more, and k levels at most
abbrev pub stepped : ℕ → State → State
stepped k z = record { own = z.own; looks = z.looks; left = z.left - 1; slack = min z.slack k }

-- the stage with another state
abbrev pub at_state : Stage → State → Stage
at_state s z = record { state = z; done = s.done; count = s.count }

pub entered_is : (k : ℕ) (e : Before) (z : State) →
    entered (suc k) e z ≡ (if nat_le 1 z.left then Done tt (stepped k z) else Over)
unfolding entered need pay
entered_is k e z =
    let level : min z.slack (suc k - 1) ≡ min z.slack k = omega arith in
    ap (λ b. on_done {A = Unit {0}} e (λ _. pay 1)
    (if b then Done tt (record z { slack = min z.slack (suc k - 1) }) else Over)) (level_there k)
    ∙ ap (λ n. pay 1 e (record z { slack = n })) level

pub entered_then : {A : Type 0} (k : ℕ) (f : Unit {0} → Before → Stage → Walked A) (e : Before) (s : Stage) →
    on_went e f (plainly (entered (suc k)) e s) ≡
    (if nat_le 1 s.state.left then f tt e (at_state s (stepped k s.state)) else Stopped s.count)
entered_then {A} k f e s =
    ap (λ r. on_went e f (moved s r)) (entered_is k e s.state) ∙ by (nat_le 1 s.state.left)
  where
    by : (b : Bool) → on_went e f (moved s (if b then Done tt (stepped k s.state) else Over)) ≡
        (if b then f tt e (at_state s (stepped k s.state)) else Stopped s.count)
    by true = refl
    by false = refl

-- ---- names that are set

-- with these names set
abbrev pub with_sets : Sets → State → State
with_sets ps z = record z { own = set_in ps z.own }

pub names_set_is : (ps : Sets) (e : Before) (z : State) →
    names_set ps e z ≡ Done (kept_of ps z.own) (with_sets ps z)
unfolding names_set kept
names_set_is ps e z = ap (on_done {A = Unit {0}} e (λ _. give (kept_of ps z.own))) (all_set ps e z)

-- the state in a `with`
abbrev pub in_with : ℕ → Settings → State → State
in_with k ps z = record {
  own = set_in (as_sets (setting_pairs ps)) z.own;
  looks = z.looks;
  left = z.left - (1 + settings_cost ps);
  slack = min z.slack k;
}

pub settings_set_is : (k : ℕ) (ps : Settings) (e : Before) (z : State) →
    settings_set (suc k) ps e z ≡
    (if nat_le (1 + settings_cost ps) z.left
    then Done (kept_of (as_sets (setting_pairs ps)) z.own) (in_with k ps z) else Over)
unfolding names_begun pay
settings_set_is k ps e z =
    ap (on_done {A = Unit {0}} e paying) (entered_is k e z)
    ∙ by_first (nat_le 1 z.left)
    ∙ both_paid 1 (settings_cost ps) z.left whole Over
  where
    sets : Sets
    sets = as_sets (setting_pairs ps)

    whole : Ran Sets
    whole = Done (kept_of (as_sets (setting_pairs ps)) z.own) (in_with k ps z)

    paying : Unit {0} → Run Sets
    paying u = λ e1 z1. on_done {A = Unit {0}} e1 (λ _. names_set (as_sets (setting_pairs ps)))
        (pay (settings_cost ps) e1 z1)

    by_second : (b : Bool) → on_done {A = Unit {0}} e (λ _. names_set (as_sets (setting_pairs ps)))
        (if b then Done tt (record (stepped k z) { left = (z.left - 1) - settings_cost ps }) else Over) ≡
        (if b then whole else Over)
    by_second true =
        let left : (z.left - 1) - settings_cost ps ≡ z.left - (1 + settings_cost ps) = omega arith in
        names_set_is (as_sets (setting_pairs ps)) e
        (record (stepped k z) { left = (z.left - 1) - settings_cost ps })
        ∙ ap (λ n. Done (kept_of (as_sets (setting_pairs ps)) z.own) (record {
          own = set_in (as_sets (setting_pairs ps)) z.own;
          looks = z.looks;
          left = n;
          slack = min z.slack k;
        })) left
    by_second false = refl

    by_first : (b : Bool) → on_done {A = Unit {0}} e paying (if b then Done tt (stepped k z) else Over) ≡
        (if b then (if nat_le (settings_cost ps) (z.left - 1) then whole else Over) else Over)
    by_first true = by_second (nat_le (settings_cost ps) (z.left - 1))
    by_first false = refl

pub settings_then : {A : Type 0} (k : ℕ) (ps : Settings) (f : Sets → Before → Stage → Walked A) (e : Before)
    (s : Stage) → on_went e f (plainly (settings_set (suc k) ps) e s) ≡
    (if nat_le (1 + settings_cost ps) s.state.left
    then f (kept_of (as_sets (setting_pairs ps)) s.state.own) e (at_state s (in_with k ps s.state))
    else Stopped s.count)
settings_then {A} k ps f e s =
    ap (λ r. on_went e f (moved s r)) (settings_set_is k ps e s.state)
    ∙ by (nat_le (1 + settings_cost ps) s.state.left)
  where
    by : (b : Bool) → on_went e f (moved s (if b
        then Done (kept_of (as_sets (setting_pairs ps)) s.state.own) (in_with k ps s.state) else Over)) ≡
        (if b then f (kept_of (as_sets (setting_pairs ps)) s.state.own) e (at_state s (in_with k ps s.state))
        else Stopped s.count)
    by true = refl
    by false = refl
