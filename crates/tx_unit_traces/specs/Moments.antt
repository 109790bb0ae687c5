-- Moments, as contracts see them.
use Rattle.std.specs.Prelude.{◌≡◌, ℕ, ◌+◌, ◌≤◌, ◌⊎◌, List, refl}
use Rattle.std.specs.Coded.{Coded, code_by, coded×, coded_ℕ}
use Rattle.std.specs.FinMap.{empty}
use Rattle.tx_tree.specs.WideTree.{WideTree, size_of}
use Rattle.tx_env.specs.Environments.{NameMap, coded_NameMap, overlaid}
use Rattle.tx_env.specs.Pairs.{Name}
use Rattle.tx_origin.specs.Values.{WideValue, plain}
use Rattle.tx_view_form.specs.declared.TheConstants.{MOST_VIEW_STEPS}
use Rattle.tx_view_form.specs.Outcomes.{Moment, over_value}

abbrev pub coded_Moment : Coded Moment
coded_Moment =
    code_by (NameMap × ℕ) (coded× coded_NameMap coded_ℕ) (λ m. (m.env, m.left))
    (λ p. record { env = p.0; left = p.1 }) (λ _. refl)

-- before the first unit, where these names have been set, in order
abbrev pub beginning_with : List (Name × WideTree) → Moment
beginning_with start = record { env = overlaid empty start; left = MOST_VIEW_STEPS }

-- the value is that of a unit that runs out of steps or levels, or it has been paid for
pub record IsPaid (before after : Moment) (v : WideValue) : Type 0 where
  pub small : size_of (plain v) ≤ 1000000
  pub paid : (v ≡ over_value) ⊎ (size_of (plain v) + after.left ≤ before.left)
  pub falls : after.left ≤ before.left
