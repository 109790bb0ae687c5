-- What is counted of the names and values of a `with`.
use Rattle.std.specs.Prelude.{◌≡◌, ℕ, ◌+◌, ◌*◌, ◌≤◌, List, length, Option, Some, None}
use Rattle.tx_tree.specs.WideTree.{total_size, deepest}
use Rattle.tx_origin.specs.Values.{WideValue, vals, plains}
use Rattle.tx_exec_form.specs.Rows.{sizes}
use Rattle.tx_exec.specs.Settings.{sets_of, nodes_in}
use Rattle.tx_exec.specs.declared.withs.Setting.{Setting}
use Rattle.tx_exec.specs.declared.withs.Parts.{Parts}

-- What is counted of i pairs. At the start there were this many steps, and now this many are left.
pub record AreSettingsCounted (values : List WideValue) (ss : List Setting)
    (sum count left start levels i : ℕ) : Type 0 where
  pub total : sum ≡ sizes (sets_of ss)
  pub nodes : count ≡ nodes_in ss
  pub few : count ≤ sum
  pub small : total_size (plains (vals values)) + left ≤ start
  pub part : sum ≤ total_size (plains (vals values))
  pub depth : deepest (plains (vals values)) ≤ levels
  pub arity : length values ≡ 2 * i

abbrev pub IsTold : Parts → ℕ → ℕ → ℕ → ℕ → Type 0
IsTold parts left start levels i =
    AreSettingsCounted parts.values.items parts.settings.items parts.total parts.nodes left start levels i

abbrev pub ToldIfNone : {X : Type 0} → Type 0 → Option X → Type 0
ToldIfNone P None = P
ToldIfNone P (Some x) = Unit {0}
