-- What a `with` evaluates to.
use Rattle.std.specs.Prelude.{◌≡◌, ◌<◌, ℕ, ◌+◌, List, [], ◌∷◌, ◌++◌, length, codes, Some}
use Rattle.tx_tree.specs.WideTree.{WideTree, total_size, deepest}
use Rattle.tx_env.specs.Environments.{NameMap}
use Rattle.tx_origin.specs.Values.{WideValue, made, vals, plains}
use Rattle.tx_exec_form.specs.Evaluated.{WideTrace}
use Rattle.tx_parts.specs.Atop.{past}
use Rattle.tx_parts.specs.Openness.{Settings as TextSettings, With, openness}
use Rattle.tx_walk.specs.declared.settings.Settings.{Settings}
use Rattle.tx_walk.specs.Descent.{AreSettings}

-- the trace of the `with` at this origin, which sets this, of the values of names and texts, what these cost, and the
-- trace of its last child
abbrev pub with_at : List ℕ → NameMap → List WideValue → ℕ → WideTrace → WideTrace
with_at base own values cost trace = record {
  value = made (codes "with") (vals (values ++ trace.value ∷ [])) (Some base);
  looks = past own trace.looks;
  writes = past own trace.writes;
  cost = 1 + cost + trace.cost;
  height = 1 + trace.height;
}

-- the values make a node within the limits
pub record FitsWith (values : List WideValue) (n : ℕ) (w : WideTrace) : Type 0 where
  pub arity : length values < 65535
  pub size : total_size (plains (vals (values ++ w.value ∷ []))) < 1000000
  pub depth : deepest (plains (vals (values ++ w.value ∷ []))) < 400
  pub cost : n + w.cost < 1000000
  pub height : w.height < 400

-- the tree is a `with`, and these are its names and texts
pub record IsScope (t : WideTree) (base : List ℕ) (s : Settings) : Type 0 where
  pub texts : TextSettings
  pub inner : WideTree
  pub opens : openness t ≡ With texts inner
  pub are : AreSettings base texts s
