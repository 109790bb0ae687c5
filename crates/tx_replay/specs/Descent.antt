-- Which trees are gone into.
use Rattle.std.specs.Prelude.{◌≡◌, ◌<◌, ℕ, Bool, true, false, List, map}
use Rattle.tx_tree.specs.WideTree.{WideTree, leaf, children_of}
use Rattle.tx_env.specs.Pairs.{Name}
use Rattle.tx_origin.specs.Under.{value_under}
use Rattle.tx_parts.specs.Openness.{Settings as TextSettings, Document, With, Shut, openness}
use Rattle.tx_parts.specs.Composed.{settings_cost, setting_values}
use Rattle.tx_replay.specs.declared.descent.Descent.{Descent}
use Rattle.tx_replay.specs.declared.descent.Descent.TheVariants as descents
use Rattle.tx_replay.specs.declared.settings.Settings.{Settings}

-- this is how the tree is gone into
abbrev pub Descends : WideTree → Descent → Type 0
Descends t descents.Document = openness t ≡ Document (children_of t)
Descends t descents.With = (ps : TextSettings) × (b : WideTree) × (openness t ≡ With ps b)
Descends t descents.Shut = openness t ≡ Shut

abbrev pub pairs_of : TextSettings → List (Name × WideTree)
pairs_of ps = map (λ p. (p.0, leaf p.1)) ps

-- what a `with` sets: the names with their texts, the values of both under the path, and what these cost
pub record AreSettings (base : List ℕ) (ps : TextSettings) (s : Settings) : Type 0 where
  pub pairs : s.pairs.items ≡ pairs_of ps
  pub values : s.values.items ≡ map (value_under base) (setting_values 0 ps)
  pub cost : s.cost ≡ settings_cost ps

-- they cost no more than this, or more
abbrev pub SettingsFit : ℕ → List ℕ → TextSettings → Settings → Bool → Type 0
SettingsFit left base ps s true = AreSettings base ps s
SettingsFit left base ps s false = left < settings_cost ps

-- the tree is a `with`, and these are its names and texts
pub record IsScope (t : WideTree) (base : List ℕ) (s : Settings) : Type 0 where
  pub texts : TextSettings
  pub inner : WideTree
  pub opens : openness t ≡ With texts inner
  pub are : AreSettings base texts s
