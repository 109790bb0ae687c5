-- The steps through the names and trees of a layer.
use Rattle.std.specs.Prelude.{◌≡◌, ℕ, ◌+◌, ◌*◌, ◌-◌, nat_le, if◌then◌else◌, Bool, true, false, List, [], ◌∷◌, ◌++◌, map}
use Rattle.std.specs.Prelude.{length, Option, Some, None}
use Rattle.std.specs.FinMap.{empty}
use Rattle.tx_tree.specs.WideTree.{WideTree, leaf, size_of, nodes_of}
use Rattle.tx_env.specs.Pairs.{Name}
use Rattle.tx_env.specs.Environments.{Environment}
use Rattle.tx_origin.specs.Values.{text, plain}
use Rattle.tx_exec_form.specs.Runs.{Before}
use Rattle.tx_exec_form.specs.Evaluated.{WideTrace, paid}
use Rattle.tx_exec.specs.States.{before_of}
use Rattle.tx_parts.specs.Atop.{env_atop}
use Rattle.tx_parts.specs.Shells.{Layer, in_turn}
use Rattle.tx_parts.specs.Composed.{SoFar, nothing_yet, children_from}
use Rattle.tx_parts.specs.Layered.{evaluates_bare, layer_pairs}
use Rattle.tx_parts.specs.LayerCosts.{Holder, TreeMeasure, set_nodes, tree_counts_from}
use Rattle.tx_walk.specs.declared.layers.LayerSoFar.{LayerSoFar}
use Rattle.tx_walk.specs.LayerTraces.{DoneSetting, AllHeldBy}
use Rattle.tx_walk.specs.Steps.{so_far_of, joined_with}

-- ---- what names and values are

-- the trace of a text without an origin
abbrev pub name_trace : Name → WideTrace
name_trace x = record { value = text x None; looks = empty; writes = empty; cost = 1 + length x; height = 1 }

-- with c steps
abbrev pub name_outcome : ℕ → Name → Option WideTrace
name_outcome c x = if nat_le (1 + length x) c then Some (name_trace x) else None

-- the name with the tree of its value
abbrev pub pair_of_setting : DoneSetting → Name × WideTree
pair_of_setting s = (s.name, plain s.done.trace.value)

abbrev pub pairs_of_settings : List DoneSetting → List (Name × WideTree)
pairs_of_settings ss = map pair_of_setting ss

-- the nodes of what the name is set to, where the tree wasn't held
abbrev pub nodes_left : DoneSetting → ℕ
nodes_left s = if s.held then 0 else nodes_of (plain s.done.trace.value)

abbrev pub new_nodes : List DoneSetting → ℕ
new_nodes [] = 0
new_nodes (s ∷ ss) = nodes_left s + new_nodes ss

abbrev pub set_sizes : List (Name × WideTree) → ℕ
set_sizes [] = 0
set_sizes (p ∷ ps) = size_of p.1 + set_sizes ps

-- ---- steps

-- after some names and trees: what they evaluated to, what each name is to be set to, what names have, and the steps
-- counted
pub record LayerStage : Type 0 where
  pub joined : SoFar
  pub settings : List DoneSetting
  pub names : Before
  pub count : ℕ

abbrev pub stage_in : LayerSoFar → Environment → ℕ → LayerStage
stage_in l env count =
    record { joined = so_far_of l.joined; settings = l.settings.items; names = before_of env; count = count }

-- the tree t with this trace, to whose value x is to be set, and whether it was held
abbrev pub setting_of : Holder → Name → WideTree → Before → WideTrace → DoneSetting
setting_of held x t e trace =
    record { name = x; done = record { tree = t; trace = trace }; held = held t e }

-- the tree t is done, to whose value x is to be set
pub record TreeDone (held : Holder) (k c : ℕ) (x : Name) (t : WideTree) (s s1 : LayerStage) : Type 0 where
  pub trace : WideTrace
  pub comes : evaluates_bare k (c - s.joined.cost) t s.names ≡ Some trace
  pub joined : s1.joined ≡ joined_with s.joined trace
  pub settings : s1.settings ≡ s.settings ++ setting_of held x t s.names trace ∷ []
  pub names : s1.names ≡ env_atop trace.writes s.names
  pub count : s1.count ≡ s.count + (if held t s.names then 0 else trace.cost)

-- it runs out
pub record TreeOver (held : Holder) (k c : ℕ) (t : WideTree) (s s1 : LayerStage) : Type 0 where
  pub comes : evaluates_bare k (c - s.joined.cost) t s.names ≡ None
  pub count : s1.count ≡ s.count + (if held t s.names then 0 else c - s.joined.cost)

abbrev pub TreeComes : Holder → ℕ → ℕ → Name → WideTree → LayerStage → LayerStage → Bool → Type 0
TreeComes held k c x t s s1 true = TreeDone held k c x t s s1
TreeComes held k c x t s s1 false = TreeOver held k c t s s1

-- with the name x more
abbrev pub behind_name : Name → LayerStage → LayerStage
behind_name x s = record s { joined = joined_with s.joined (name_trace x) }

-- the name is done, and so is the tree
pub record SettingDone (held : Holder) (k c : ℕ) (x : Name) (t : WideTree) (s s1 : LayerStage) : Type 0 where
  pub named : evaluates_bare k (c - s.joined.cost) (leaf x) s.names ≡ Some (name_trace x)
  pub done : TreeDone held k c x t (behind_name x s) s1

-- one of them runs out
pub data SettingOver (held : Holder) (k c : ℕ) (x : Name) (t : WideTree) (s s1 : LayerStage) : Type 0 where
  at_name : evaluates_bare k (c - s.joined.cost) (leaf x) s.names ≡ None → s1.count ≡ s.count →
      SettingOver held k c x t s s1
  at_tree : evaluates_bare k (c - s.joined.cost) (leaf x) s.names ≡ Some (name_trace x) →
      TreeOver held k c t (behind_name x s) s1 → SettingOver held k c x t s s1

abbrev pub SettingComes : Holder → ℕ → ℕ → Name → WideTree → LayerStage → LayerStage → Bool → Type 0
SettingComes held k c x t s s1 true = SettingDone held k c x t s s1
SettingComes held k c x t s s1 false = SettingOver held k c x t s s1

-- all names and trees of a layer are done
pub record LayerDone (held : Holder) (k c : ℕ) (l : Layer) (s s1 : LayerStage) : Type 0 where
  pub comes : children_from (evaluates_bare k) c 0 nothing_yet (in_turn l.names l.trees) s.names ≡ Some s1.joined
  pub settings : pairs_of_settings s1.settings ≡ layer_pairs l.names s1.joined.values
  pub names : s1.names ≡ env_atop s1.joined.writes s.names
  pub count : s1.count ≡ s.count + tree_counts_from held paid k c 0 nothing_yet l.names l.trees s.names
  pub nodes : new_nodes s1.settings ≡ tree_counts_from held set_nodes k c 0 nothing_yet l.names l.trees s.names
  pub known : (more : Holder) (measure : TreeMeasure) → AllHeldBy more s1.settings →
      tree_counts_from more measure k c 0 nothing_yet l.names l.trees s.names ≡ 0
  pub many : length s1.joined.values ≡ 2 * length l.names

-- one of them runs out
pub record LayerOver (held : Holder) (k c : ℕ) (l : Layer) (s s1 : LayerStage) : Type 0 where
  pub comes : children_from (evaluates_bare k) c 0 nothing_yet (in_turn l.names l.trees) s.names ≡ None
  pub count : s1.count ≡ s.count + tree_counts_from held paid k c 0 nothing_yet l.names l.trees s.names

abbrev pub LayerComes : Holder → ℕ → ℕ → Layer → LayerStage → LayerStage → Bool → Type 0
LayerComes held k c l s s1 true = LayerDone held k c l s s1
LayerComes held k c l s s1 false = LayerOver held k c l s s1
