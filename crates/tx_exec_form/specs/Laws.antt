-- What is true of each trace.
use Rattle.std.specs.Prelude.{◌≡◌, ◌≤◌, ◌<◌, ◌⊎◌, ℕ, List, ◌++◌, Option, Some, None}
use Rattle.std.specs.FinMap.{get}
use Rattle.tx_tree.specs.WideTree.{WideTree, leaf}
use Rattle.tx_tree.specs.Paths.{subtree}
use Rattle.tx_origin.specs.Values.{WideValue, WideValues, text, made, none, also}
use Rattle.tx_origin.specs.TaggedTrees.{TaggedTree}
use Rattle.tx_env.specs.Pairs.{Name}
use Rattle.tx_exec_form.specs.Maps.{LookMap}
use Rattle.tx_exec_form.specs.Runs.{Before}
use Rattle.tx_exec_form.specs.Evaluated.{WideTrace, evaluated_in}

-- Each name of the looks has what they say.
abbrev pub Agrees : Before → LookMap → Type 0
Agrees e looks = (x : Name) (found : Option WideTree) → get looks x ≡ Some found → e x ≡ found

-- In every environment that agrees with its looks this is the trace of the tree, wherever its cost and its height are
-- allowed.
abbrev pub Supports : WideTrace → TaggedTree → Type 0
Supports trace t = (k c : ℕ) (e : Before) → Agrees e trace.looks → trace.cost ≤ c → trace.height ≤ k →
    evaluated_in k c t e ≡ Some trace

-- Whatever trace the tree has where names have this, its cost passes c or its height passes k.
abbrev pub IsPast : ℕ → ℕ → TaggedTree → Before → Type 0
IsPast k c t e = (trace : WideTrace) → Supports trace t → Agrees e trace.looks → (c < trace.cost) ⊎ (k < trace.height)

-- The origin is the root's with a path after it, which leads to a subtree of which P is true.
pub record LeadsIn (root : TaggedTree) (origin : List ℕ) (P : WideTree → Type 0) : Type 0 where
  pub base : List ℕ
  pub path : List ℕ
  pub there : WideTree
  pub is_base : root.at ≡ Some base
  pub is_behind : origin ≡ base ++ path
  pub leads : subtree root.tree path ≡ Some there
  pub holds : P there

-- where there is an origin
abbrev pub LeadsTo : TaggedTree → Option (List ℕ) → (WideTree → Type 0) → Type 0
LeadsTo root None P = Unit {0}
LeadsTo root (Some origin) P = LeadsIn root origin P

-- Each text that has an origin is the text that is there, and the origin of each node leads in the tree.
abbrev mutual
  pub ComesFrom : TaggedTree → WideValue → Type 0
  ComesFrom root (text words at) = LeadsTo root at (λ u. u ≡ leaf words)
  ComesFrom root (made label parts at) = LeadsTo root at (λ u. Unit {0}) × AllComeFrom root parts

  pub AllComeFrom : TaggedTree → WideValues → Type 0
  AllComeFrom root none = Unit {0}
  AllComeFrom root (also v vs) = ComesFrom root v × AllComeFrom root vs
