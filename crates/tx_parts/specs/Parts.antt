-- The parts of a tree: the trees that aren't open, at the end of each way through inner trees.
use Rattle.std.specs.Prelude.{◌≡◌, ℕ, zero, suc, ◌+◌, ◌*◌, ◌-◌, List, [], ◌∷◌, ◌++◌, length, Option, Some}
use Rattle.std.specs.Option.{option_map_or}
use Rattle.tx_tree.specs.WideTree.{WideTree}
use Rattle.tx_exec_form.specs.Runs.{Before}
use Rattle.tx_exec_form.specs.Evaluated.{WideTrace, paid}
use Rattle.tx_parts.specs.Atop.{env_atop}
use Rattle.tx_parts.specs.Openness.{Openness, Document, With, Shut}
use Rattle.tx_parts.specs.Shells.{Layer}
use Rattle.tx_parts.specs.Opening.{Sheller, no_shells, Opening, ByTree, ByShell, opening}
use Rattle.tx_parts.specs.Composed.{evaluates, SoFar, nothing_yet, with_child, set_by, settings_cost}
use Rattle.tx_parts.specs.Layered.{layer_values, layer_cost, inside_layer}

-- its path, its tree, the levels and steps that it has, and what names have before it
pub record Part : Type 0 where
  pub path : List ℕ
  pub tree : WideTree
  pub levels : ℕ
  pub steps : ℕ
  pub before : Before

-- its trace alone
abbrev pub part_trace : Part → Option WideTrace
part_trace p = evaluates p.levels p.steps p.tree p.before

-- it doesn't run out of steps or levels
abbrev pub HasTrace : Part → Type 0
HasTrace p = (trace : WideTrace) × (part_trace p ≡ Some trace)

-- what is stored of a part: its path, and its trace, or None where it runs out
pub record Stored : Type 0 where
  pub path : List ℕ
  pub trace : Option WideTrace

abbrev pub stored_part : Part → Stored
stored_part p = record { path = p.path; trace = part_trace p }

-- what it costs, or all its steps where it runs out
abbrev pub part_cost : Part → ℕ
part_cost p = paid p.steps (part_trace p)

-- the parts of a tree at a path, with so many steps in an environment
abbrev pub Finder : Type 0
Finder = ℕ → List ℕ → WideTree → Before → List Part

-- the parts of the children from number i on, after the traces of the earlier ones
abbrev pub parts_from : ℕ → Finder → ℕ → List ℕ → ℕ → SoFar → List WideTree → Before → List Part
parts_from k finder c path i a [] e = []
parts_from k finder c path i a (t ∷ ts) e =
    finder (c - a.cost) (path ++ i ∷ []) t (env_atop a.writes e)
    ++ option_map_or (λ trace. parts_from k finder c path (i + 1) (with_child i a trace) ts e)
    (evaluates k (c - a.cost) t (env_atop a.writes e)) []

-- the parts of a tree by its form, where the inner trees have k of `suc k` levels
abbrev pub parts_as : Openness → ℕ → Finder → Finder
parts_as (Document ts) k finder c path t e = parts_from k finder (c - 1) path 0 nothing_yet ts e
parts_as (With ps b) k finder c path t e =
    finder (c - (1 + settings_cost ps)) (path ++ (2 * length ps) ∷ []) b (env_atop (set_by ps) e)
parts_as Shut k finder c path t e =
    record { path = path; tree = t; levels = suc k; steps = c; before = e } ∷ []

-- the parts of a tree in layers, which is the child of this number
abbrev pub LayerFinder : Type 0
LayerFinder = List Layer → ℕ → Finder

abbrev pub parts_layers : ℕ → Finder → LayerFinder → LayerFinder
parts_layers k finder inside [] i c path t e = finder (c - 1) (path ++ i ∷ []) t e
parts_layers k finder inside (l ∷ ls) i c path t e =
    option_map_or (λ a. inside ls i (c - layer_cost l.names a) path t (inside_layer l.names a e))
    (layer_values k l c e) []

abbrev pub parts_opened : Opening → ℕ → Finder → LayerFinder → Finder
parts_opened (ByTree o) k finder inside c path t e = parts_as o k finder c path t e
parts_opened (ByShell shell u) k finder inside c path t e = inside shell.layers shell.inner (c - 1) path u e

-- with k levels
unfoldable mutual
  pub parts_by : Sheller → ℕ → Finder
  parts_by sheller zero c path t e = []
  parts_by sheller (suc k) c path t e =
      parts_opened (opening sheller t e) k (parts_by sheller k) (parts_in sheller k) c path t e

  pub parts_in : Sheller → ℕ → LayerFinder
  parts_in sheller zero ls i c path t e = []
  parts_in sheller (suc k) ls i c path t e =
      parts_layers k (parts_by sheller k) (parts_in sheller k) ls i c path t e

-- where nothing has a shell
abbrev pub parts : ℕ → Finder
parts k = parts_by no_shells k
