-- The trace of a tag with a shell, composed of those of its layers' trees and of the child inside them. And the trace
-- of any open tree, where some have shells.
use Rattle.std.specs.Prelude.{ℕ, zero, suc, ◌+◌, ◌-◌, max, nat_le, if◌then◌else◌, List, [], ◌∷◌, ◌++◌, Option, Some}
use Rattle.std.specs.Prelude.{None, option_and_then, codes}
use Rattle.std.specs.Option.{option_map}
use Rattle.std.specs.FinMap.{empty}
use Rattle.tx_tree.specs.WideTree.{WideTree, leaf, node}
use Rattle.tx_env.specs.Pairs.{Name}
use Rattle.tx_env.specs.Environments.{NameMap, overlaid}
use Rattle.tx_origin.specs.Values.{WideValue, made, vals, plain}
use Rattle.tx_exec_form.specs.Maps.{LookMap, noted}
use Rattle.tx_exec_form.specs.Runs.{Before}
use Rattle.tx_exec_form.specs.Rows.{Sets, sizes}
use Rattle.tx_exec_form.specs.Evaluated.{WideTrace, evaluated_in}
use Rattle.tx_parts.specs.Atop.{atop, env_atop, past, both_looks}
use Rattle.tx_origin.specs.Under.{value_under}
use Rattle.tx_parts.specs.Shells.{Layer, bare, in_turn}
use Rattle.tx_parts.specs.Opening.{Sheller, no_shells, Opening, ByTree, ByShell, opening}
use Rattle.tx_parts.specs.Composed.{Tracer, evaluates, SoFar, nothing_yet, children_from, composed_as}

-- ---- a layer

-- a tree without an origin, with k levels
abbrev pub evaluates_bare : ℕ → Tracer
evaluates_bare k c t e = evaluated_in k c (bare t) e

-- what the names and the trees of a layer evaluate to, in order
abbrev pub layer_values : ℕ → Layer → ℕ → Before → Option SoFar
layer_values k l c e = children_from (evaluates_bare k) (c - 1) 0 nothing_yet (in_turn l.names l.trees) e

-- the names with the values of their trees: of the values each second one
abbrev pub layer_pairs : List Name → List WideValue → List (Name × WideTree)
layer_pairs [] vs = []
layer_pairs (x ∷ xs) [] = []
layer_pairs (x ∷ xs) (name ∷ []) = []
layer_pairs (x ∷ xs) (name ∷ v ∷ vs) = (x, plain v) ∷ layer_pairs xs vs

abbrev pub as_sets : List (Name × WideTree) → Sets
as_sets [] = []
as_sets (p ∷ ps) = (p.0, Some p.1) ∷ as_sets ps

-- what the layer sets
abbrev pub layer_sets : List Name → SoFar → NameMap
layer_sets xs a = overlaid empty (layer_pairs xs a.values)

-- the steps of the node, of the names and trees, and of what is stored
abbrev pub layer_cost : List Name → SoFar → ℕ
layer_cost xs a = 1 + a.cost + sizes (as_sets (layer_pairs xs a.values))

-- what names have inside: what the layer sets overrides what its trees have set
abbrev pub inside_layer : List Name → SoFar → Before → Before
inside_layer xs a e = env_atop (layer_sets xs a) (env_atop a.writes e)

-- The trees' looks and writes are those of the whole, and those from inside at names that the layer doesn't set.
abbrev pub layer_trace : List Name → SoFar → WideTrace → WideTrace
layer_trace xs a trace = record {
  value = made (codes "with") (vals (a.values ++ trace.value ∷ [])) None;
  looks = both_looks a.looks a.writes (past (layer_sets xs a) trace.looks);
  writes = atop (past (layer_sets xs a) trace.writes) a.writes;
  cost = layer_cost xs a + trace.cost;
  height = 1 + max a.height trace.height;
}

-- ---- layers

-- traces of a tree in layers, which is the child of this number
abbrev pub LayerTracer : Type 0
LayerTracer = List Layer → ℕ → Tracer

-- round the child a level and a step more
abbrev pub child_trace : ℕ → WideTrace → WideTrace
child_trace i trace = record {
  value = value_under (i ∷ []) trace.value;
  looks = trace.looks;
  writes = trace.writes;
  cost = 1 + trace.cost;
  height = 1 + trace.height;
}

abbrev pub layer_composed : List Name → SoFar → Tracer → Tracer
layer_composed xs a tracer c t e =
    if nat_le (layer_cost xs a) c
    then option_map (layer_trace xs a) (tracer (c - layer_cost xs a) t (inside_layer xs a e))
    else None

-- the trace of layers, where what is inside has k of `suc k` levels
abbrev pub composed_layers : ℕ → Tracer → LayerTracer → LayerTracer
composed_layers k tracer inside [] i c t e =
    if nat_le 1 c then option_map (child_trace i) (tracer (c - 1) t e) else None
composed_layers k tracer inside (l ∷ ls) i c t e =
    option_and_then (λ a. layer_composed l.names a (inside ls i) c t e) (layer_values k l c e)

-- where the child is evaluated
unfoldable pub evaluates_in : ℕ → LayerTracer
evaluates_in zero ls i c t e = None
evaluates_in (suc k) ls i c t e = composed_layers k (evaluates k) (evaluates_in k) ls i c t e

-- ---- the tag, and any tree

-- the look at the label
abbrev pub label_look : WideTree → Before → LookMap
label_look (leaf words) e = empty
label_look (node label ts) e = noted empty label (e label)

abbrev pub shell_trace : WideTree → Before → WideTrace → WideTrace
shell_trace t e trace = record {
  value = trace.value;
  looks = atop (label_look t e) trace.looks;
  writes = trace.writes;
  cost = 1 + trace.cost;
  height = 1 + trace.height;
}

-- the trace of an open tree, where the inner trees and the outer layer have k of `suc k` levels
abbrev pub composed_opened : Opening → ℕ → Tracer → LayerTracer → Tracer
composed_opened (ByTree o) k tracer inside c t e = composed_as o k tracer c t e
composed_opened (ByShell shell u) k tracer inside c t e =
    if nat_le 1 c then option_map (shell_trace t e) (inside shell.layers shell.inner (c - 1) u e) else None

-- The trace of a tree with k levels, where only trees that aren't open are evaluated, and the trees of layers.
unfoldable mutual
  pub composed_by : Sheller → ℕ → Tracer
  composed_by sheller zero c t e = None
  composed_by sheller (suc k) c t e =
      composed_opened (opening sheller t e) k (composed_by sheller k) (composed_in sheller k) c t e

  pub composed_in : Sheller → ℕ → LayerTracer
  composed_in sheller zero ls i c t e = None
  composed_in sheller (suc k) ls i c t e =
      composed_layers k (composed_by sheller k) (composed_in sheller k) ls i c t e

-- where nothing has a shell
abbrev pub composed : ℕ → Tracer
composed k = composed_by no_shells k
