-- What layers cost, of the tags with shells on the way to a tree's parts. Counted are the costs of the layers' trees
-- that aren't held, and a step for each node of their values, to which names are set. The names aren't counted, nor are
-- the tags and the nodes of the layers themselves.
use Rattle.std.specs.Prelude.{ℕ, zero, suc, ◌+◌, ◌-◌, ◌≡◌, nat_le, Bool, true, false, if◌then◌else◌, List, [], ◌∷◌}
use Rattle.std.specs.Prelude.{Option, Some, None}
use Rattle.std.specs.Option.{option_map_or}
use Rattle.tx_tree.specs.WideTree.{WideTree, leaf, nodes_of}
use Rattle.tx_env.specs.Pairs.{Name}
use Rattle.tx_origin.specs.Values.{plain}
use Rattle.tx_exec_form.specs.Runs.{Before}
use Rattle.tx_exec_form.specs.Evaluated.{WideTrace, paid}
use Rattle.tx_exec_form.specs.Laws.{Agrees}
use Rattle.tx_parts.specs.Atop.{env_atop}
use Rattle.tx_parts.specs.Openness.{Openness, Document, With, Shut}
use Rattle.tx_parts.specs.Shells.{Layer}
use Rattle.tx_parts.specs.Opening.{Sheller, Opening, ByTree, ByShell, opening}
use Rattle.tx_parts.specs.Composed.{evaluates, SoFar, nothing_yet, with_child, set_by, settings_cost}
use Rattle.tx_parts.specs.Layered.{evaluates_bare, layer_values, layer_cost, inside_layer}

-- ---- what is held

-- whether the value of a layer's tree is held, where names have this
abbrev pub Holder : Type 0
Holder = WideTree → Before → Bool

abbrev pub holds_nothing : Holder
holds_nothing t e = false

-- the second holds whatever the first does
abbrev pub HoldsMore : Holder → Holder → Type 0
HoldsMore held more = (t : WideTree) (e : Before) → held t e ≡ true → more t e ≡ true

-- a tree that is held and has a trace is held in each environment that agrees with the trace's looks
abbrev pub StaysHeld : Holder → Type 0
StaysHeld held = (k c : ℕ) (t : WideTree) (e d : Before) (trace : WideTrace) → held t e ≡ true →
    evaluates_bare k c t e ≡ Some trace → Agrees d trace.looks → held t d ≡ true

-- ---- a layer

-- what is counted of a tree with so many steps, by its trace
abbrev pub TreeMeasure : Type 0
TreeMeasure = ℕ → Option WideTrace → ℕ

-- the nodes of what a name is set to
abbrev pub set_nodes : TreeMeasure
set_nodes c None = 0
set_nodes c (Some trace) = nodes_of (plain trace.value)

-- in a tree of a layer after those before, unless it is held, and in those after it
abbrev pub tree_counts : Holder → TreeMeasure → ℕ → ℕ → ℕ → SoFar → WideTree → (SoFar → ℕ) → Before → ℕ
tree_counts held measure k c i a t rest e =
    (if held t (env_atop a.writes e) then 0
    else measure (c - a.cost) (evaluates_bare k (c - a.cost) t (env_atop a.writes e)))
    + option_map_or (λ trace. rest (with_child i a trace))
    (evaluates_bare k (c - a.cost) t (env_atop a.writes e)) 0

-- in the trees from here on, each after its name, which is the child of number i
abbrev pub tree_counts_from : Holder → TreeMeasure → ℕ → ℕ → ℕ → SoFar → List Name → List WideTree → Before → ℕ
tree_counts_from held measure k c i a [] ts e = 0
tree_counts_from held measure k c i a (x ∷ xs) [] e = 0
tree_counts_from held measure k c i a (x ∷ xs) (t ∷ ts) e =
    option_map_or (λ name. tree_counts held measure k c (i + 1) (with_child i a name) t
    (λ b. tree_counts_from held measure k c (i + 1 + 1) b xs ts e) e)
    (evaluates_bare k (c - a.cost) (leaf x) (env_atop a.writes e)) 0

-- what the trees of a layer cost: all steps that are left for a tree that runs out
abbrev pub layer_tree_costs : Holder → ℕ → Layer → ℕ → Before → ℕ
layer_tree_costs held k l c e = tree_counts_from held paid k (c - 1) 0 nothing_yet l.names l.trees e

-- the nodes of what its names are set to
abbrev pub layer_set_nodes : Holder → ℕ → Layer → ℕ → Before → ℕ
layer_set_nodes held k l c e = tree_counts_from held set_nodes k (c - 1) 0 nothing_yet l.names l.trees e

-- ---- layers, and any tree

-- what is counted in a tree with so many steps in an environment
abbrev pub Counter : Type 0
Counter = ℕ → WideTree → Before → ℕ

-- what is counted in the children from number i on, after the traces of the earlier ones
abbrev pub counts_from : ℕ → Counter → ℕ → ℕ → SoFar → List WideTree → Before → ℕ
counts_from k counter c i a [] e = 0
counts_from k counter c i a (t ∷ ts) e =
    counter (c - a.cost) t (env_atop a.writes e)
    + option_map_or (λ trace. counts_from k counter c (i + 1) (with_child i a trace) ts e)
    (evaluates k (c - a.cost) t (env_atop a.writes e)) 0

-- what is counted by the form of a tree, where the inner trees have k of `suc k` levels
abbrev pub counts_as : Openness → ℕ → Counter → Counter
counts_as (Document ts) k counter c t e = counts_from k counter (c - 1) 0 nothing_yet ts e
counts_as (With ps b) k counter c t e = counter (c - (1 + settings_cost ps)) b (env_atop (set_by ps) e)
counts_as Shut k counter c t e = 0

-- what is counted in a tree in layers, and what their trees cost
abbrev pub LayerCounter : Type 0
LayerCounter = List Layer → Counter

-- after the trees of a layer: nothing, where what the layer costs isn't allowed
abbrev pub costs_inside : Holder → ℕ → Layer → SoFar → Counter → Counter
costs_inside held k l a inside c t e =
    if nat_le (layer_cost l.names a) c
    then layer_set_nodes held k l c e + inside (c - layer_cost l.names a) t (inside_layer l.names a e)
    else 0

abbrev pub costs_layers : Holder → ℕ → Counter → LayerCounter → LayerCounter
costs_layers held k counter inside [] c t e = counter (c - 1) t e
costs_layers held k counter inside (l ∷ ls) c t e =
    layer_tree_costs held k l c e
    + option_map_or (λ a. costs_inside held k l a (inside ls) c t e) (layer_values k l c e) 0

abbrev pub costs_opened : Opening → ℕ → Counter → LayerCounter → Counter
costs_opened (ByTree o) k counter inside c t e = counts_as o k counter c t e
costs_opened (ByShell shell u) k counter inside c t e = inside shell.layers (c - 1) u e

-- with k levels
unfoldable mutual
  pub layer_costs_by : Holder → Sheller → ℕ → Counter
  layer_costs_by held sheller zero c t e = 0
  layer_costs_by held sheller (suc k) c t e =
      costs_opened (opening sheller t e) k (layer_costs_by held sheller k) (layer_costs_in held sheller k) c t e

  pub layer_costs_in : Holder → Sheller → ℕ → LayerCounter
  layer_costs_in held sheller zero ls c t e = 0
  layer_costs_in held sheller (suc k) ls c t e =
      costs_layers held k (layer_costs_by held sheller k) (layer_costs_in held sheller k) ls c t e
