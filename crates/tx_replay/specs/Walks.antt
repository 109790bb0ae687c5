-- The walk of a tree by its parts. It goes on from the state of an evaluation, as evaluation itself does. But of a tree
-- that isn't open the trace alone is used.
use Rattle.std.specs.Prelude.{ℕ, zero, suc, ◌+◌, ◌-◌, ◌*◌, List, [], ◌∷◌, ◌++◌, length, map, Option, Some, None, codes}
use Rattle.tx_tree.specs.WideTree.{WideTree, leaf, node, nodes_of}
use Rattle.tx_env.specs.Pairs.{Name}
use Rattle.tx_origin.specs.Values.{WideValue, made, vals, plain}
use Rattle.tx_origin.specs.Under.{value_under}
use Rattle.tx_exec_form.specs.Runs.{Before, State, Ran, Over, Done, Run, pay}
use Rattle.tx_exec_form.specs.Frames.{top}
use Rattle.tx_exec_form.specs.Rows.{Sets, ex, sizes, set_all}
use Rattle.tx_exec_form.specs.Evaluated.{WideTrace}
use Rattle.tx_parts.specs.Atop.{env_atop}
use Rattle.tx_parts.specs.Adding.{after_part}
use Rattle.tx_parts.specs.Openness.{Settings, Openness, Document, With, Shut}
use Rattle.tx_parts.specs.Shells.{Layer, bare}
use Rattle.tx_parts.specs.Opening.{Opening, ByTree, ByShell, opening}
use Rattle.tx_parts.specs.Composed.{evaluates, setting_values}
use Rattle.tx_parts.specs.Parts.{Part, part_trace, parts_by}
use Rattle.tx_replay.specs.Held.{Stores, charge_of}
use Rattle.tx_replay.specs.Seen.{Seen, seen_in, Guide, charged}
use Rattle.tx_replay.specs.OpenRows.{entered, names_set, settings_set, label_looked}

-- the state of the evaluation, the parts that are done, and the steps counted
pub record Stage : Type 0 where
  pub state : State
  pub done : List Seen
  pub count : ℕ

-- It runs out, with so many steps counted, or it goes on.
pub data Walked (A : Type 0) : Type 0 where
  Stopped : (count : ℕ) → Walked A
  Went : A → Stage → Walked A

abbrev pub Walk : Type 0 → Type 0
Walk A = Before → Stage → Walked A

abbrev pub on_went : {A B : Type 0} → Before → (A → Walk B) → Walked A → Walked B
on_went e f (Stopped n) = Stopped n
on_went e f (Went a s) = f a e s

infixl 10 ◌>>=◌
abbrev pub ◌>>=◌ : {A B : Type 0} → Walk A → (A → Walk B) → Walk B
m >>= f = λ e s. on_went e f (m e s)

infixl 10 ◌>>◌
abbrev pub ◌>>◌ : {A B : Type 0} → Walk A → Walk B → Walk B
m >> n = m >>= λ _. n

abbrev pub went : {A : Type 0} → A → Walk A
went a = λ e s. Went a s

abbrev pub stopped : {A : Type 0} → Walk A
stopped = λ e s. Stopped s.count

-- what evaluates without parts, and without steps that are counted
abbrev pub moved : {A : Type 0} → Stage → Ran A → Walked A
moved s Over = Stopped s.count
moved s (Done a z) = Went a (record s { state = z })

abbrev pub plainly : {A : Type 0} → Run A → Walk A
plainly m = λ e s. moved s (m e s.state)

-- ---- parts

-- after a tree with this trace, which had k levels. These are its parts, and so much is counted.
abbrev pub told : ℕ → List ℕ → Stage → List Seen → ℕ → Option WideTrace → Walked WideValue
told k path s ps n None = Stopped (s.count + n)
told k path s ps n (Some trace) = Went (value_under path trace.value) (record {
  state = after_part k s.state trace;
  done = s.done ++ ps;
  count = s.count + n;
})

-- a tree as the part that it is, with k levels
abbrev pub as_part : ℕ → List ℕ → WideTree → Before → State → Part
as_part k path t e s = record { path = path; tree = t; levels = k; steps = s.left; before = env_atop s.own e }

abbrev pub part_told : Stores → Stage → Part → Walked WideValue
part_told kept s p = told p.levels p.path s (seen_in kept p ∷ []) (charge_of kept p) (part_trace p)

unfoldable pub part_walk : Stores → ℕ → List ℕ → WideTree → Walk WideValue
part_walk kept k path t = λ e s. part_told kept s (as_part k path t e s.state)

-- ---- open trees

-- the walk of a tree at a path
abbrev pub Walker : Type 0
Walker = List ℕ → WideTree → Walk WideValue

-- of the children from number i on, after the values so far
abbrev pub children_walk : Walker → List ℕ → ℕ → List WideValue → List WideTree → Walk (List WideValue)
children_walk walker path i vs [] = went vs
children_walk walker path i vs (t ∷ ts) = do
  v ← walker (path ++ i ∷ []) t
  children_walk walker path (i + 1) (vs ++ v ∷ []) ts

unfoldable pub document_walk : ℕ → Walker → List ℕ → List WideTree → Walk WideValue
document_walk k walker path ts = do
  plainly (entered k)
  vs ← children_walk walker path 0 [] ts
  went (made (codes "document") (vals vs) (Some path))

-- the inner tree with what was set set back after it
unfoldable pub inner_walk : Walker → List ℕ → WideTree → Sets → Walk WideValue
inner_walk walker path t old = do
  v ← walker path t
  plainly (set_all old)
  went v

-- the values of the names and texts of a `with` at a path
abbrev pub settings_under : List ℕ → Settings → List WideValue
settings_under path ps = map (value_under path) (setting_values 0 ps)

unfoldable pub with_walk : ℕ → Walker → List ℕ → Settings → WideTree → Walk WideValue
with_walk k walker path ps b = do
  old ← plainly (settings_set k ps)
  v ← inner_walk walker (path ++ (2 * length ps) ∷ []) b old
  went (made (codes "with") (vals (settings_under path ps ++ v ∷ [])) (Some path))

-- by the form of the tree, which has `suc k` levels
abbrev pub walk_as : Openness → Stores → ℕ → Walker → Walker
walk_as (Document ts) kept k walker path t = document_walk (suc k) walker path ts
walk_as (With ps b) kept k walker path t = with_walk (suc k) walker path ps b
walk_as Shut kept k walker path t = part_walk kept (suc k) path t

-- ---- layers

-- as evaluation does, with the steps counted that it takes
abbrev pub spent : {A : Type 0} → Stage → Ran A → Walked A
spent s Over = Stopped (s.count + s.state.left)
spent s (Done a z) = Went a (record { state = z; done = s.done; count = s.count + (s.state.left - z.left) })

unfoldable pub counted : {A : Type 0} → Run A → Walk A
counted m = λ e s. spent s (m e s.state)

-- so many steps are counted
unfoldable pub count_more : ℕ → Walk (Unit {0})
count_more n = λ e s. Went tt (record s { count = s.count + n })

-- the values of a layer's names and trees, and what its names are to have
pub record LayerValues : Type 0 where
  pub values : List WideValue
  pub sets : Sets

-- a name and the tree after it, after those so far
abbrev pub setting_done : LayerValues → Name → WideValue → WideValue → LayerValues
setting_done a x name v =
    record { values = a.values ++ name ∷ v ∷ []; sets = a.sets ++ (x, Some (plain v)) ∷ [] }

unfoldable pub setting_walk : ℕ → LayerValues → Name → WideTree → Walk LayerValues
setting_walk k a x t = do
  name ← plainly (ex k (bare (leaf x)) top)
  v ← counted (ex k (bare t) top)
  went (setting_done a x name v)

abbrev pub values_walk : ℕ → LayerValues → List Name → List WideTree → Walk LayerValues
values_walk k a [] ts = went a
values_walk k a (x ∷ xs) [] = went a
values_walk k a (x ∷ xs) (t ∷ ts) = do
  b ← setting_walk k a x t
  values_walk k b xs ts

abbrev pub no_values : LayerValues
no_values = record { values = []; sets = [] }

abbrev pub nodes_or_zero : Option WideTree → ℕ
nodes_or_zero None = 0
nodes_or_zero (Some t) = nodes_of t

-- the nodes of what is set
abbrev pub set_nodes : Sets → ℕ
set_nodes [] = 0
set_nodes (p ∷ ps) = nodes_or_zero p.1 + set_nodes ps

-- the names are set to their values, whose nodes are counted. Returned is what each had before
unfoldable pub layer_set : Sets → Walk Sets
layer_set ps = do
  plainly (pay (sizes ps))
  count_more (set_nodes ps)
  plainly (names_set ps)

-- what is inside, in one layer more, which has `suc k` levels
unfoldable pub layer_walk : ℕ → Layer → Walk WideValue → Walk WideValue
layer_walk k l inside = do
  plainly (entered (suc k))
  a ← values_walk k no_values l.names l.trees
  old ← layer_set a.sets
  v ← inside
  plainly (set_all old)
  went (made (codes "with") (vals (a.values ++ v ∷ [])) None)

unfoldable pub child_walk : ℕ → Walk WideValue → Walk WideValue
child_walk k inside = do
  plainly (entered k)
  inside

-- the walk of a tree at a path in layers
abbrev pub LayerWalker : Type 0
LayerWalker = List Layer → Walker

abbrev pub layers_walk : ℕ → Walker → LayerWalker → LayerWalker
layers_walk k walker inside [] path t = child_walk (suc k) (walker path t)
layers_walk k walker inside (l ∷ ls) path t = layer_walk k l (inside ls path t)

-- a tag, whose label is looked up, and then its child in the layers
unfoldable pub tag_walk : ℕ → Walk WideValue → WideTree → Walk WideValue
tag_walk k inside (leaf words) = stopped
tag_walk k inside (node label ts) = do
  plainly (label_looked k label)
  inside

-- ---- any tree

abbrev pub walk_opened : Opening → Stores → ℕ → Walker → LayerWalker → Walker
walk_opened (ByTree o) kept k walker inside path t = walk_as o kept k walker path t
walk_opened (ByShell shell u) kept k walker inside path t =
    tag_walk (suc k) (inside shell.layers (path ++ shell.inner ∷ []) u) t

-- with k levels
unfoldable mutual
  pub walk : Guide → ℕ → Walker
  walk g zero path t = stopped
  walk g (suc k) path t = λ e s.
      walk_opened (opening g.sheller t (env_atop s.state.own e)) g.stores k (walk g k) (walk_in g k) path t e s

  pub walk_in : Guide → ℕ → LayerWalker
  walk_in g zero ls path t = stopped
  walk_in g (suc k) ls path t = layers_walk k (walk g k) (walk_in g k) ls path t

-- ---- what it comes to

-- what evaluation of the tree does, with the parts of the tree and what it is charged
abbrev pub tree_told : Guide → ℕ → List ℕ → WideTree → Before → Stage → Walked WideValue
tree_told g k path t e s =
    told k path s
    (map (seen_in g.stores) (parts_by g.sheller k s.state.left path t (env_atop s.state.own e)))
    (charged g k s.state.left path t (env_atop s.state.own e))
    (evaluates k s.state.left t (env_atop s.state.own e))
