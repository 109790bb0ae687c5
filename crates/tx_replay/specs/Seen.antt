-- What is returned of parts, and what a tree is charged.
use Rattle.std.specs.Prelude.{ℕ, ◌+◌, Bool, not, List, [], ◌++◌, map, Option, Some, None}
use Rattle.tx_tree.specs.WideTree.{WideTree}
use Rattle.tx_exec_form.specs.Runs.{Before}
use Rattle.tx_exec_form.specs.Evaluated.{WideTrace}
use Rattle.tx_parts.specs.Opening.{Sheller}
use Rattle.tx_parts.specs.Shells.{Layer}
use Rattle.tx_parts.specs.Parts.{Part, part_trace, parts_by, parts_in}
use Rattle.tx_parts.specs.LayerCosts.{holds_nothing, layer_costs_by, layer_costs_in}
use Rattle.tx_replay.specs.Held.{Stores, serves, charges}

-- the path of a part in the document, its trace, and whether no cached trace there fits, whatever the spare has
pub record Seen : Type 0 where
  pub path : List ℕ
  pub trace : Option WideTrace
  pub renewed : Bool

abbrev pub seen_in : Stores → Part → Seen
seen_in kept p = record { path = kept.base ++ p.path; trace = part_trace p; renewed = not (serves kept.own p) }

-- each part of a tree with its trace, and none where the tree runs out
abbrev pub seen_parts : Stores → List Part → Option WideTrace → List Seen
seen_parts kept ps None = []
seen_parts kept ps (Some trace) = map (seen_in kept) ps

-- the cached traces of parts and the spare ones, and which trees have shells
pub record Guide : Type 0 where
  pub stores : Stores
  pub sheller : Sheller

-- What a tree is charged, with k levels and c steps: its parts that aren't held, and the trees of layers with the nodes
-- of their values.
abbrev pub charged : Guide → ℕ → ℕ → List ℕ → WideTree → Before → ℕ
charged g k c path t e =
    charges g.stores (parts_by g.sheller k c path t e) + layer_costs_by holds_nothing g.sheller k c t e

-- what a tree in layers is charged, which is the child of number i
abbrev pub charged_in : Guide → ℕ → List Layer → ℕ → ℕ → List ℕ → WideTree → Before → ℕ
charged_in g k ls i c path t e =
    charges g.stores (parts_in g.sheller k ls i c path t e) + layer_costs_in holds_nothing g.sheller k ls c t e
