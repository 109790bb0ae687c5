-- What a walk goes by, and what it is charged.
use Rattle.std.specs.Prelude.{ℕ, ◌+◌, List}
use Rattle.tx_tree.specs.WideTree.{WideTree}
use Rattle.tx_exec_form.specs.Runs.{Before}
use Rattle.tx_parts.specs.Composed.{SoFar}
use Rattle.tx_parts.specs.Shells.{Layer, Opener}
use Rattle.tx_parts.specs.Opening.{Sheller, shells_by}
use Rattle.tx_parts.specs.Parts.{parts_from, parts_by, parts_in}
use Rattle.tx_parts.specs.LayerCosts.{Holder, counts_from, layer_costs_by, layer_costs_in}
use Rattle.tx_walk.specs.declared.prior.PriorStores.{PriorStores}
use Rattle.tx_walk.specs.Held.{Stores, charges}
use Rattle.tx_walk.specs.Prior.{stores_of, holder_of}

-- the cached traces of parts and the spare ones, which trees have shells, and what holds trees of layers
pub record Guide : Type 0 where
  pub stores : Stores
  pub sheller : Sheller
  pub holder : Holder

abbrev pub guide_of : Opener → PriorStores → Guide
guide_of opener prior =
    record { stores = stores_of prior; sheller = shells_by opener; holder = holder_of prior }

-- what a tree is charged, with k levels and c steps: its parts that aren't held, and what layers cost without their
-- held trees
abbrev pub charged : Guide → ℕ → ℕ → List ℕ → WideTree → Before → ℕ
charged g k c path t e =
    charges g.stores (parts_by g.sheller k c path t e) + layer_costs_by g.holder g.sheller k c t e

-- what the children from number i on are charged, after the traces of the earlier ones
abbrev pub charged_from : Guide → ℕ → ℕ → List ℕ → ℕ → SoFar → List WideTree → Before → ℕ
charged_from g k c path i a ts e =
    charges g.stores (parts_from k (parts_by g.sheller k) c path i a ts e)
    + counts_from k (layer_costs_by g.holder g.sheller k) c i a ts e

-- what a tree in layers is charged, which is the child of number i
abbrev pub charged_in : Guide → ℕ → List Layer → ℕ → ℕ → List ℕ → WideTree → Before → ℕ
charged_in g k ls i c path t e =
    charges g.stores (parts_in g.sheller k ls i c path t e) + layer_costs_in g.holder g.sheller k ls c t e
