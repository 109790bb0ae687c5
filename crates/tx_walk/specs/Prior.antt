-- What a walk looks up.
use Rattle.tx_parts.specs.LayerCosts.{Holder}
use Rattle.tx_walk.specs.declared.prior.PriorStores.{PriorStores}
use Rattle.tx_walk.specs.Held.{Stores}
use Rattle.tx_walk.specs.Walked.{stores_in}
use Rattle.tx_walk.specs.LayerTraces.{holds_either}

abbrev pub stores_of : PriorStores → Stores
stores_of prior = stores_in prior.own prior.spare

-- what holds trees of layers
abbrev pub holder_of : PriorStores → Holder
holder_of prior = holds_either prior.layers.now prior.spare_layers.now
