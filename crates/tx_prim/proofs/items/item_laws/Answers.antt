use Rattle.tx_prim.proofs.ItemRuns.{items_are}
use Rattle.tx_prim.proofs.items.item_laws.Goals as goal

pub returns : goal.returns
returns c = items_are
