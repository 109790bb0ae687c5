use Rattle.tx_prim.proofs.Plain.{tuple_label}
use Rattle.tx_prim.proofs.making.tuple_of.Goals as goal

pub node_of-requires-clause-label : goal.node_of-requires-clause-label
node_of-requires-clause-label g c = tuple_label
