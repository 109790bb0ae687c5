use Rattle.tx_prim.proofs.Plain.{fault_is_text, name_text, error_label}
use Rattle.tx_prim.proofs.making.failure.Goals as goal

pub leaf_of-requires-clause-text : goal.leaf_of-requires-clause-text
leaf_of-requires-clause-text g c = rw c.word.ensures (fault_is_text c.args.fault)

pub leaf_of-requires-2-clause-text : goal.leaf_of-requires-2-clause-text
leaf_of-requires-2-clause-text g c = rw c.name.ensures (name_text c.args.which)

pub node_of-requires-clause-label : goal.node_of-requires-clause-label
node_of-requires-clause-label g c = error_label
