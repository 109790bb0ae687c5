use Rattle.tx_prim.proofs.Plain.{label_text}
use Rattle.tx_prim.proofs.lists.label_told.Goals as goal

pub leaf_of-requires-clause-text : goal.leaf_of-requires-clause-text
leaf_of-requires-clause-text g c = rw c.bytes.ensures.bytes (label_text _ c.bytes.ensures.label)
