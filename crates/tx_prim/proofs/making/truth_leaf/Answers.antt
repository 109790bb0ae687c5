use Rattle.std.proofs.Common.{codes, refl}
use Rattle.tx_prim.proofs.Plain.{plain_text}
use Rattle.tx_prim.proofs.making.truth_leaf.Goals as goal

pub leaf_of-requires-clause-text : goal.leaf_of-requires-clause-text
leaf_of-requires-clause-text c = plain_text (codes "true") refl

pub leaf_of-requires-else-truth-clause-text : goal.leaf_of-requires-else-truth-clause-text
leaf_of-requires-else-truth-clause-text c = plain_text (codes "false") refl
