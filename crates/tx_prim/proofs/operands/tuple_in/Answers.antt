use Rattle.tx_prim.proofs.Within.{children_within}
use Rattle.tx_prim.proofs.operands.tuple_in.Goals as goal

pub returns-then-is_labelled_tuple-clause-within : goal.returns-then-is_labelled_tuple-clause-within
returns-then-is_labelled_tuple-clause-within c =
    children_within c.args.t.now c.children.result.now c.size-size.ensures.within c.children.ensures
