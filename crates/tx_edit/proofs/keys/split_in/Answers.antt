use Rattle.std.proofs.Common.{arith, rules}
use Rattle.tx_edit.proofs.Parents.{text_small}
use Rattle.tx_edit.proofs.keys.split_in.Goals as goal

pub overflow_add-i : goal.overflow_add-i
overflow_add-i c =
    omega (
      arith,
      text_small c.args.t.now c.args.path.now (c.in-Some.parent, c.in-Some.i)
          c.size-size.ensures.within c.requires (search rules),
    )

pub split_in_concat-requires-clause-child : goal.split_in_concat-requires-clause-child
split_in_concat-requires-clause-child c =
    text_small c.args.t.now c.args.path.now (c.in-Some.parent, c.in-Some.i) c.size-size.ensures.within c.requires
    (search rules)
