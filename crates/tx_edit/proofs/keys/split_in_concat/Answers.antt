use Rattle.std.proofs.Common.{arith, rules}
use Rattle.tx_edit.proofs.Following.{made_twice}
use Rattle.tx_edit.proofs.Parents.{concat_small}
use Rattle.tx_edit.proofs.keys.split_in_concat.Goals as goal

pub overflow_add-i : goal.overflow_add-i
overflow_add-i c =
    omega (
      arith,
      concat_small c.args.t.now c.args.concat.now (c.in-Some.parent, c.in-Some.i)
          c.size-size.ensures.within c.requires.concat (search rules),
    )

pub returns-clause-done : goal.returns-clause-done
returns-clause-done c =
    made_twice c.args.t.now c.args.concat.now c.in-Some.parent c.push.new.self c.in-Some.i c.args.j c.args.offset
    c.in_ok-edit_twice.field-0
    (search rules) (search rules) (search rules) (search rules)
