use Rattle.std.proofs.Common.{rules, sym}
use Rattle.tx_origin.specs.TaggedTrees.{tagged_of}
use Rattle.tx_exec.proofs.Kids.{few_kids}
use Rattle.tx_exec.proofs.Leading.{kid_far}
use Rattle.tx_exec.proofs.numbers.kid_at.Goals as goal

pub returns-then-number-gt4294967295 : goal.returns-then-number-gt4294967295
returns-then-number-gt4294967295 c =
    let few = few_kids c.args.t.now.at c.args.t.now.tree c.size-size.ensures.within in
    sym (kid_far (tagged_of c.args.t.now) c.args.number (search rules) few)
