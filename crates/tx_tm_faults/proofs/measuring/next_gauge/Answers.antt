use Rattle.std.proofs.Common.{arith}
use Rattle.tx_tm_faults.proofs.Bounding.{body_small, popped_most}
use Rattle.tx_tm_faults.proofs.measuring.next_gauge.Goals as goal

pub with_child-requires : goal.with_child-requires
with_child-requires c =
    omega (
      arith,
      c.requires,
      body_small c.args.here c.body_sums.result c.body_sums.ensures,
      popped_most c.args.here c.args.opens.items c.pop.new.self.items c.in-Some.tag c.in-Some.ensures.items,
    )
