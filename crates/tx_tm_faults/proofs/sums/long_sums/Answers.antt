use Rattle.std.proofs.Common.{arith}
use Rattle.tx_tm_faults.proofs.Bounding.{both_small, body_small}
use Rattle.tx_tm_faults.proofs.sums.long_sums.Goals as goal

pub both-requires : goal.both-requires
both-requires c = omega (arith, c.requires, body_small c.args.here c.body_sums.result c.body_sums.ensures)

pub node_sums-requires-in-Argument : goal.node_sums-requires-in-Argument
node_sums-requires-in-Argument c =
    omega (
      arith,
      c.requires,
      body_small c.args.here c.body_sums.result c.body_sums.ensures,
      both_small c.args.children c.body_sums.result c.both.result c.both.ensures,
    )
