use Rattle.std.proofs.Common.{arith}
use Rattle.tx_tm_faults.proofs.Bounding.{resumed_most}
use Rattle.tx_tm_faults.proofs.sums.later_block.Goals as goal

pub grow_line-requires : goal.grow_line-requires
grow_line-requires c =
    omega (
      arith,
      c.requires,
      resumed_most c.args.block.run c.args.block.now c.resumed_line.result
          c.resumed_line.ensures,
    )
