use Rattle.std.proofs.Common.{arith}
use Rattle.tx_exec.proofs.Kids.{some_size}
use Rattle.tx_exec.proofs.progress.Progress.itself.Goals as goal

pub overflow_sub-size : goal.overflow_sub-size
overflow_sub-size g c = omega (arith, some_size c.args.tree.now, c.size.ensures.value)
