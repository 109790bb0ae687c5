use Rattle.std.proofs.Common.{arith}
use Rattle.tx_replay.proofs.Paying.{paid_done, paid_over}
use Rattle.tx_replay.proofs.progress.Progress.pay.Goals as goal

pub returns-then-n-left-clause-gives : goal.returns-then-n-left-clause-gives
returns-then-n-left-clause-gives c = λ e. paid_over c.args.n e c.args.self.now.state (omega arith)

pub returns-clause-gives : goal.returns-clause-gives
returns-clause-gives c = λ e.
    paid_done c.args.n e c.args.self.now.state c.take.new.self.state (omega arith) c.take.ensures.state
