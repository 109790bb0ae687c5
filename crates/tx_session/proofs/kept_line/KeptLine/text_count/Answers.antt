use Rattle.std.proofs.Common.{arith}
use Rattle.tx_session.proofs.KeptLines.{command_length}
use Rattle.tx_session.proofs.kept_line.KeptLine.text_count.Goals as goal

pub returns-then-self : goal.returns-then-self
returns-then-self c = λ bytes k. grind (arith, k.count, command_length bytes _ k.returned, c.if-self.true)

pub returns : goal.returns
returns c = λ bytes k. grind (arith, k.count, command_length bytes _ k.returned, c.if-self.false)
