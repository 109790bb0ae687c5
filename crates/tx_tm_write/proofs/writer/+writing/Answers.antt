use Rattle.std.proofs.Common.{arith}
use Rattle.std.proofs.lemmas.Grind.{common_steps}
use Rattle.tx_tm_write.proofs.Writing.{still_begins}
use Rattle.tx_tm_write.proofs.writer.+writing.Goals as goal

pub append_short-returns-in_err-append_content-clause-grows :
    goal.append_short-returns-in_err-append_content-clause-grows
append_short-returns-in_err-append_content-clause-grows t c =
    still_begins _ c.push-in-loop-child.new.self.items _ (grind (arith, common_steps)) (grind (arith, common_steps))
