use Rattle.std.proofs.Common.{arith}
use Rattle.std.proofs.lemmas.Grind.{common_steps}
use Rattle.tx_scm.proofs.Writing.{front_kept}
use Rattle.tx_scm.proofs.writer.+append_tree.Goals as goal

pub returns-in_err-append_tree-clause-grows : goal.returns-in_err-append_tree-clause-grows
returns-in_err-append_tree-clause-grows t c =
    front_kept _ c.push-in-loop-child.new.self.items _ (grind (arith, common_steps)) (grind (arith, common_steps))
