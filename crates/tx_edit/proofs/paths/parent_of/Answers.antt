use Rattle.std.proofs.Common.{rules, sym}
use Rattle.tx_edit.proofs.Parents.{parent_is}
use Rattle.tx_edit.proofs.paths.parent_of.Goals as goal

pub returns-in-Some : goal.returns-in-Some
returns-in-Some c = sym (parent_is c.args.path.now c.pop.new.self c.in-Some.i (search rules))
