use Rattle.tx_replay.proofs.Trees.{same_result}
use Rattle.tx_replay.proofs.fitting.same_trees.Goals as goal

pub returns : goal.returns
returns c = same_result c.same.result c.args.t.now c.args.u.now c.same.ensures.0 c.same.ensures.1
