use Rattle.tx_tm_content.proofs.Tallying.{more_stuck}
use Rattle.tx_tm_content.proofs.blocks.TagList.with.Goals as goal

pub returns-in-None : goal.returns-in-None
returns-in-None c =
    let next = rw c.in-None.is at c.in_ok-with.ensures in
    more_stuck c.args.self.entries
    (record { before = c.args.self.run; collects = c.args.collects; tree = c.args.tree }) next
