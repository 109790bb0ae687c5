use Rattle.tx_tm_content.proofs.Fitting.{tag_row, tagged_row}
use Rattle.tx_tm_content.proofs.lines.OpenLine.with_tag.Goals as goal

pub returns-in-None : goal.returns-in-None
returns-in-None c = let row = rw c.in-None.is at c.in_ok-into_row.ensures in tag_row c.args.self c.args.tree row

pub returns-in-None-2 : goal.returns-in-None-2
returns-in-None-2 c =
    let row = rw c.in-Some.is at c.in_ok-into_row.ensures in
    let next = rw c.in-None-2.is at c.in_ok-with-in-Some.ensures in
    tagged_row c.args.self c.args.tree c.in-Some.row row next
