use Rattle.tx_layout.proofs.Marks.{own_lines, own_within}
use Rattle.tx_layout.proofs.shapes.own_rows.Goals as goal

pub returns-clause-lines : goal.returns-clause-lines
returns-clause-lines c =
    own_lines c.args.frame c.args.is_first c.args.is_last c.args.items.now c.args.start c.args.end
    c.in_ok-rows.rows.items c.or_empty.new.rows.items c.requires.onward c.requires.there c.in_ok-rows.ensures
    c.in_ok-or_empty.ensures

pub returns-clause-within : goal.returns-clause-within
returns-clause-within c =
    own_within c.args.frame c.requires.frame c.args.is_first c.args.is_last c.args.items.now c.args.start c.args.end
    c.in_ok-rows.rows.items c.or_empty.new.rows.items c.requires.onward c.requires.there c.in_ok-rows.ensures
    c.in_ok-or_empty.ensures
