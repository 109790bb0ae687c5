use Rattle.std.proofs.Common.{rules}
use Rattle.tx_view.proofs.Aside.{placed_none, placed_bare, placed_there}
use Rattle.tx_view.proofs.carrying.keep_beside.Goals as goal

pub returns-in_default : goal.returns-in_default
returns-in_default c =
    placed_none c.args.unit c.args.bridges.now.kept c.args.strays.now c.in_default.ensures.found

pub returns-in-Some-path : goal.returns-in-Some-path
returns-in-Some-path c =
    placed_there c.args.unit c.args.bridges.now.kept c.in-Some.changed.now c.in-Some-path.path c.args.strays.now
    c.drop_fronts.new.self c.in-Some.ensures.found (search rules) c.drop_fronts.ensures

pub returns-in_default-path : goal.returns-in_default-path
returns-in_default-path c =
    placed_bare c.args.unit c.args.bridges.now.kept c.in-Some.changed.now c.args.strays.now c.in-Some.ensures.found
    (search rules)
