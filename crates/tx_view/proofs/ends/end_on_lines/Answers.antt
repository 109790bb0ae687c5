use Rattle.std.proofs.Common.{[]}
use Rattle.tx_view.specs.Ends.{end_on_lines}
use Rattle.tx_view.proofs.EndsFound.{cells_here, cells_later, no_cells}
use Rattle.tx_view.proofs.EndsUnder.{place_after}
use Rattle.tx_view.proofs.ends.end_on_lines.Goals as goal

pub returns-in-Some : goal.returns-in-Some
returns-in-Some c =
    cells_here c.args.end [] (place_after c.args.steps.now c.args.offset) c.args.lines.now
    (end_on_lines c.args.end [] (place_after c.args.steps.now c.args.offset) c.args.lines.now) c.loop-i.i
    c.index-lines-i.result c.loop-i-test.true c.index-lines-i.is c.loop-i.invariant c.end_on_line.result
    c.in-Some.column c.end_on_line.ensures c.in-Some.is

pub loop-i-preserved : goal.loop-i-preserved
loop-i-preserved c =
    cells_later c.args.end [] (place_after c.args.steps.now c.args.offset) c.args.lines.now
    (end_on_lines c.args.end [] (place_after c.args.steps.now c.args.offset) c.args.lines.now) c.loop-i.i
    c.index-lines-i.result c.loop-i-test.true c.index-lines-i.is c.loop-i.invariant c.end_on_line.result
    c.end_on_line.ensures c.in_default.is

pub returns : goal.returns
returns c =
    no_cells c.args.end [] (place_after c.args.steps.now c.args.offset) c.args.lines.now
    (end_on_lines c.args.end [] (place_after c.args.steps.now c.args.offset) c.args.lines.now) c.loop-i.i
    c.loop-i-test.false c.loop-i.invariant
