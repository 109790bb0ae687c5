use Rattle.std.proofs.Common.{rules}
use Rattle.tx_screen.proofs.Shown.{found_alike}
use Rattle.tx_screen.proofs.frames.shown_row.Goals as goal

pub returns-in_ok-line_row-in-Some : goal.returns-in_ok-line_row-in-Some
returns-in_ok-line_row-in-Some c =
    let found = c.in-Some.ensures in
    let alike = found_alike c.args.size _ found.0 c.in-Some.line.now found.2 in
    search (rules, alike)
