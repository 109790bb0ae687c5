use Rattle.std.proofs.Common.{◌≡◌, Some, rules}
use Rattle.std.proofs.lemmas.Result.{on_ok_weaker}
use Rattle.tx_terminal.proofs.Repainting.{moved_and_shown}
use Rattle.tx_terminal.proofs.painter.add_cursor.Goals as goal

pub returns-in-Some-clause-added : goal.returns-in-Some-clause-added
returns-in-Some-clause-added c =
    let is : c.args.cursor ≡ Some (c.in-Some.row, c.in-Some.column) = search (rules, c.in-Some.is) in
    on_ok_weaker c.set_cursor_shown.result
    (λ shown. moved_and_shown c.args.out.now.items c.move_to.new.out.items c.set_cursor_shown.new.out.items c.args.cursor
    c.in-Some.row c.in-Some.column is c.in_ok-move_to.ensures.moved shown)
    c.set_cursor_shown.ensures.shown
