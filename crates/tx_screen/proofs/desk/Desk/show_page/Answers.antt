use Rattle.std.proofs.Common.{List, sym, subst, ap}
use Rattle.tx_terminal.specs.Characters.{Shown}
use Rattle.tx_terminal.specs.Painter.{Repaints}
use Rattle.tx_screen.specs.Frames.{IsSessionScreen}
use Rattle.tx_screen.specs.Screens.{DeskSeen}
use Rattle.tx_screen.proofs.Executing.{on_ok_map}
use Rattle.tx_screen.proofs.desk.Desk.show_page.Goals as goal

pub returns-clause-drawn : goal.returns-clause-drawn
returns-clause-drawn c =
    let frame = c.in_ok-frame.frame in
    let before = c.args.self.now in
    on_ok_map c.show.result
    (λ h. let painted = sym (ap (λ (d : DeskSeen). d.painted) h.3) in
    record {
      bytes = h.0;
      cursor = frame.cursor;
      written = h.1;
      repaints = subst (λ (rows : List (List Shown)). Repaints h.0 before.painted rows frame.cursor) painted h.2;
      screen = λ edits.
          subst (λ (rows : List (List Shown)). IsSessionScreen before.size c.args.session.now.seen rows frame.cursor)
          painted (c.in_ok-frame.ensures.screen edits);
    })
    c.show.ensures.shown
