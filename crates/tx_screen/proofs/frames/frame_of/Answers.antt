use Rattle.std.proofs.Common.{◌≡◌, List, ap, ◌∙◌, subst}
use Rattle.std.specs.Prelude.{slice_get, option_and_then}
use Rattle.tx_moves.specs.Rows.{row_of}
use Rattle.tx_state.specs.States.{State}
use Rattle.tx_terminal.specs.Characters.{Shown}
use Rattle.tx_screen.specs.Frames.{cell_on, framed}
use Rattle.tx_screen.proofs.frames.frame_of.Goals as goal

pub returns-clause-screen : goal.returns-clause-screen
returns-clause-screen c = λ edits.
    let size = c.args.desk.now.size in
    let view = c.view-view.result.now.shown in
    let status = c.in_ok-rows-2.ensures.framed.0 in
    let there = ap (row_of view.units) (c.cursor-at.ensures.cursor ∙ ap (λ (s : State). s.cursor) c.state-state.ensures) in
    record {
      view = view;
      present = c.view-view.ensures.shown;
      screen = record {
        page = c.page_of-page.result;
        status = status;
        all =
            subst (λ (rows : List (List Shown)). c.in_ok-rows-2.rows.items ≡ framed size rows status)
            (c.in_ok-rows.ensures.page edits) c.in_ok-rows-2.ensures.framed.1;
        here = λ p k drawn paged. c.page_of-page.ensures p k (c.in_ok-cell.ensures p (there ∙ drawn)) paged;
        cell = λ p drawn.
            c.cursor_in-cursor.ensures.page edits
            ∙ ap (option_and_then (cell_on size (slice_get view.pages c.page_of-page.result)))
            (c.in_ok-cell.ensures p (there ∙ drawn));
      };
    }
