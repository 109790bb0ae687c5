use Rattle.std.proofs.Common.{◌∙◌, ap, refl, subst, sym}
use Rattle.tx_tree.specs.PathSpelling.{place_text}
use Rattle.tx_print.specs.Lines.{line}
use Rattle.tx_cmd.specs.declared.command.Command.TheVariants.{Cursor}
use Rattle.tx_session.specs.Writing.{IsSaid}
use Rattle.tx_session.proofs.Answered.{done, printed_said}
use Rattle.tx_session.proofs.session.Session.say_cursor.Goals as goal

pub returns-clause-said : goal.returns-clause-said
returns-clause-said g c =
    let seen = c.args.self.now.seen in
    let at = c.cursor.result.now in
    let text = line (place_text at.path at.offset) in
    let before = (g.O.Sink.seen c.args.out.now).written in
    let behind = (g.O.Sink.seen c.print_cursor.new.out).written in
    let is = c.cursor.ensures.cursor ∙ ap (λ w. w.seen.state.cursor) c.self.view_is in (
      text,
      λ store. done Cursor seen seen store text (refl, ap (λ p. line (place_text p.path p.offset)) is) refl refl refl
          refl,
      subst (λ r. IsSaid r text before behind) (sym c.going.ensures)
          (printed_said c.print_cursor.result text before behind c.print_cursor.ensures.is_written),
    )
