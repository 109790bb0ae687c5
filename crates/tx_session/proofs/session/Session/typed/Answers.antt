use Rattle.std.proofs.Common.{◌∙◌, ap, refl}
use Rattle.tx_cmd.specs.declared.command.Command.TheVariants.{Typed}
use Rattle.tx_doc.specs.Buffers.{document_of}
use Rattle.tx_edit.specs.Keys.{typed}
use Rattle.tx_session.specs.Saying.{reply_mark, reply_text}
use Rattle.tx_session.specs.States.{by_typing}
use Rattle.tx_session.proofs.Answered.{typed_replied, makes}
use Rattle.tx_session.proofs.Carried.{typed_keeps}
use Rattle.tx_session.proofs.Refreshed.{unasked_takes}
use Rattle.tx_session.proofs.session.Session.typed.Goals as goal

pub returns-clause-replied : goal.returns-clause-replied
returns-clause-replied g c = λ store.
    let seen = c.args.self.now.seen in
    typed_replied c.args.text.now seen c.keyed.new.self.seen store (reply_mark c.keyed.result)
    (reply_text c.keyed.result) (c.keyed.ensures.changed (by_typing seen.state c.args.text.now)
    (makes (λ t at. typed t at c.args.text.now) c.document.result.now (document_of seen.state.buffers)
    c.cursor.result.now seen.state.cursor c.type_text-made.result
    (c.document.ensures ∙ ap (λ w. document_of w.seen.state.buffers) c.self.view_is)
    (c.cursor.ensures.cursor ∙ ap (λ w. w.seen.state.cursor) c.self.view_is) c.type_text-made.ensures.done
    c.type_text-made.ensures.refused))

pub returns-clause-keeps : goal.returns-clause-keeps
returns-clause-keeps g c =
    let seen = c.args.self.now.seen in
    typed_keeps c.args.text.now c.args.self.now c.keyed.new.self (reply_mark c.keyed.result)
    (c.keyed.ensures.keeps (by_typing seen.state c.args.text.now)
    (makes (λ t at. typed t at c.args.text.now) c.document.result.now (document_of seen.state.buffers)
    c.cursor.result.now seen.state.cursor c.type_text-made.result
    (c.document.ensures ∙ ap (λ w. document_of w.seen.state.buffers) c.self.view_is)
    (c.cursor.ensures.cursor ∙ ap (λ w. w.seen.state.cursor) c.self.view_is) c.type_text-made.ensures.done
    c.type_text-made.ensures.refused))

pub returns-clause-takes : goal.returns-clause-takes
returns-clause-takes g c =
    let seen = c.args.self.now.seen in
    unasked_takes (Typed c.args.text.now) c.args.self.now (reply_mark c.keyed.result) _ _ refl
    (c.keyed.ensures.counted (by_typing seen.state c.args.text.now)
    (makes (λ t at. typed t at c.args.text.now) c.document.result.now (document_of seen.state.buffers)
    c.cursor.result.now seen.state.cursor c.type_text-made.result
    (c.document.ensures ∙ ap (λ w. document_of w.seen.state.buffers) c.self.view_is)
    (c.cursor.ensures.cursor ∙ ap (λ w. w.seen.state.cursor) c.self.view_is) c.type_text-made.ensures.done
    c.type_text-made.ensures.refused))
