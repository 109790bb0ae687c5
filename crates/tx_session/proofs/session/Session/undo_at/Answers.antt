use Rattle.std.proofs.Common.{◌≡◌, ◌≤◌, ◌+◌, ◌*◌, take, Some, Ok, refl, ap, sym, subst, ◌∙◌, arith}
use Rattle.tx_cmd.specs.declared.command.Command.TheVariants.{UndoAt}
use Rattle.tx_state.specs.Leaving.{leaving, tree_without, mods_among}
use Rattle.tx_state.specs.Edits.{edited}
use Rattle.tx_state.specs.States.{State}
use Rattle.tx_doc.specs.Buffers.{tree_of}
use Rattle.tx_session.specs.Saying.{reply_mark, reply_text}
use Rattle.tx_session.proofs.Answered.{leave_replied, leave_changed, not_left_changed}
use Rattle.tx_session.proofs.Carried.{leave_keeps, not_left_keeps, leave_counted}
use Rattle.tx_session.proofs.Refreshed.{unasked_takes}
use Rattle.tx_session.proofs.session.Session.undo_at.Goals as goal

pub returns-in-Ok-clause-replied : goal.returns-in-Ok-clause-replied
returns-in-Ok-clause-replied g c =
    let n = c.args.n in
    let now = c.args.self.now in
    let is : leaving n now.seen.state ≡ Ok c.in-Ok.edit =
    ap (λ w. leaving n w.seen.state) (sym c.self.view_is) ∙ c.in-Ok.ensures.edit in
    let left : (next : State) → edited c.in-Ok.edit now.seen.state ≡ Ok next
    → tree_without n now.seen.state ≡ Some (tree_of next.buffers c.in-Ok.edit.buffer) =
    subst (λ w. (next : State) → edited c.in-Ok.edit w.seen.state ≡ Ok next
    → tree_without n w.seen.state ≡ Some (tree_of next.buffers c.in-Ok.edit.buffer)) c.self.view_is
    c.in-Ok.ensures.without in
    λ store.
    leave_replied n now.seen c.edit.new.self.seen store (reply_mark c.edit.result) (reply_text c.edit.result)
    (leave_changed n (leaving n now.seen.state) c.in-Ok.edit now.seen c.edit.new.self.seen (reply_mark c.edit.result)
    (reply_text c.edit.result) is c.in-Ok.ensures.sound left c.edit.ensures.changed)

pub returns-in-Ok-clause-keeps : goal.returns-in-Ok-clause-keeps
returns-in-Ok-clause-keeps g c =
    let n = c.args.n in
    let now = c.args.self.now in
    let is : leaving n now.seen.state ≡ Ok c.in-Ok.edit =
    ap (λ w. leaving n w.seen.state) (sym c.self.view_is) ∙ c.in-Ok.ensures.edit in
    leave_keeps n c.in-Ok.edit now c.edit.new.self (reply_mark c.edit.result) is c.edit.ensures.keeps

pub returns-in-Ok-clause-takes : goal.returns-in-Ok-clause-takes
returns-in-Ok-clause-takes g c =
    let n = c.args.n in
    let now = c.args.self.now in
    let is : leaving n now.seen.state ≡ Ok c.in-Ok.edit =
    ap (λ w. leaving n w.seen.state) (sym c.self.view_is) ∙ c.in-Ok.ensures.edit in
    let most : c.prepare_leave.new.steps ≤ c.args.steps.now + 1609 * mods_among (take n now.seen.state.past) =
    subst (λ w. c.prepare_leave.new.steps ≤ c.args.steps.now + 1609 * mods_among (take n w.seen.state.past))
    c.self.view_is c.prepare_leave.ensures.counted in
    unasked_takes (UndoAt n) now (reply_mark c.edit.result) _ _ refl
    (leave_counted n c.in-Ok.edit now.seen.state c.args.steps.now c.prepare_leave.new.steps c.edit.new.steps
    (mods_among (take n now.seen.state.past)) is most c.edit.ensures.counted)

pub returns-in-Err-clause-replied : goal.returns-in-Err-clause-replied
returns-in-Err-clause-replied g c =
    let n = c.args.n in
    let now = c.args.self.now in
    λ store.
    leave_replied n now.seen now.seen store (reply_mark c.not_left.result) (reply_text c.not_left.result)
    (not_left_changed n c.in-Err.fault (leaving n now.seen.state) now.seen c.not_left.result
    (c.not_left.ensures.named, c.not_left.ensures.wanting)
    (λ named. ap (λ w. leaving n w.seen.state) (sym c.self.view_is) ∙ c.in-Err.ensures.refused named))

pub returns-in-Err-clause-keeps : goal.returns-in-Err-clause-keeps
returns-in-Err-clause-keeps g c =
    let n = c.args.n in
    let now = c.args.self.now in
    not_left_keeps n c.in-Err.fault now c.not_left.result (c.not_left.ensures.named, c.not_left.ensures.wanting)
    (λ named. ap (λ w. leaving n w.seen.state) (sym c.self.view_is) ∙ c.in-Err.ensures.refused named)

pub returns-in-Err-clause-takes : goal.returns-in-Err-clause-takes
returns-in-Err-clause-takes g c =
    let n = c.args.n in
    let now = c.args.self.now in
    let most : c.prepare_leave.new.steps ≤ c.args.steps.now + 1609 * mods_among (take n now.seen.state.past) =
    subst (λ w. c.prepare_leave.new.steps ≤ c.args.steps.now + 1609 * mods_among (take n w.seen.state.past))
    c.self.view_is c.prepare_leave.ensures.counted in
    unasked_takes (UndoAt n) now (reply_mark c.not_left.result) _ _ refl (omega (arith, most))
