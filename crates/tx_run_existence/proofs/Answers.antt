-- Each command has an answer.
use Rattle.std.proofs.Common.{◌≡◌, ◌≢◌, inl, inr, ℕ, ◌<◌, ◌≤◌, List, [], ◌∷◌, length, Option, Some, None, Result, Ok}
use Rattle.std.proofs.Common.{Err, refl}
use Rattle.std.specs.Prelude.{codes}
use Rattle.std.specs.Str.{bytes_eq}
use Rattle.std.proofs.lemmas.List.Quantifiers.{position-Some}
use Rattle.tx_tree.specs.PathSpelling.{place_text}
use Rattle.tx_tree.specs.WideTree.{leaf}
use Rattle.tx_tree.specs.declared.faults.PlaceFault.TheVariants.{NoPath}
use Rattle.tx_tree.specs.SamePlaces.{stop_number}
use Rattle.tx_scm.specs.Canonical.{scheme_text}
use Rattle.tx_doc.specs.Forms.{form_of}
use Rattle.tx_scm.proofs.Spelled.{well_formed}
use Rattle.tx_mod.specs.declared.faults.ModFault.{ModFault}
use Rattle.tx_mod.specs.declared.mods.Mod.{Mod}
use Rattle.tx_mod.specs.declared.mods.Mod.TheVariants.{Assign, Insert, Remove, Split, Join, AssignNode, InsertNode}
use Rattle.tx_mod.specs.declared.mods.Mod.TheVariants.{RemoveNode}
use Rattle.tx_mod.specs.Moves.{place}
use Rattle.tx_mod.specs.Sound.{IsSoundMod}
use Rattle.tx_doc.specs.Buffers.{document_of, number_of}
use Rattle.tx_doc.specs.declared.buffer.Buffer.{Buffer}
use Rattle.tx_state.specs.States.{State}
use Rattle.tx_state.specs.Edits.{edited, undone_state, redone_state}
use Rattle.tx_state.specs.Leaving.{leaving}
use Rattle.tx_state.specs.declared.edits.Edit.{Edit}
use Rattle.tx_state.specs.declared.faults.LeaveFault.{LeaveFault}
use Rattle.tx_edit.specs.declared.faults.EditFault.{EditFault}
use Rattle.tx_edit.specs.declared.moves.Move.{Move}
use Rattle.tx_edit.specs.declared.moves.Move.TheVariants.{Edit as KeyEdit, Go as MoveTo}
use Rattle.tx_edit.specs.Stops.{to_left, to_right}
use Rattle.tx_origin.specs.RelativePlaces.{BasedPlace}
use Rattle.tx_view_form.specs.Views.{WideView, IsView}
use Rattle.tx_view_form.specs.Positions.{position_in}
use Rattle.tx_view_form.specs.Stops.{stops_of}
use Rattle.tx_existence.proofs.Viewing.{some_view}
use Rattle.tx_print.specs.Lines.{line}
use Rattle.tx_print.specs.Places.{no_cell}
use Rattle.tx_cmd.specs.declared.command.Command.{Command}
use Rattle.tx_cmd.specs.declared.command.Command.TheVariants.{Change, Undo, Redo, At, Go, Click, Left, Right, Typed}
use Rattle.tx_cmd.specs.declared.command.Command.TheVariants.{Backspace, Enter, Show, Page, Errors, PlaceOf, Cursor}
use Rattle.tx_cmd.specs.declared.command.Command.TheVariants.{Attrs, Tree, Save, Work, Quit, UndoAt}
use Rattle.tx_cmd.specs.Commands.{IsCommand}
use Rattle.tx_session.specs.Asking.{Prints}
use Rattle.tx_session.specs.Causes.{cause_reply, astray_reply, key_reply, leave_reply}
use Rattle.tx_session.specs.States.{selected_edit, key_edit, by_typing, by_backspace, by_enter, done_reply, whole_place}
use Rattle.tx_session.specs.States.{selected_tree}
use Rattle.tx_session.specs.States.{save_reply}
use Rattle.tx_session.specs.Forms.{saving}
use Rattle.tx_session.specs.States.{IsEditAnswer, IsKeyAnswer, IsLeaveAnswer, IsStepAnswer, IsChoice, IsGoAnswer}
use Rattle.tx_session.specs.States.{IsClickAnswer, IsAskedAnswer, IsAnswer, view_reply}
use Rattle.tx_session.proofs.SoundKeys.{IsSoundKey, typed_sound, erased_sound, entered_sound, left_sound, right_sound}
use Rattle.tx_session.proofs.SoundKeys.{typed_text}
use Rattle.tx_run_existence.proofs.Going.{place_or_fault, with_last}
use Rattle.tx_run_existence.proofs.Keys.{IsKeyCause, typed_cause, erased_cause, entered_cause, left_cause, right_cause}
use Rattle.tx_run_existence.proofs.States.{IsSound, tree_well, edited_sound, undone_sound, redone_sound, moved_sound}
use Rattle.tx_run_existence.proofs.States.{selected_sound}
use Rattle.tx_run_existence.proofs.TakenBack.{IsTakingBack, taking_back_is, IsLeaveCause, leave_cause}

-- some next state, which is sound, and some reply are an answer
pub record Has (Answer : State → List ℕ → Type 0) : Type 0 where
  pub next : State
  pub reply : List ℕ
  pub answer : Answer next reply
  pub sound : IsSound next

the_same : {A B : State → List ℕ → Type 0} → ((next : State) (reply : List ℕ) → A next reply → B next reply) → Has A
    → Has B
the_same f h = record { next = h.next; reply = h.reply; answer = f h.next h.reply h.answer; sound = h.sound }

-- ---- edits

edit_answer : (state : State) (r : Result State ModFault) → IsSound state
    → ((made : State) → r ≡ Ok made → IsSound made) → Has (IsEditAnswer state r)
edit_answer state (Ok made) h k =
    record { next = made; reply = done_reply; answer = (refl, refl); sound = k made refl }
edit_answer state (Err cause) h k =
    record { next = state; reply = cause_reply cause; answer = (refl, refl); sound = h }

key_answer : (state : State) (r : Result Move EditFault) → IsSound state → IsSoundKey r → IsKeyCause r
    → Has (IsKeyAnswer state r)
key_answer state (Ok (KeyEdit mods to)) h s c =
    the_same (λ next reply a. a)
    (edit_answer state (edited (key_edit mods) state) h
    (λ made e. edited_sound (key_edit mods) state made h h.some s e))
key_answer state (Ok (MoveTo to)) h s c = record {
  next = record state { cursor = to };
  reply = done_reply;
  answer = (refl, refl);
  sound = moved_sound state to h;
}
key_answer state (Err fault) h s c =
    record { next = state; reply = key_reply fault; answer = (c, refl, refl); sound = h }

leave_answer : (n : ℕ) (state : State) (r : Result Edit LeaveFault) → IsSound state → leaving n state ≡ r
    → IsLeaveCause r → Has (IsLeaveAnswer n state r)
leave_answer n state (Ok edit) h e c =
    let is : IsTakingBack n state edit = taking_back_is n state edit h e in
    let done = edit_answer state (edited edit state) h
    (λ made f. edited_sound edit state made h is.within is.sound f) in
    record {
      next = done.next;
      reply = done.reply;
      answer = (is.sound, is.leaves, done.answer);
      sound = done.sound;
    }
leave_answer n state (Err fault) h e c =
    record { next = state; reply = leave_reply fault; answer = (c, refl, refl); sound = h }

step_answer : (state : State) (none : List ℕ) (r : Option State) → IsSound state
    → ((made : State) → r ≡ Some made → IsSound made) → Has (IsStepAnswer state none r)
step_answer state none (Some made) h k =
    record { next = made; reply = done_reply; answer = (refl, refl); sound = k made refl }
step_answer state none None h k =
    record { next = state; reply = line none; answer = (refl, refl); sound = h }

-- ---- the selected buffer, and the cursor

number_within : (state : State) (name : List ℕ) (k : ℕ) → number_of state.buffers name ≡ Some k
    → k < length state.buffers
number_within state name k e =
    let any : Buffer = record { name = []; tree = leaf [] } in
    (position-Some (λ b. bytes_eq b.name name) state.buffers k any e).0

choice_answer : (state : State) (r : Option ℕ) → IsSound state
    → ((k : ℕ) → r ≡ Some k → k < length state.buffers) → Has (IsChoice state r)
choice_answer state (Some k) h within = record {
  next = record state { selected = k };
  reply = done_reply;
  answer = (refl, refl);
  sound = selected_sound state k (within k refl) h;
}
choice_answer state None h within =
    record { next = state; reply = line (codes "no buffer"); answer = (refl, refl); sound = h }

go_answer : (state : State) (numbers : List ℕ) → IsSound state → Has (IsGoAnswer state numbers)
go_answer state [] h = record {
  next = state;
  reply = astray_reply (NoPath 0);
  answer = inr (NoPath 0, inl (refl, refl), refl, refl);
  sound = h;
}
go_answer state (n ∷ ns) h =
    let at = with_last n ns in
    elim (place_or_fault (document_of state.buffers) at.0 at.1 (tree_well state.buffers 0 h.some h.well)) [
      | inl there ↦ record {
        next = record state { cursor = place at.0 at.1 };
        reply = done_reply;
        answer = inl ((at.0, at.1, at.2, there, refl), refl);
        sound = moved_sound state (place at.0 at.1) h;
      }
      | inr fault ↦ record {
        next = state;
        reply = astray_reply fault.0;
        answer = inr (fault.0, inr (at.0, at.1, at.2, fault.1), refl, refl);
        sound = h;
      }
    ]

-- ---- what asks the view

click_answer : (state : State) (none : List ℕ) (r : Option BasedPlace) → IsSound state
    → Has (IsClickAnswer state none r)
click_answer state none (Some p) h = record {
  next = record state { cursor = whole_place p };
  reply = done_reply;
  answer = (refl, refl);
  sound = moved_sound state (whole_place p) h;
}
click_answer state none None h =
    record { next = state; reply = none; answer = (refl, refl); sound = h }

printed : (width : ℕ) (v : WideView) (state : State) (it : Command) → IsSound state → Prints it
    → Has (IsAskedAnswer width v state it)
printed width v state Show h p =
    record { next = state; reply = view_reply width v Show; answer = (refl, refl); sound = h }
printed width v state (Page n) h p =
    record { next = state; reply = view_reply width v (Page n); answer = (refl, refl); sound = h }
printed width v state Errors h p =
    record { next = state; reply = view_reply width v Errors; answer = (refl, refl); sound = h }
printed width v state (PlaceOf r c) h p =
    record { next = state; reply = view_reply width v (PlaceOf r c); answer = (refl, refl); sound = h }
printed width v state (Attrs r) h p =
    record { next = state; reply = view_reply width v (Attrs r); answer = (refl, refl); sound = h }
printed width v state it h p = absurd p

abbrev Viewed : ℕ → ℕ → State → Command → State → List ℕ → Type 0
Viewed width height state it next reply =
    (v : WideView) × IsView state.buffers width height v × IsAskedAnswer width v state it next reply

viewed : (width height : ℕ) (state : State) (it : Command) → 20 ≤ width → 0 < height
    → ((v : WideView) → Has (IsAskedAnswer width v state it)) → Has (Viewed width height state it)
viewed width height state it wide high by =
    let v = some_view state.buffers width height wide high in
    let a = by v.0 in
    record { next = a.next; reply = a.reply; answer = (v.0, v.1, a.answer); sound = a.sound }

-- ---- modifications of a line

mod_sound : (text : List ℕ) (m : Mod) → IsCommand text (Change m) → IsSoundMod m
mod_sound text (Assign p x) h = well_formed h.1.1.3.0 x h.1.1.3.2.0
mod_sound text (Insert p i x) h = well_formed h.1.1.3.3.0 x h.1.1.3.3.2.0
mod_sound text (Remove p i n) h = tt
mod_sound text (Split p i j) h = tt
mod_sound text (Join p i) h = tt
mod_sound text (AssignNode p l) h = h.1.1.3.2.0
mod_sound text (InsertNode p i x) h = well_formed h.1.1.3.3.0 x h.1.1.3.3.2.0
mod_sound text (RemoveNode p i) h = tt

-- ---- all commands

pub answer_of : (width height : ℕ) (state : State) (text : List ℕ) (it : Command) → 20 ≤ width → 0 < height
    → IsSound state → IsCommand text it → it ≢ Work → Has (IsAnswer width height state it)
answer_of width height state text (Change m) wide high h is other =
    the_same (λ next reply a. a)
    (edit_answer state (edited (selected_edit state m) state) h
    (λ made e. edited_sound (selected_edit state m) state made h h.selected (mod_sound text m is, tt) e))
answer_of width height state text Undo wide high h is other =
    the_same (λ next reply a. a)
    (step_answer state (codes "no undo") (undone_state state) h (λ made e. undone_sound state made h e))
answer_of width height state text (UndoAt n) wide high h is other =
    the_same (λ next reply a. a)
    (leave_answer n state (leaving n state) h refl (leave_cause n state))
answer_of width height state text Redo wide high h is other =
    the_same (λ next reply a. a)
    (step_answer state (codes "no redo") (redone_state state) h (λ made e. redone_sound state made h e))
answer_of width height state text (At name) wide high h is other =
    the_same (λ next reply a. a)
    (choice_answer state (number_of state.buffers name) h (λ k e. number_within state name k e))
answer_of width height state text (Go numbers) wide high h is other =
    the_same (λ next reply a. a)
    (go_answer state numbers h)
answer_of width height state text (Typed typed) wide high h is other =
    the_same (λ next reply a. a)
    (key_answer state (by_typing state typed) h
    (typed_sound typed (document_of state.buffers) state.cursor (typed_text text typed is))
    (typed_cause (document_of state.buffers) state.cursor typed))
answer_of width height state text Backspace wide high h is other =
    the_same (λ next reply a. a)
    (key_answer state (by_backspace state) h (erased_sound (document_of state.buffers) state.cursor)
    (erased_cause (document_of state.buffers) state.cursor))
answer_of width height state text Enter wide high h is other =
    the_same (λ next reply a. a)
    (key_answer state (by_enter state) h (entered_sound (document_of state.buffers) state.cursor)
    (entered_cause (document_of state.buffers) state.cursor))
answer_of width height state text Cursor wide high h is other = record {
  next = state;
  reply = line (place_text state.cursor.path state.cursor.offset);
  answer = (refl, refl);
  sound = h;
}
answer_of width height state text Tree wide high h is other = record {
  next = state;
  reply = line (scheme_text (selected_tree state));
  answer = (refl, refl);
  sound = h;
}
answer_of width height state text (Save name) wide high h is other = record {
  next = state;
  reply = save_reply (saving (form_of name) (selected_tree state));
  answer = (refl, refl);
  sound = h;
}
answer_of width height state text Work wide high h is other = absurd (other refl)
answer_of width height state text Quit wide high h is other =
    record { next = state; reply = []; answer = (refl, refl); sound = h }
answer_of width height state text (Click r c) wide high h is other =
    the_same (λ next reply a. a)
    (viewed width height state (Click r c) wide high
    (λ v. the_same (λ next reply a. a)
    (click_answer state (no_cell v width) (position_in v.units width r c) h)))
answer_of width height state text Left wide high h is other =
    the_same (λ next reply a. a)
    (viewed width height state Left wide high (λ v. the_same (λ next reply a. a)
    (key_answer state (to_left (stops_of v.units) state.cursor) h
    (left_sound (stops_of v.units) (stop_number (stops_of v.units) state.cursor))
    (left_cause (stops_of v.units) (stop_number (stops_of v.units) state.cursor)))))
answer_of width height state text Right wide high h is other =
    the_same (λ next reply a. a)
    (viewed width height state Right wide high (λ v. the_same (λ next reply a. a)
    (key_answer state (to_right (stops_of v.units) state.cursor) h
    (right_sound (stops_of v.units) (stop_number (stops_of v.units) state.cursor))
    (right_cause (stops_of v.units) (stop_number (stops_of v.units) state.cursor)))))
answer_of width height state text Show wide high h is other =
    the_same (λ next reply a. a)
    (viewed width height state Show wide high (λ v. printed width v state Show h tt))
answer_of width height state text (Page n) wide high h is other =
    the_same (λ next reply a. a)
    (viewed width height state (Page n) wide high (λ v. printed width v state (Page n) h tt))
answer_of width height state text Errors wide high h is other =
    the_same (λ next reply a. a)
    (viewed width height state Errors wide high (λ v. printed width v state Errors h tt))
answer_of width height state text (PlaceOf r c) wide high h is other =
    the_same (λ next reply a. a)
    (viewed width height state (PlaceOf r c) wide high (λ v. printed width v state (PlaceOf r c) h tt))
answer_of width height state text (Attrs r) wide high h is other =
    the_same (λ next reply a. a)
    (viewed width height state (Attrs r) wide high (λ v. printed width v state (Attrs r) h tt))
