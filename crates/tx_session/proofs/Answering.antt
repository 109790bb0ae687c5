-- A command has one result in a state.
use Rattle.std.proofs.Common.{◌≡◌, inl, inr, ℕ, List, Option, Some, None, Result, Ok, Err, ap, sym, subst, ◌∙◌}
use Rattle.std.specs.Prelude.{codes}
use Rattle.tx_mod.specs.declared.faults.ModFault.{ModFault}
use Rattle.tx_doc.specs.declared.buffer.Buffer.{Buffer}
use Rattle.tx_doc.specs.Buffers.{number_of}
use Rattle.tx_state.specs.States.{State}
use Rattle.tx_state.specs.Edits.{edited, undone_state, redone_state}
use Rattle.tx_state.specs.Leaving.{leaving}
use Rattle.tx_state.specs.declared.faults.LeaveFault.{LeaveFault}
use Rattle.tx_state.specs.declared.edits.Edit.{Edit}
use Rattle.tx_edit.specs.declared.faults.EditFault.{EditFault}
use Rattle.tx_edit.specs.declared.moves.Move.{Move}
use Rattle.tx_edit.specs.declared.moves.Move.TheVariants.{Edit as KeyEdit, Go as MoveTo}
use Rattle.tx_edit.specs.Stops.{to_left, to_right}
use Rattle.tx_origin.specs.RelativePlaces.{BasedPlace}
use Rattle.tx_view_form.specs.Views.{WideView, IsView}
use Rattle.tx_view_form.specs.Positions.{position_in}
use Rattle.tx_view_form.specs.Stops.{stops_of}
use Rattle.tx_print.specs.Places.{no_cell}
use Rattle.tx_cmd.specs.declared.command.Command.{Command}
use Rattle.tx_cmd.specs.declared.command.Command.TheVariants.{Change, Undo, Redo, At, Go, Click, Left, Right, Typed}
use Rattle.tx_cmd.specs.declared.command.Command.TheVariants.{Backspace, Enter, Show, Page, Errors, PlaceOf, Cursor}
use Rattle.tx_cmd.specs.declared.command.Command.TheVariants.{Attrs, Work, Tree, Save, Quit, UndoAt}
use Rattle.tx_session.specs.Causes.{astray_reply}
use Rattle.tx_session.specs.States.{selected_edit, key_edit, by_typing, by_backspace, by_enter, IsAnswer, IsEditAnswer}
use Rattle.tx_session.specs.States.{IsKeyAnswer, IsStepAnswer, IsChoice, IsGoAnswer, IsClickAnswer, IsAskedAnswer}
use Rattle.tx_session.specs.States.{IsViewAnswer, IsLeaveAnswer}
use Rattle.tx_session.proofs.Going.{goes_once, goes_or_not, astray_once}

-- buffers have one view on pages of a size
abbrev pub OneView : Type 0
OneView = (buffers : List Buffer) (width height : ℕ) (v w : WideView) → IsView buffers width height v
    → IsView buffers width height w → v ≡ w

one_edit : (state : State) (r : Result State ModFault) (s t : State) (a b : List ℕ) → IsEditAnswer state r s a
    → IsEditAnswer state r t b → (s ≡ t) × (a ≡ b)
one_edit state (Ok made) s t a b h k = (h.0 ∙ sym k.0, h.1 ∙ sym k.1)
one_edit state (Err cause) s t a b h k = (h.0 ∙ sym k.0, h.1 ∙ sym k.1)

one_key : (state : State) (r : Result Move EditFault) (s t : State) (a b : List ℕ) → IsKeyAnswer state r s a
    → IsKeyAnswer state r t b → (s ≡ t) × (a ≡ b)
one_key state (Ok (KeyEdit mods to)) s t a b h k = one_edit state (edited (key_edit mods) state) s t a b h k
one_key state (Ok (MoveTo to)) s t a b h k = (h.0 ∙ sym k.0, h.1 ∙ sym k.1)
one_key state (Err fault) s t a b h k = (h.1 ∙ sym k.1, h.2 ∙ sym k.2)

one_leave : (n : ℕ) (state : State) (r : Result Edit LeaveFault) (s t : State) (a b : List ℕ)
    → IsLeaveAnswer n state r s a → IsLeaveAnswer n state r t b → (s ≡ t) × (a ≡ b)
one_leave n state (Ok edit) s t a b h k = one_edit state (edited edit state) s t a b h.2 k.2
one_leave n state (Err fault) s t a b h k = (h.1 ∙ sym k.1, h.2 ∙ sym k.2)

one_step : (state : State) (none : List ℕ) (r : Option State) (s t : State) (a b : List ℕ)
    → IsStepAnswer state none r s a → IsStepAnswer state none r t b → (s ≡ t) × (a ≡ b)
one_step state none (Some made) s t a b h k = (h.0 ∙ sym k.0, h.1 ∙ sym k.1)
one_step state none None s t a b h k = (h.0 ∙ sym k.0, h.1 ∙ sym k.1)

one_choice : (state : State) (r : Option ℕ) (s t : State) (a b : List ℕ) → IsChoice state r s a
    → IsChoice state r t b → (s ≡ t) × (a ≡ b)
one_choice state (Some number) s t a b h k = (h.0 ∙ sym k.0, h.1 ∙ sym k.1)
one_choice state None s t a b h k = (h.0 ∙ sym k.0, h.1 ∙ sym k.1)

one_go : (state : State) (numbers : List ℕ) (s t : State) (a b : List ℕ) → IsGoAnswer state numbers s a
    → IsGoAnswer state numbers t b → (s ≡ t) × (a ≡ b)
one_go state numbers s t a b (inl h) (inl k) = (goes_once state numbers s t h.0 k.0, h.1 ∙ sym k.1)
one_go state numbers s t a b (inl h) (inr k) = absurd (goes_or_not state numbers s k.0 h.0 k.1)
one_go state numbers s t a b (inr h) (inl k) = absurd (goes_or_not state numbers t h.0 k.0 h.1)
one_go state numbers s t a b (inr h) (inr k) =
    (h.2 ∙ sym k.2, h.3 ∙ ap astray_reply (astray_once state numbers h.0 k.0 h.1 k.1) ∙ sym k.3)

one_click : (state : State) (none : List ℕ) (r : Option BasedPlace) (s t : State) (a b : List ℕ)
    → IsClickAnswer state none r s a → IsClickAnswer state none r t b → (s ≡ t) × (a ≡ b)
one_click state none (Some p) s t a b h k = (h.0 ∙ sym k.0, h.1 ∙ sym k.1)
one_click state none None s t a b h k = (h.0 ∙ sym k.0, h.1 ∙ sym k.1)

one_asked : (width : ℕ) (v : WideView) (state : State) (it : Command) (s t : State) (a b : List ℕ)
    → IsAskedAnswer width v state it s a → IsAskedAnswer width v state it t b → (s ≡ t) × (a ≡ b)
one_asked width v state (Click r c) s t a b h k =
    one_click state (no_cell v width) (position_in v.units width r c) s t a b h k
one_asked width v state Left s t a b h k = one_key state (to_left (stops_of v.units) state.cursor) s t a b h k
one_asked width v state Right s t a b h k = one_key state (to_right (stops_of v.units) state.cursor) s t a b h k
one_asked width v state it s t a b h k = (h.0 ∙ sym k.0, h.1 ∙ sym k.1)

one_viewed : (law : OneView) (width height : ℕ) (state : State) (it : Command) (s t : State) (a b : List ℕ)
    → IsViewAnswer width height state it s a → IsViewAnswer width height state it t b → (s ≡ t) × (a ≡ b)
one_viewed law width height state it s t a b h k =
    one_asked width h.0 state it s t a b h.2
    (subst (λ v. IsAskedAnswer width v state it t b) (law state.buffers width height k.0 h.0 k.1 h.1) k.2)

pub one_answer : (law : OneView) (width height : ℕ) (state : State) (it : Command) (s t : State) (a b : List ℕ)
    → IsAnswer width height state it s a → IsAnswer width height state it t b → (s ≡ t) × (a ≡ b)
one_answer law width height state (Change m) s t a b h k =
    one_edit state (edited (selected_edit state m) state) s t a b h k
one_answer law width height state Undo s t a b h k = one_step state (codes "no undo") (undone_state state) s t a b h k
one_answer law width height state (UndoAt n) s t a b h k = one_leave n state (leaving n state) s t a b h k
one_answer law width height state Redo s t a b h k = one_step state (codes "no redo") (redone_state state) s t a b h k
one_answer law width height state (At name) s t a b h k = one_choice state (number_of state.buffers name) s t a b h k
one_answer law width height state (Go numbers) s t a b h k = one_go state numbers s t a b h k
one_answer law width height state (Typed text) s t a b h k = one_key state (by_typing state text) s t a b h k
one_answer law width height state Backspace s t a b h k = one_key state (by_backspace state) s t a b h k
one_answer law width height state Enter s t a b h k = one_key state (by_enter state) s t a b h k
one_answer law width height state Cursor s t a b h k = (h.0 ∙ sym k.0, h.1 ∙ sym k.1)
one_answer law width height state Tree s t a b h k = (h.0 ∙ sym k.0, h.1 ∙ sym k.1)
one_answer law width height state (Save name) s t a b h k = (h.0 ∙ sym k.0, h.1 ∙ sym k.1)
one_answer law width height state Work s t a b h k = absurd h
one_answer law width height state Quit s t a b h k = (h.0 ∙ sym k.0, h.1 ∙ sym k.1)
one_answer law width height state (Click r c) s t a b h k = one_viewed law width height state (Click r c) s t a b h k
one_answer law width height state Left s t a b h k = one_viewed law width height state Left s t a b h k
one_answer law width height state Right s t a b h k = one_viewed law width height state Right s t a b h k
one_answer law width height state Show s t a b h k = one_viewed law width height state Show s t a b h k
one_answer law width height state (Page n) s t a b h k = one_viewed law width height state (Page n) s t a b h k
one_answer law width height state Errors s t a b h k = one_viewed law width height state Errors s t a b h k
one_answer law width height state (PlaceOf r c) s t a b h k =
    one_viewed law width height state (PlaceOf r c) s t a b h k
one_answer law width height state (Attrs r) s t a b h k = one_viewed law width height state (Attrs r) s t a b h k
