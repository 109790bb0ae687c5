-- The result of a command: what it makes of the state, and the reply.
use Rattle.std.specs.Prelude.{◌≡◌, ◌≢◌, ◌⊎◌, ℕ, List, [], ◌∷◌, codes, length}
use Rattle.std.specs.Prelude.{Option, Some, None, Result, Ok, Err, IfOk}
use Rattle.tx_tree.specs.PathSpelling.{place_text}
use Rattle.tx_tree.specs.WideTree.{WideTree}
use Rattle.tx_tree.specs.declared.faults.PlaceFault.{PlaceFault}
use Rattle.tx_tree.specs.declared.places.Place.{Place}
use Rattle.tx_mod.specs.declared.faults.ModFault.{ModFault}
use Rattle.tx_mod.specs.declared.mods.Mod.{Mod}
use Rattle.tx_mod.specs.InTurn.{AreSoundMods}
use Rattle.tx_scm.specs.Canonical.{scheme_text}
use Rattle.tx_doc.specs.Forms.{form_of}
use Rattle.tx_doc.specs.Buffers.{document_of, tree_of, number_of}
use Rattle.tx_state.specs.States.{State}
use Rattle.tx_state.specs.Edits.{edited, undone_state, redone_state, CursorGoes, IsAstray}
use Rattle.tx_state.specs.Leaving.{leaving, tree_without}
use Rattle.tx_state.specs.declared.edits.Edit.{Edit}
use Rattle.tx_state.specs.declared.faults.LeaveFault.{LeaveFault}
use Rattle.tx_state.specs.declared.faults.LeaveFault.TheVariants.{Memory as LeaveMemory}
use Rattle.tx_edit.specs.declared.faults.EditFault.{EditFault}
use Rattle.tx_edit.specs.declared.faults.EditFault.TheVariants.{Memory}
use Rattle.tx_edit.specs.declared.moves.Move.{Move}
use Rattle.tx_edit.specs.declared.moves.Move.TheVariants.{Edit as KeyEdit, Go as MoveTo}
use Rattle.tx_edit.specs.Keys.{typed, erased, entered}
use Rattle.tx_edit.specs.Stops.{to_left, to_right}
use Rattle.tx_origin.specs.RelativePlaces.{BasedPlace}
use Rattle.tx_view_form.specs.Views.{WideView, IsView}
use Rattle.tx_view_form.specs.Positions.{position_in, whole_path}
use Rattle.tx_view_form.specs.Stops.{stops_of}
use Rattle.tx_print.specs.Pages.{show_text, page_reply}
use Rattle.tx_print.specs.Errors.{errors_text}
use Rattle.tx_print.specs.Places.{place_reply, no_cell}
use Rattle.tx_print.specs.Runs.{attrs_reply}
use Rattle.tx_cmd.specs.declared.command.Command.{Command}
use Rattle.tx_cmd.specs.declared.command.Command.TheVariants.{Change, Undo, Redo, At, Go, Click, Left, Right, Typed}
use Rattle.tx_cmd.specs.declared.command.Command.TheVariants.{Backspace, Enter, Show, Page, Errors, PlaceOf, Cursor}
use Rattle.tx_cmd.specs.declared.command.Command.TheVariants.{Attrs, Tree, Save, Work, Quit, UndoAt}
use Rattle.tx_print.specs.Lines.{line}
use Rattle.tx_session.specs.Causes.{numbered_line, cause_reply, astray_reply, key_reply, leave_reply}
use Rattle.tx_session.specs.Forms.{Saving, no_form, file_long, writes, saving}

-- the reply to what is no command
abbrev pub unknown_reply : List ℕ
unknown_reply = line (codes "no unknown")

-- the reply where something was done that has no reply of its own
abbrev pub done_reply : List ℕ
done_reply = line (codes "ok")

-- the tree of the selected buffer
abbrev pub selected_tree : State → WideTree
selected_tree state = tree_of state.buffers state.selected

-- one modification of the selected buffer
abbrev pub selected_edit : State → Mod → Edit
selected_edit state m = record { buffer = state.selected; mods = m ∷ []; cursor = None }

-- the modifications of a key, which are of the document, whichever buffer is selected, and move the cursor
abbrev pub key_edit : List Mod → Edit
key_edit mods = record { buffer = 0; mods = mods; cursor = None }

-- what keys make of the document at the cursor, or why nothing
abbrev pub by_typing : State → List ℕ → Result Move EditFault
by_typing state text = typed (document_of state.buffers) state.cursor text

abbrev pub by_backspace : State → Result Move EditFault
by_backspace state = erased (document_of state.buffers) state.cursor

abbrev pub by_enter : State → Result Move EditFault
by_enter state = entered (document_of state.buffers) state.cursor

-- an edit was done, or refused
abbrev pub IsEditAnswer : State → Result State ModFault → State → List ℕ → Type 0
IsEditAnswer state (Ok made) next reply = (next ≡ made) × (reply ≡ done_reply)
IsEditAnswer state (Err cause) next reply = (next ≡ state) × (reply ≡ cause_reply cause)

-- a key's modifications were done or refused, or the cursor went to a place, or the key does nothing
abbrev pub IsKeyAnswer : State → Result Move EditFault → State → List ℕ → Type 0
IsKeyAnswer state (Ok (KeyEdit mods to)) next reply = IsEditAnswer state (edited (key_edit mods) state) next reply
IsKeyAnswer state (Ok (MoveTo to)) next reply = (next ≡ record state { cursor = to }) × (reply ≡ done_reply)
IsKeyAnswer state (Err fault) next reply = (fault ≢ Memory) × (next ≡ state) × (reply ≡ key_reply fault)

-- The n-th last edit was taken back by an edit whose parts are well formed, and which was done or refused; or why there
-- is no such edit. Where it was done, the buffer's tree is the one that the later edits make without the n-th last.
abbrev pub IsLeaveAnswer : ℕ → State → Result Edit LeaveFault → State → List ℕ → Type 0
IsLeaveAnswer n state (Ok edit) next reply =
    AreSoundMods edit.mods
    × IfOk (edited edit state) (λ made. tree_without n state ≡ Some (tree_of made.buffers edit.buffer))
    × IsEditAnswer state (edited edit state) next reply
IsLeaveAnswer n state (Err fault) next reply = (fault ≢ LeaveMemory) × (next ≡ state) × (reply ≡ leave_reply fault)

-- an edit was taken back or made again, or there was none
abbrev pub IsStepAnswer : State → (none : List ℕ) → Option State → State → List ℕ → Type 0
IsStepAnswer state none (Some made) next reply = (next ≡ made) × (reply ≡ done_reply)
IsStepAnswer state none None next reply = (next ≡ state) × (reply ≡ line none)

-- the buffer of this number was selected, or there was none
abbrev pub IsChoice : State → Option ℕ → State → List ℕ → Type 0
IsChoice state (Some k) next reply = (next ≡ record state { selected = k }) × (reply ≡ done_reply)
IsChoice state None next reply = (next ≡ state) × (reply ≡ line (codes "no buffer"))

-- the cursor went to a place, or there was no such place
abbrev pub IsGoAnswer : State → List ℕ → State → List ℕ → Type 0
IsGoAnswer state numbers next reply =
    (CursorGoes state numbers next × (reply ≡ done_reply))
    ⊎ ((fault : PlaceFault) × IsAstray state numbers fault × (next ≡ state) × (reply ≡ astray_reply fault))

abbrev pub whole_place : BasedPlace → Place
whole_place p = record { path = whole_path p; offset = p.offset }

-- the cursor went to the place of a cell, or there is no such cell
abbrev pub IsClickAnswer : State → (none : List ℕ) → Option BasedPlace → State → List ℕ → Type 0
IsClickAnswer state none (Some p) next reply = (next ≡ record state { cursor = whole_place p }) × (reply ≡ done_reply)
IsClickAnswer state none None next reply = (next ≡ state) × (reply ≡ none)

-- the tree was saved, or why it wasn't
abbrev pub save_reply : Saving → List ℕ
save_reply no_form = line (codes "no form")
save_reply (file_long n) = numbered_line (codes "no file-long ") n
save_reply (writes bytes) = numbered_line (codes "saved ") (length bytes)

-- the name and the bytes of the file that is saved, if one is
abbrev pub file_saved : List ℕ → Saving → Option (List ℕ × List ℕ)
file_saved name (writes bytes) = Some (name, bytes)
file_saved name _ = None

abbrev pub saved_by : State → Command → Option (List ℕ × List ℕ)
saved_by state (Save name) = file_saved name (saving (form_of name) (selected_tree state))
saved_by state _ = None

-- what is printed of a view that is this wide
abbrev pub view_reply : ℕ → WideView → Command → List ℕ
view_reply width v Show = show_text v
view_reply width v (Page n) = page_reply v n
view_reply width v Errors = errors_text v
view_reply width v (PlaceOf r c) = place_reply v width r c
view_reply width v (Attrs r) = attrs_reply v width r
view_reply width v _ = []

-- the next state and the reply to a command that asks the view, where this is the view
abbrev pub IsAskedAnswer : ℕ → WideView → State → Command → State → List ℕ → Type 0
IsAskedAnswer width v state (Click r c) next reply =
    IsClickAnswer state (no_cell v width) (position_in v.units width r c) next reply
IsAskedAnswer width v state Left next reply = IsKeyAnswer state (to_left (stops_of v.units) state.cursor) next reply
IsAskedAnswer width v state Right next reply = IsKeyAnswer state (to_right (stops_of v.units) state.cursor) next reply
IsAskedAnswer width v state command next reply = (next ≡ state) × (reply ≡ view_reply width v command)

-- by the view of the buffers, which nothing but they and the size of a page decides
abbrev pub IsViewAnswer : ℕ → ℕ → State → Command → State → List ℕ → Type 0
IsViewAnswer width height state command next reply =
    (v : WideView) × IsView state.buffers width height v × IsAskedAnswer width v state command next reply

-- the next state and the reply to a command, on pages of this width and height
abbrev pub IsAnswer : ℕ → ℕ → State → Command → State → List ℕ → Type 0
IsAnswer width height state (Change m) next reply =
    IsEditAnswer state (edited (selected_edit state m) state) next reply
IsAnswer width height state Undo next reply = IsStepAnswer state (codes "no undo") (undone_state state) next reply
IsAnswer width height state (UndoAt n) next reply = IsLeaveAnswer n state (leaving n state) next reply
IsAnswer width height state Redo next reply = IsStepAnswer state (codes "no redo") (redone_state state) next reply
IsAnswer width height state (At name) next reply = IsChoice state (number_of state.buffers name) next reply
IsAnswer width height state (Go numbers) next reply = IsGoAnswer state numbers next reply
IsAnswer width height state (Typed text) next reply = IsKeyAnswer state (by_typing state text) next reply
IsAnswer width height state Backspace next reply = IsKeyAnswer state (by_backspace state) next reply
IsAnswer width height state Enter next reply = IsKeyAnswer state (by_enter state) next reply
IsAnswer width height state Cursor next reply =
    (next ≡ state) × (reply ≡ line (place_text state.cursor.path state.cursor.offset))
IsAnswer width height state Tree next reply = (next ≡ state) × (reply ≡ line (scheme_text (selected_tree state)))
IsAnswer width height state (Save name) next reply =
    (next ≡ state) × (reply ≡ save_reply (saving (form_of name) (selected_tree state)))
-- its reply is that of a number that is printed
IsAnswer width height state Work next reply = ⊥
IsAnswer width height state Quit next reply = (next ≡ state) × (reply ≡ [])
IsAnswer width height state command next reply = IsViewAnswer width height state command next reply
