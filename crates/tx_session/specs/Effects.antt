-- Which commands ask the view, and which change a buffer.
use Rattle.std.specs.Prelude.{is_err, is_none, Bool, true, false, Result, Ok, Err}
use Rattle.tx_cmd.specs.declared.command.Command.{Command}
use Rattle.tx_cmd.specs.declared.command.Command.TheVariants.{Change, Undo, Redo, Click, Left, Right, Typed, Backspace}
use Rattle.tx_cmd.specs.declared.command.Command.TheVariants.{Enter, Show, Page, Errors, PlaceOf, Attrs, Work, UndoAt}
use Rattle.tx_edit.specs.declared.faults.EditFault.{EditFault}
use Rattle.tx_edit.specs.declared.moves.Move.{Move}
use Rattle.tx_edit.specs.declared.moves.Move.TheVariants.{Edit, Go as MoveTo}
use Rattle.tx_state.specs.States.{State}
use Rattle.tx_state.specs.Leaving.{leaving}
use Rattle.tx_state.specs.declared.edits.Edit.{Edit as StateEdit}
use Rattle.tx_state.specs.declared.faults.LeaveFault.{LeaveFault}
use Rattle.tx_state.specs.Edits.{edited, undone_state, redone_state}
use Rattle.tx_session.specs.States.{selected_edit, key_edit, by_typing, by_backspace, by_enter}

-- the command asks the view, which is made where it isn't that of the present buffers
abbrev pub asks_view : Command → Bool
asks_view Show = true
asks_view (Page n) = true
asks_view Errors = true
asks_view (PlaceOf r c) = true
asks_view (Attrs r) = true
asks_view (Click r c) = true
asks_view Left = true
asks_view Right = true
asks_view Work = true
asks_view _ = false

-- a key does nothing, or its modifications are refused
abbrev pub key_fails : State → Result Move EditFault → Bool
key_fails state (Ok (Edit mods to)) = is_err (edited (key_edit mods) state)
key_fails state (Ok (MoveTo to)) = true
key_fails state (Err fault) = true

-- an earlier edit can't be taken back, or the edit that takes it back is refused
abbrev pub leave_fails : State → Result StateEdit LeaveFault → Bool
leave_fails state (Ok edit) = is_err (edited edit state)
leave_fails state (Err fault) = true

-- the command is refused, or changes no buffer
abbrev pub keeps_buffers : State → Command → Bool
keeps_buffers state (Change m) = is_err (edited (selected_edit state m) state)
keeps_buffers state (Typed text) = key_fails state (by_typing state text)
keeps_buffers state Backspace = key_fails state (by_backspace state)
keeps_buffers state Enter = key_fails state (by_enter state)
keeps_buffers state Undo = is_none (undone_state state)
keeps_buffers state (UndoAt n) = leave_fails state (leaving n state)
keeps_buffers state Redo = is_none (redone_state state)
keeps_buffers state _ = true
