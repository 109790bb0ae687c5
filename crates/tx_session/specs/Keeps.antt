-- What commands make of what a session keeps of its view, and the steps that they take.
use Rattle.std.specs.Prelude.{◌≡◌, ◌≤◌, ◌⊎◌, ◌+◌, ◌*◌, ℕ, Bool, true, false, if◌then◌else◌, List, [], ◌∷◌}
use Rattle.std.specs.Prelude.{Option, Some, None, Result, Ok, Err, take}
use Rattle.std.specs.Option.{option_map_or}
use Rattle.tx_mod.specs.InTurn.{cost_of, inverses_of}
use Rattle.tx_mod.specs.declared.faults.ModFault.{ModFault}
use Rattle.tx_mod.specs.declared.mods.Mod.{Mod}
use Rattle.tx_doc.specs.Buffers.{tree_of}
use Rattle.tx_doc.specs.declared.buffer.Buffer.{Buffer}
use Rattle.tx_units.specs.Units.{made}
use Rattle.tx_state.specs.States.{State, KeptEdit}
use Rattle.tx_state.specs.Leaving.{leaving, mods_among}
use Rattle.tx_state.specs.declared.edits.Edit.{Edit as StateEdit}
use Rattle.tx_state.specs.declared.faults.LeaveFault.{LeaveFault}
use Rattle.tx_state.specs.Edits.{edited, undone_state, redone_state}
use Rattle.tx_edit.specs.declared.faults.EditFault.{EditFault}
use Rattle.tx_edit.specs.declared.moves.Move.{Move}
use Rattle.tx_edit.specs.declared.moves.Move.TheVariants.{Edit, Go as MoveTo}
use Rattle.tx_cmd.specs.declared.command.Command.{Command}
use Rattle.tx_cmd.specs.declared.command.Command.TheVariants.{Change, Undo, Redo, Typed, Backspace, Enter, UndoAt}
use Rattle.tx_view.specs.Names.{Fresh, Bound, Carry}
use Rattle.tx_view.specs.Stores.{IsPartlyFresh}
use Rattle.tx_session.specs.Effects.{asks_view, keeps_buffers}
use Rattle.tx_session.specs.States.{selected_edit, key_edit, by_typing, by_backspace, by_enter}
use Rattle.tx_session.specs.Worlds.{Keep, WholeSession, LineMark, plain, lacking, unsaved, told}

-- ---- what is cached

-- after a refresh, which does nothing where the view is fresh
abbrev pub refreshed : List Buffer → Keep → Keep
refreshed buffers k =
    if k.fresh then k else record { fresh = true; stores = Fresh buffers; work = Bound k.stores }

-- after modifications of a buffer, which make the new buffers of the old ones
abbrev pub carried_keep : List Buffer → List Buffer → Keep → ℕ × List Mod → Keep
carried_keep old new k edit =
    record { fresh = false; stores = Carry edit.0 edit.1 old k.stores new; work = k.work }

abbrev pub key_mods : Result Move EditFault → Option (ℕ × List Mod)
key_mods (Ok (Edit mods to)) = Some (0, mods)
key_mods (Ok (MoveTo to)) = None
key_mods (Err fault) = None

-- taking an edit back goes by the inverses of its modifications
abbrev pub undone_mods : List KeptEdit → Option (ℕ × List Mod)
undone_mods [] = None
undone_mods (kept ∷ others) =
    Some (kept.buffer, inverses_of kept.mods (tree_of kept.moment.buffers kept.buffer))

abbrev pub redone_mods : List KeptEdit → Option (ℕ × List Mod)
redone_mods [] = None
redone_mods (kept ∷ others) = Some (kept.buffer, kept.mods)

-- what takes an earlier edit back
abbrev pub leave_mods : Result StateEdit LeaveFault → Option (ℕ × List Mod)
leave_mods (Ok edit) = Some (edit.buffer, edit.mods)
leave_mods (Err fault) = None

-- the buffer that a command changes, and by which modifications
abbrev pub command_mods : State → Command → Option (ℕ × List Mod)
command_mods state (Change m) = Some (state.selected, m ∷ [])
command_mods state (Typed text) = key_mods (by_typing state text)
command_mods state Backspace = key_mods (by_backspace state)
command_mods state Enter = key_mods (by_enter state)
command_mods state Undo = undone_mods state.past
command_mods state (UndoAt n) = leave_mods (leaving n state)
command_mods state Redo = redone_mods state.future
command_mods state command = None

-- what is cached after a command that is done and leads to the next state
abbrev pub kept_after : State → Command → State → Keep → Keep
kept_after state command next k =
    if asks_view command then refreshed state.buffers k
    else if keeps_buffers state command then k
    else option_map_or (carried_keep state.buffers next.buffers k) (command_mods state command) k

-- Memory ran out in a refresh: some of the cache was brought up to date by then, and the rest is as before, or gone.
pub record IsBrokenOff (buffers : List Buffer) (k next : Keep) : Type 0 where
  pub stale : next.fresh ≡ false
  pub stores : IsPartlyFresh k.stores (Fresh buffers) next.stores
  pub work : next.work ≡ k.work

-- Where memory runs out, the cache is unchanged, but that a command which asks a view that isn't fresh may have
-- refreshed it, or begun to.
abbrev pub IsKeptLacking : (asks : Bool) → List Buffer → Keep → Keep → Type 0
IsKeptLacking true buffers k next =
    (k.fresh ≡ true → next ≡ k) × ((next ≡ refreshed buffers k) ⊎ IsBrokenOff buffers k next)
IsKeptLacking false buffers k next = next ≡ k

-- what is cached after a command with this mark; the number that is printed is that of the last refresh
abbrev pub Keeps : WholeSession → Command → LineMark → WholeSession → Type 0
Keeps before command plain after =
    after.keep ≡ kept_after before.seen.state command after.seen.state before.keep
Keeps before command (told n) after =
    (after.keep ≡ kept_after before.seen.state command after.seen.state before.keep) × (n ≡ after.keep.work)
Keeps before command lacking after =
    IsKeptLacking (asks_view command) before.seen.state.buffers before.keep after.keep
Keeps before command unsaved after = after.keep ≡ before.keep

-- ---- steps

-- An edit makes the nodes along the paths of its modifications anew, once for the change, once for the inverse and once
-- to carry the cache, and the nodes of units that are in no buffer.
abbrev pub edit_cost : List Mod → Result State ModFault → ℕ
edit_cost mods (Ok next) = 3 * cost_of mods + made next.buffers
edit_cost mods (Err cause) = 2 * cost_of mods

abbrev pub key_cost : State → Result Move EditFault → ℕ
key_cost state (Ok (Edit mods to)) = edit_cost mods (edited (key_edit mods) state)
key_cost state (Ok (MoveTo to)) = 0
key_cost state (Err fault) = 0

-- the edit that takes an earlier one back
abbrev pub leave_cost : State → Result StateEdit LeaveFault → ℕ
leave_cost state (Ok edit) = edit_cost edit.mods (edited edit state)
leave_cost state (Err fault) = 0

-- taking an edit back, or making it again
abbrev pub step_cost : List KeptEdit → Option (ℕ × List Mod) → Option State → ℕ
step_cost [] carried next = 0
step_cost (kept ∷ others) carried next =
    2 * cost_of kept.mods + option_map_or (λ c. cost_of c.1) carried 0 + option_map_or (λ s. made s.buffers) next 0

-- the most steps of a command that doesn't ask the view
abbrev pub most_steps : State → Command → ℕ
most_steps state (Change m) = edit_cost (m ∷ []) (edited (selected_edit state m) state)
most_steps state (Typed text) = key_cost state (by_typing state text)
most_steps state Backspace = key_cost state (by_backspace state)
most_steps state Enter = key_cost state (by_enter state)
most_steps state Undo = step_cost state.past (undone_mods state.past) (undone_state state)
most_steps state (UndoAt n) = 1609 * mods_among (take n state.past) + leave_cost state (leaving n state)
most_steps state Redo = step_cost state.future (redone_mods state.future) (redone_state state)
most_steps state _ = 0

-- the steps of a refresh; a fresh view takes none
abbrev pub refresh_cost : Keep → ℕ
refresh_cost k = if k.fresh then 0 else Bound k.stores

-- what a command takes, by whether it asks the view
abbrev pub TakesAsking : (asks : Bool) → WholeSession → Command → ℕ → ℕ → Type 0
TakesAsking true before command old new = new ≡ old + refresh_cost before.keep
TakesAsking false before command old new = new ≤ old + most_steps before.seen.state command

-- where memory ran out; nothing is said of a refresh that ran out of it
abbrev pub TakesLacking : (asks : Bool) → WholeSession → Command → ℕ → ℕ → Type 0
TakesLacking true before command old new = before.keep.fresh ≡ true → new ≡ old
TakesLacking false before command old new = new ≤ old + most_steps before.seen.state command

-- what a command with this mark takes
abbrev pub Takes : WholeSession → Command → LineMark → ℕ → ℕ → Type 0
Takes before command lacking old new = TakesLacking (asks_view command) before command old new
Takes before command mark old new = TakesAsking (asks_view command) before command old new
