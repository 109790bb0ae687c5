-- States after many edits, undos and redos.
use Rattle.std.specs.Prelude.{◌≡◌, ◌≤◌, ◌+◌, ◌-◌, ℕ, zero, suc, min, List, [], ◌∷◌}
use Rattle.std.specs.Prelude.{length, take, Option, Some, None, Ok, option_and_then}
use Rattle.tx_state.specs.declared.TheConstants.{MOST_UNDO}
use Rattle.tx_state.specs.declared.edits.Edit.{Edit}
use Rattle.tx_state.specs.States.{State}
use Rattle.tx_state.specs.Edits.{edited, undone_state, redone_state}

-- u is the state s after these edits, one after the other, each of which applies
abbrev pub IsEditedBy : List Edit → State → State → Type 0
IsEditedBy [] s u = u ≡ s
IsEditedBy (e ∷ es) s u = (next : State) × (edited e s ≡ Ok next) × IsEditedBy es next u

-- the state after n steps, if there are so many
abbrev pub done_times : (State → Option State) → ℕ → State → Option State
done_times step zero s = Some s
done_times step (suc n) s = option_and_then (done_times step n) (step s)

abbrev pub undone_times : ℕ → State → Option State
undone_times = done_times undone_state

abbrev pub redone_times : ℕ → State → Option State
redone_times = done_times redone_state

-- v is s again after n edits and n undos: what is edited, the selected buffer, the cursor, and the edits before, of
-- which the oldest made room
pub record IsRestored (n : ℕ) (s v : State) : Type 0 where
  pub buffers : v.buffers ≡ s.buffers
  pub selected : v.selected ≡ s.selected
  pub cursor : v.cursor ≡ s.cursor
  pub past : length s.past ≤ MOST_UNDO → v.past ≡ take (MOST_UNDO - n) s.past

-- as many undos as edits, if they are no more than the history holds, restore the state
abbrev pub Restores : List Edit → State → State → Type 0
Restores es s u = length es ≤ MOST_UNDO → IsEditedBy es s u
    → (v : State) × (undone_times (length es) u ≡ Some v) × IsRestored (length es) s v

-- There are as many undos as there were before and edits were made, within the limit of the history, and then no more.
abbrev pub RunsOut : List Edit → State → State → Type 0
RunsOut es s u =
    length s.past ≤ MOST_UNDO → IsEditedBy es s u
    → (w : State) × (undone_times (min (length s.past + length es) MOST_UNDO) u ≡ Some w) × (undone_state w ≡ None)
