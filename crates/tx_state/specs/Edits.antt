-- What edits, undo, redo, a move of the cursor and a choice of a buffer make of a state.
use Rattle.std.specs.Prelude.{◌≡◌, ◌⊎◌, ◌==◌, ℕ, if◌then◌else◌, List, [], ◌∷◌, ◌++◌}
use Rattle.std.specs.Prelude.{take, Option, Some, None, Result, Ok, Err, IfSome}
use Rattle.std.specs.Option.{option_map_or}
use Rattle.tx_tree.specs.WideTree.{WideTree}
use Rattle.tx_tree.specs.Places.{IsPlace, IsPlaceFault}
use Rattle.tx_tree.specs.declared.faults.PlaceFault.{PlaceFault}
use Rattle.tx_tree.specs.declared.faults.PlaceFault.TheVariants.{NoPath}
use Rattle.tx_tree.specs.declared.places.Place.{Place}
use Rattle.tx_mod.specs.declared.mods.Mod.{Mod}
use Rattle.tx_mod.specs.declared.faults.ModFault.{ModFault}
use Rattle.tx_mod.specs.Changes.{Outcome}
use Rattle.tx_mod.specs.InTurn.{changed_in_turn, moved_in_turn}
use Rattle.tx_mod.specs.Moves.{place}
use Rattle.tx_doc.specs.Buffers.{tree_of, with_tree, document_of, number_of}
use Rattle.tx_state.specs.declared.TheConstants.{MOST_UNDO}
use Rattle.tx_state.specs.declared.edits.Edit.{Edit}
use Rattle.tx_state.specs.States.{State, KeptEdit, present}

-- Where the cursor is after an edit: where the edit says, or where its modifications of the document move it. An
-- edit of another buffer leaves it.
abbrev pub cursor_after : Edit → State → Place
cursor_after edit state =
    option_map_or (λ at. at) edit.cursor
    (if edit.buffer == 0 then moved_in_turn edit.mods (document_of state.buffers) state.cursor else state.cursor)

-- a cursor that the edit gives is a place of the document afterwards
abbrev pub GivesPlace : Edit → State → Type 0
GivesPlace edit state =
    (u : WideTree) → changed_in_turn edit.mods (tree_of state.buffers edit.buffer) ≡ Ok u
    → IfSome edit.cursor (λ at. IsPlace (document_of (with_tree state.buffers edit.buffer u)) at.path at.offset)

-- The state with the tree u in this buffer and this cursor, where modifications led there. The former moment can be
-- taken back, within the limit of the history, and what was taken back before can't be made again.
abbrev pub edited_to : ℕ → List Mod → WideTree → Place → State → State
edited_to buffer mods u cursor state =
    record {
      buffers = with_tree state.buffers buffer u;
      selected = state.selected;
      cursor = cursor;
      past = take MOST_UNDO (record { moment = present state; buffer = buffer; mods = mods } ∷ state.past);
      future = [];
    }

abbrev pub with_outcome : Edit → State → Outcome → Result State ModFault
with_outcome edit state (Ok u) = Ok (edited_to edit.buffer edit.mods u (cursor_after edit state) state)
with_outcome edit state (Err cause) = Err cause

-- the state after the edit, or the first cause why there is none
abbrev pub edited : Edit → State → Result State ModFault
edited edit state = with_outcome edit state (changed_in_turn edit.mods (tree_of state.buffers edit.buffer))

-- the edit seen from its other side
abbrev pub turned : State → KeptEdit → KeptEdit
turned state kept = record { moment = present state; buffer = kept.buffer; mods = kept.mods }

-- the state at the moment of an edit of the history
abbrev pub at_moment : State → KeptEdit → (past future : List KeptEdit) → State
at_moment state kept past future =
    record {
      buffers = kept.moment.buffers;
      selected = state.selected;
      cursor = kept.moment.cursor;
      past = past;
      future = future;
    }

-- the last edit is taken back, if there is one
abbrev pub back_to : State → List KeptEdit → Option State
back_to state [] = None
back_to state (kept ∷ past) = Some (at_moment state kept past (turned state kept ∷ state.future))

abbrev pub undone_state : State → Option State
undone_state state = back_to state state.past

-- the edit that was taken back last is made again, if there is one
abbrev pub on_to : State → List KeptEdit → Option State
on_to state [] = None
on_to state (kept ∷ future) = Some (at_moment state kept (turned state kept ∷ state.past) future)

abbrev pub redone_state : State → Option State
redone_state state = on_to state state.future

-- the cursor goes to a place of the document, which the numbers name, the offset last
abbrev pub CursorGoes : State → List ℕ → State → Type 0
CursorGoes state numbers next =
    (path : List ℕ) × (offset : ℕ) × (numbers ≡ path ++ offset ∷ []) × IsPlace (document_of state.buffers) path offset
    × (next ≡ record state { cursor = place path offset })

-- Why the numbers name no place of the document. Without a number there is no offset.
abbrev pub IsAstray : State → List ℕ → PlaceFault → Type 0
IsAstray state numbers fault =
    ((numbers ≡ []) × (fault ≡ NoPath 0))
    ⊎ ((path : List ℕ) × (offset : ℕ) × (numbers ≡ path ++ offset ∷ [])
    × IsPlaceFault (document_of state.buffers) path offset fault)

-- the buffer of this name is selected
abbrev pub Selects : State → List ℕ → State → Type 0
Selects state name next = (k : ℕ) × (number_of state.buffers name ≡ Some k) × (next ≡ record state { selected = k })
