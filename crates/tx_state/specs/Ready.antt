-- Changes that are ready, before they are put in place.
use Rattle.std.specs.Prelude.{◌≡◌, ◌<◌, ◌*◌, ℕ, List, [], ◌∷◌, length, drop, Some, Ok}
use Rattle.tx_tree.specs.WideTree.{WideTree}
use Rattle.tx_tree.specs.Places.{IsPlace}
use Rattle.tx_mod.specs.declared.mods.Mod.{Mod}
use Rattle.tx_mod.specs.InTurn.{changed_in_turn, inverses_of, cost_of}
use Rattle.tx_doc.specs.Buffers.{tree_of, with_tree, document_of}
use Rattle.tx_state.specs.declared.edits.Prepared.{Prepared}
use Rattle.tx_state.specs.Edits.{edited_to, undone_state, redone_state}
use Rattle.tx_state.specs.States.{State, KeptEdit, present}

-- What is ready leads from the state: its modifications make its tree of the buffer's tree, those that lead back
-- are their inverses and are undone by them, and its cursor is a place of the document afterwards.
pub record IsReadyChange (state : State) (p : Prepared) : Type 0 where
  pub buffer : p.buffer < length state.buffers
  pub tree : changed_in_turn p.mods (tree_of state.buffers p.buffer) ≡ Ok p.tree
  pub inverses : p.back ≡ inverses_of p.mods (tree_of state.buffers p.buffer)
  pub back : changed_in_turn p.back p.tree ≡ Ok (tree_of state.buffers p.buffer)
  pub again : inverses_of p.back p.tree ≡ p.mods
  pub cursor : IsPlace (document_of (with_tree state.buffers p.buffer p.tree)) p.cursor.path p.cursor.offset

-- the state with an edit put in place
abbrev pub with_edit : State → Prepared → State
with_edit state p = edited_to p.buffer p.mods p.tree p.cursor state

-- the state with an undo put in place: what leads back from there is the edit itself
abbrev pub with_undo : State → Prepared → State
with_undo state p =
    record {
      buffers = with_tree state.buffers p.buffer p.tree;
      selected = state.selected;
      cursor = p.cursor;
      past = drop 1 state.past;
      future = record { moment = present state; buffer = p.buffer; mods = p.back } ∷ state.future;
    }

-- the state with a redo put in place
abbrev pub with_redo : State → Prepared → State
with_redo state p =
    record {
      buffers = with_tree state.buffers p.buffer p.tree;
      selected = state.selected;
      cursor = p.cursor;
      past = record { moment = present state; buffer = p.buffer; mods = p.mods } ∷ state.past;
      future = drop 1 state.future;
    }

-- what is ready is the undo, or the redo, of this state
pub record IsReadyUndo (state : State) (p : Prepared) : Type 0 where
  pub ready : IsReadyChange state p
  pub is : undone_state state ≡ Some (with_undo state p)

pub record IsReadyRedo (state : State) (p : Prepared) : Type 0 where
  pub ready : IsReadyChange state p
  pub is : redone_state state ≡ Some (with_redo state p)

-- the steps that are allowed for a change and its inverses along all paths
abbrev pub cost_both_ways : List Mod → ℕ
cost_both_ways mods = 2 * cost_of mods

-- the steps that are allowed for the first of some edits, if there is one
abbrev pub first_cost : List KeptEdit → ℕ
first_cost [] = 0
first_cost (kept ∷ others) = cost_both_ways kept.mods
