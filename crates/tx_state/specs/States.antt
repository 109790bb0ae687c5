-- The state of a session: what is edited, where the cursor is, and what can be taken back and made again.
use Rattle.std.specs.Prelude.{ℕ, List, []}
use Rattle.tx_tree.specs.declared.places.Place.{Place}
use Rattle.tx_mod.specs.declared.mods.Mod.{Mod}
use Rattle.tx_doc.specs.Buffers.{document_of}
use Rattle.tx_doc.specs.declared.buffer.Buffer.{Buffer}
use Rattle.tx_state.specs.Cursors.{first_cursor}

-- all buffers, whole, and the cursor in buffer 0
pub record StateMoment : Type 0 where
  pub buffers : List Buffer
  pub cursor : Place

-- An edit that can be taken back, with the moment before it, or one that can be made again, with the moment after it:
-- the buffer that it changes, and its modifications.
pub record KeptEdit : Type 0 where
  pub moment : StateMoment
  pub buffer : ℕ
  pub mods : List Mod

-- The present moment and the number of the selected buffer; the edits that can be taken back, the last one first; and
-- those that were taken back, the last one taken back first.
pub record State : Type 0 where
  pub buffers : List Buffer
  pub selected : ℕ
  pub cursor : Place
  pub past : List KeptEdit
  pub future : List KeptEdit

abbrev pub present : State → StateMoment
present state = record { buffers = state.buffers; cursor = state.cursor }

-- a session begins with these buffers, the document selected
abbrev pub opening_state : List Buffer → State
opening_state buffers =
    record { buffers = buffers; selected = 0; cursor = first_cursor (document_of buffers); past = []; future = [] }
