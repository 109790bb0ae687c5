-- What the entries of a history lead back to. Only private clauses cite this.
use Rattle.std.specs.Prelude.{◌≡◌, ◌<◌, List, [], ◌∷◌, length, unwrap_or, Ok}
use Rattle.tx_tree.specs.WideTree.{WideTree}
use Rattle.tx_tree.specs.Places.{IsPlace}
use Rattle.tx_mod.specs.declared.mods.Mod.{Mod}
use Rattle.tx_mod.specs.Followed.{outcome_tree as made_of}
use Rattle.tx_mod.specs.InTurn.{changed_in_turn, inverses_of}
use Rattle.tx_doc.specs.Buffers.{tree_of, with_tree, document_of}
use Rattle.tx_doc.specs.declared.buffer.Buffer.{Buffer}
use Rattle.tx_state.specs.declared.edits.Entry.{Entry}
use Rattle.tx_state.specs.States.{KeptEdit}

-- the buffers after the modifications of an entry
abbrev pub led_to : List Buffer → Entry → List Buffer
led_to buffers entry = with_tree buffers entry.buffer
    (unwrap_or (made_of (changed_in_turn entry.mods (tree_of buffers entry.buffer))) (tree_of buffers entry.buffer))

-- an entry of the past holds what takes the edit back, and one of the future the edit itself
abbrev pub undoes : List Buffer → Entry → List Mod
undoes buffers entry = inverses_of entry.mods (tree_of buffers entry.buffer)

abbrev pub redoes : List Buffer → Entry → List Mod
redoes buffers entry = entry.mods

-- the edits that entries lead along, one after the other
abbrev pub kept_edits : (List Buffer → Entry → List Mod) → List Buffer → List Entry → List KeptEdit
kept_edits mods buffers [] = []
kept_edits mods buffers (entry ∷ entries) =
    record {
      moment = record { buffers = led_to buffers entry; cursor = entry.cursor };
      buffer = entry.buffer;
      mods = mods buffers entry;
    } ∷ kept_edits mods (led_to buffers entry) entries

-- the modifications of an entry apply, and its cursor is a place of the document that it leads to
pub record EntryLeads (buffers : List Buffer) (entry : Entry) : Type 0 where
  pub buffer : entry.buffer < length buffers
  pub applies : (u : WideTree) × (changed_in_turn entry.mods (tree_of buffers entry.buffer) ≡ Ok u)
  pub cursor : IsPlace (document_of (led_to buffers entry)) entry.cursor.path entry.cursor.offset

-- all entries lead, in order, each from the buffers after the one before
abbrev pub EntriesLead : List Buffer → List Entry → Type 0
EntriesLead buffers [] = Unit {0}
EntriesLead buffers (entry ∷ entries) = EntryLeads buffers entry × EntriesLead (led_to buffers entry) entries
