-- What is known of a state in hand.
use Rattle.std.specs.Prelude.{◌≡◌, ◌≤◌, ◌<◌, ℕ, List, length, reverse, refl}
use Rattle.std.specs.Coded.{Coded, code_by, coded×, coded_list, coded_ℕ}
use Rattle.tx_tree.specs.declared.places.Place.{Place}
use Rattle.tx_tree.specs.contracts.places.Place as one_place
use Rattle.tx_tree.specs.Places.{IsPlace}
use Rattle.tx_mod.specs.declared.mods.Mod.{Mod}
use Rattle.tx_mod.specs.contracts.mods.Mod as one_mod
use Rattle.tx_doc.specs.Buffers.{document_of, NamesDiffer}
use Rattle.tx_doc.specs.declared.buffer.Buffer.{Buffer}
use Rattle.tx_doc.specs.contracts.buffer.Buffer as one_buffer
use Rattle.tx_state.specs.declared.TheConstants.{MOST_UNDO, MOST_BUFFERS}
use Rattle.tx_state.specs.declared.state.EditorState.TheInside.{Inside}
use Rattle.tx_state.specs.States.{State, StateMoment, KeptEdit}
use Rattle.tx_state.specs.Entries.{kept_edits, undoes, redoes, EntriesLead}

abbrev moment_code : Coded StateMoment
moment_code = code_by (List Buffer × Place) (coded× (coded_list one_buffer.the_row.coded) one_place.the_row.coded)
    (λ m. (m.buffers, m.cursor)) (λ p. record { buffers = p.0; cursor = p.1 }) (λ _. refl)

abbrev edit_code : Coded KeptEdit
edit_code =
    code_by (StateMoment × (ℕ × List Mod)) (coded× moment_code (coded× coded_ℕ (coded_list one_mod.the_row.coded)))
    (λ e. (e.moment, (e.buffer, e.mods)))
    (λ p. record { moment = p.0; buffer = p.1.0; mods = p.1.1 }) (λ _. refl)

abbrev pub state_code : Coded State
state_code =
    code_by (StateMoment × (ℕ × (List KeptEdit × List KeptEdit)))
    (coded× moment_code (coded× coded_ℕ (coded× (coded_list edit_code) (coded_list edit_code))))
    (λ s. (record { buffers = s.buffers; cursor = s.cursor }, (s.selected, (s.past, s.future))))
    (λ p. record { buffers = p.0.buffers; selected = p.1.0; cursor = p.0.cursor; past = p.1.1.0; future = p.1.1.1 })
    (λ _. refl)

-- the newest entry leads from the present moment
abbrev pub stored_state : Inside → State
stored_state s =
    record {
      buffers = s.buffers.items;
      selected = s.selected;
      cursor = s.cursor;
      past = kept_edits undoes s.buffers.items (reverse s.history.past);
      future = kept_edits redoes s.buffers.items (reverse s.history.future);
    }

pub record IsKept (s : Inside) : Type 0 where
  pub some : 1 ≤ length s.buffers.items
  pub few : length s.buffers.items ≤ MOST_BUFFERS
  pub names : NamesDiffer s.buffers.items
  pub selected : s.selected < length s.buffers.items
  pub cursor : IsPlace (document_of s.buffers.items) s.cursor.path s.cursor.offset
  pub past : EntriesLead s.buffers.items (reverse s.history.past)
  pub future : EntriesLead s.buffers.items (reverse s.history.future)
  pub depth : s.history.depth ≡ MOST_UNDO
