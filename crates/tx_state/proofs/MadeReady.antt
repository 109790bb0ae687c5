-- What is ready.
use Rattle.std.proofs.Common.{◌≡◌, ℕ, zero, suc, ◌<◌, ◌≤◌, ◌+◌, ◌*◌, ◌-◌, Bool, true, false, List, [], ◌∷◌, ◌++◌}
use Rattle.std.proofs.Common.{length, take, drop, reverse, Option, Some, None, Ok, Err, refl, sym, ap, ◌∙◌, subst}
use Rattle.std.proofs.Common.{arith}
use Rattle.std.specs.Prelude.{◌==◌, IfSome, if◌then◌else◌, option_map}
use Rattle.std.proofs.lemmas.Bool.{eqb-true, eqb-false}
use Rattle.std.specs.Option.{option_map_or}
use Rattle.tx_tree.specs.WideTree.{WideTree}
use Rattle.tx_tree.specs.Places.{IsPlace}
use Rattle.tx_tree.specs.declared.places.Place.{Place}
use Rattle.tx_mod.specs.declared.mods.Mod.{Mod}
use Rattle.tx_mod.specs.Changes.{Outcome}
use Rattle.tx_mod.specs.InTurn.{changed_in_turn, inverses_of, moved_in_turn, cost_of, AreUndone}
use Rattle.tx_history.specs.Lists.{last}
use Rattle.tx_history.proofs.Ends.{with_last, without_last}
use Rattle.tx_doc.specs.declared.buffer.Buffer.{Buffer}
use Rattle.tx_doc.specs.Buffers.{tree_of, with_tree, document_of}
use Rattle.tx_state.specs.declared.edits.Edit.{Edit}
use Rattle.tx_state.specs.declared.edits.Entry.{Entry}
use Rattle.tx_state.specs.declared.edits.Prepared.{Prepared}
use Rattle.tx_state.specs.declared.state.EditorState.TheInside.{Inside}
use Rattle.tx_state.specs.States.{State, KeptEdit, present}
use Rattle.tx_state.specs.Edits.{edited, edited_to, cursor_after, with_outcome, GivesPlace, undone_state, redone_state}
use Rattle.tx_state.specs.Ready.{IsReadyChange, IsReadyUndo, IsReadyRedo, with_edit, with_undo, with_redo}
use Rattle.tx_state.specs.Ready.{cost_both_ways, first_cost}
use Rattle.tx_state.specs.Entries.{led_to, kept_edits, undoes, redoes, EntryLeads, EntriesLead}
use Rattle.tx_state.specs.Changing.{IsPlaceIn, IsAlong}
use Rattle.tx_state.specs.Kept.{stored_state, IsKept}
use Rattle.tx_state.proofs.Trees.{tree_put, document_kept}
use Rattle.tx_state.proofs.Moments.{led_there, kept_edit}
use Rattle.tx_state.proofs.Turning.{turned_round}
use Rattle.tx_state.proofs.Costs.{cost_back}

-- ---- edits

-- what is known of a change that was made ready for an edit
pub record IsMadeReady (s : State) (edit : Edit) (p : Prepared) (place : Option Place) : Type 0 where
  pub within : edit.buffer < length s.buffers
  pub buffer : p.buffer ≡ edit.buffer
  pub mods : p.mods ≡ edit.mods
  pub tree : changed_in_turn edit.mods (tree_of s.buffers edit.buffer) ≡ Ok p.tree
  pub back : p.back ≡ inverses_of edit.mods (tree_of s.buffers edit.buffer)
  pub undone : AreUndone edit.mods (tree_of s.buffers edit.buffer) p.tree
  pub moved : place ≡ option_map (moved_in_turn edit.mods (tree_of s.buffers edit.buffer))
      (if edit.buffer == 0 then Some s.cursor else None)
  pub valid : IsPlaceIn p.tree place
  pub cursor : p.cursor ≡ option_map_or (λ q. q) edit.cursor (option_map_or (λ q. q) place s.cursor)

-- the cursor that an edit doesn't give
unless_given : (s : State) (edit : Edit) (b : Bool) (place : Option Place) → (b ≡ true → edit.buffer ≡ 0)
    → place ≡ option_map (moved_in_turn edit.mods (tree_of s.buffers edit.buffer)) (if b then Some s.cursor else None)
    → option_map_or (λ q. q) place s.cursor
    ≡ (if b then moved_in_turn edit.mods (document_of s.buffers) s.cursor else s.cursor)
unless_given s edit true place z h =
    ap (λ o. option_map_or (λ q. q) o s.cursor) h ∙ ap (λ k. moved_in_turn edit.mods (tree_of s.buffers k) s.cursor)
    (z refl)
unless_given s edit false place z h = ap (λ o. option_map_or (λ q. q) o s.cursor) h

valid_unless : (s : State) (edit : Edit) (u : WideTree) (b : Bool) (place : Option Place)
    → edit.buffer < length s.buffers → (b ≡ true → edit.buffer ≡ 0) → (b ≡ false → 0 < edit.buffer)
    → place ≡ option_map (moved_in_turn edit.mods (tree_of s.buffers edit.buffer)) (if b then Some s.cursor else None)
    → IsPlaceIn u place
    → IsPlace (document_of s.buffers) s.cursor.path s.cursor.offset
    → IsPlace (document_of (with_tree s.buffers edit.buffer u)) (option_map_or (λ q. q) place s.cursor).path
    (option_map_or (λ q. q) place s.cursor).offset
valid_unless s edit u true place lt z n h valid at =
    let q : Place = moved_in_turn edit.mods (tree_of s.buffers edit.buffer) s.cursor in
    let there : document_of (with_tree s.buffers edit.buffer u) ≡ u =
    ap (λ k. document_of (with_tree s.buffers k u)) (z refl)
    ∙ tree_put s.buffers 0 u (subst (λ k. k < length s.buffers) (z refl) lt) in
    rw (h, there) (subst (IsPlaceIn u) h valid)
valid_unless s edit u false place lt z n h valid at = rw (h, document_kept s.buffers edit.buffer u (n refl) lt) at

valid_cursor : (s : State) (edit : Edit) (u : WideTree) (o : Option Place) (d : Place)
    → IfSome o (λ at. IsPlace (document_of (with_tree s.buffers edit.buffer u)) at.path at.offset)
    → IsPlace (document_of (with_tree s.buffers edit.buffer u)) d.path d.offset
    → IsPlace (document_of (with_tree s.buffers edit.buffer u)) (option_map_or (λ q. q) o d).path
    (option_map_or (λ q. q) o d).offset
valid_cursor s edit u None d given h = h
valid_cursor s edit u (Some at) d given h = given

pub made_ready : (s : State) (edit : Edit) (p : Prepared) (place : Option Place)
    → IsPlace (document_of s.buffers) s.cursor.path s.cursor.offset → GivesPlace edit s → IsMadeReady s edit p place
    → IsReadyChange s p × (p.cursor ≡ cursor_after edit s) × (edited edit s ≡ Ok (with_edit s p))
made_ready s edit p place at gives m =
    let zero_if : (edit.buffer == 0) ≡ true → edit.buffer ≡ 0 = λ t. eqb-true edit.buffer 0 t in
    let some_if : (edit.buffer == 0) ≡ false → 0 < edit.buffer = λ t.
    some_number edit.buffer (eqb-false edit.buffer 0 t) in
    let is : p.cursor ≡ cursor_after edit s =
    m.cursor ∙ ap (λ d. option_map_or (λ q. q) edit.cursor d)
    (unless_given s edit (edit.buffer == 0) place zero_if m.moved) in
    let valid : IsPlace (document_of (with_tree s.buffers edit.buffer p.tree)) p.cursor.path p.cursor.offset =
    subst (λ d. IsPlace (document_of (with_tree s.buffers edit.buffer p.tree)) d.path d.offset) (sym m.cursor)
    (valid_cursor s edit p.tree edit.cursor (option_map_or (λ q. q) place s.cursor) (gives p.tree m.tree)
    (valid_unless s edit p.tree (edit.buffer == 0) place m.within zero_if some_if m.moved m.valid at)) in (
      record {
        buffer = rw m.buffer m.within;
        tree = rw (m.buffer, m.mods) m.tree;
        inverses = rw (m.buffer, m.mods) m.back;
        back = rw (m.buffer, m.back) m.undone.back;
        again = rw (m.back, m.mods) m.undone.again;
        cursor = subst (λ k. IsPlace (document_of (with_tree s.buffers k p.tree)) p.cursor.path p.cursor.offset)
            (sym m.buffer) valid;
      },
      is,
      ap (with_outcome edit s) m.tree
          ∙ ap (λ k. Ok (edited_to k edit.mods p.tree (cursor_after edit s) s)) (sym m.buffer)
          ∙ ap (λ ms. Ok (edited_to p.buffer ms p.tree (cursor_after edit s) s)) (sym m.mods)
          ∙ ap (λ d. Ok (edited_to p.buffer p.mods p.tree d s)) (sym is),
    )
  where
    some_number : (k : ℕ) → (k ≡ 0 → ⊥) → 0 < k
    some_number zero h = absurd (h refl)
    some_number (suc k) h = omega arith

-- ---- undo and redo

along_there : (bs : List Buffer) (e : Entry) (p : Prepared) → IsAlong bs e p
    → led_to bs e ≡ with_tree bs p.buffer p.tree
along_there bs e p a = led_there bs e p.tree a.tree ∙ ap (λ k. with_tree bs k p.tree) (sym a.buffer)

along_ready : (s : State) (e : Entry) (p : Prepared) → EntryLeads s.buffers e
    → IsAlong s.buffers e p → IsReadyChange s p
along_ready s e p leads a =
    record {
      buffer = rw a.buffer leads.buffer;
      tree = rw (a.buffer, a.mods) a.tree;
      inverses = rw (a.buffer, a.mods) a.back;
      back = rw (a.buffer, a.back) a.undone.back;
      again = rw (a.back, a.mods) a.undone.again;
      cursor = subst (λ d. IsPlace (document_of (with_tree s.buffers p.buffer p.tree)) d.path d.offset) (sym a.cursor)
          (subst (λ cs. IsPlace (document_of cs) e.cursor.path e.cursor.offset) (along_there s.buffers e p a)
          leads.cursor);
    }

-- what is known where an entry is the newest of its list
record IsNewest (entries : List Entry) (e : Entry) : Type 0 where
  rest : List Entry
  is : reverse entries ≡ e ∷ rest

newest_of : (entries : List Entry) (e : Entry) → last entries ≡ Some e → IsNewest entries e
newest_of entries e h =
    let front : List Entry = take (length entries - 1) entries in
    record { rest = reverse front; is = turned_round front e entries (with_last entries e h) }

-- what an undo and a redo promise beside the change that is ready
pub record IsUndoReady (s : State) (p : Prepared) : Type 0 where
  pub ready : IsReadyUndo s p
  pub inverses : (e : KeptEdit) (past : List KeptEdit) → s.past ≡ e ∷ past
      → (p.buffer ≡ e.buffer) × (p.mods ≡ inverses_of e.mods (tree_of e.moment.buffers e.buffer))

pub record IsRedoReady (s : State) (p : Prepared) : Type 0 where
  pub ready : IsReadyRedo s p
  pub same : (e : KeptEdit) (future : List KeptEdit) → s.future ≡ e ∷ future → (p.buffer ≡ e.buffer) × (p.mods ≡ e.mods)

first_same : (x y : KeptEdit) (xs ys : List KeptEdit) → x ∷ xs ≡ y ∷ ys → x ≡ y
first_same x y xs ys h = cc

pub undo_leads : (s : Inside) (e : Entry) → IsKept s → last s.history.past ≡ Some e → EntryLeads s.buffers.items e
undo_leads s e kept h = let all : EntriesLead s.buffers.items (e ∷ (newest_of s.history.past e h).rest) =
    subst (EntriesLead s.buffers.items) (newest_of s.history.past e h).is kept.past in all.0

pub redo_leads : (s : Inside) (e : Entry) → IsKept s → last s.history.future ≡ Some e → EntryLeads s.buffers.items e
redo_leads s e kept h = let all : EntriesLead s.buffers.items (e ∷ (newest_of s.history.future e h).rest) =
    subst (EntriesLead s.buffers.items) (newest_of s.history.future e h).is kept.future in all.0

pub undo_cost : (s : Inside) (e : Entry) → IsKept s → last s.history.past ≡ Some e
    → cost_both_ways e.mods ≡ first_cost (stored_state s).past
undo_cost s e kept h =
    let leads = undo_leads s e kept h in
    ap (λ n. 2 * n) (sym (cost_back e.mods (tree_of s.buffers.items e.buffer) leads.applies.0 leads.applies.1))
    ∙ ap (λ es. first_cost (kept_edits undoes s.buffers.items es)) (sym (newest_of s.history.past e h).is)

pub redo_cost : (s : Inside) (e : Entry) → IsKept s → last s.history.future ≡ Some e
    → cost_both_ways e.mods ≡ first_cost (stored_state s).future
redo_cost s e kept h =
    ap (λ es. first_cost (kept_edits redoes s.buffers.items es)) (sym (newest_of s.history.future e h).is)

pub undo_ready : (s : Inside) (p : Prepared) (e : Entry) → IsKept s → last s.history.past ≡ Some e
    → IsAlong s.buffers.items e p → IsUndoReady (stored_state s) p
undo_ready s p e kept h a =
    let bs : List Buffer = s.buffers.items in
    let n = newest_of s.history.past e h in
    let es : List Entry = n.rest in
    let all : EntriesLead bs (e ∷ es) = subst (EntriesLead bs) n.is kept.past in
    let there = along_there bs e p a in
    let t : WideTree = tree_of bs e.buffer in
    let now : KeptEdit = record { moment = present (stored_state s); buffer = e.buffer; mods = undoes bs e } in
    let future : List KeptEdit = (stored_state s).future in
    let behind : kept_edits undoes (led_to bs e) es ≡ drop 1 (kept_edits undoes bs (reverse s.history.past)) =
    ap (λ xs. drop 1 (kept_edits undoes bs xs)) (sym n.is) in
    let turned_is : now ≡ record { moment = present (stored_state s); buffer = p.buffer; mods = p.back } =
    ap (λ k. record { moment = present (stored_state s); buffer = k; mods = undoes bs e }) (sym a.buffer)
    ∙ ap (λ ms. record { moment = present (stored_state s); buffer = p.buffer; mods = ms }) (sym a.back) in
    record {
      ready = record {
        ready = along_ready (stored_state s) e p all.0 a;
        is = ap (λ xs.
            undone_state (record {
              buffers = bs;
              selected = s.selected;
              cursor = s.cursor;
              past = kept_edits undoes bs xs;
              future = future;
            })) n.is
            ∙ ap (λ cs.
            Some (record {
              buffers = cs;
              selected = s.selected;
              cursor = e.cursor;
              past = kept_edits undoes (led_to bs e) es;
              future = now ∷ future;
            })) there
            ∙ ap (λ d. Some
            (record {
              buffers = with_tree bs p.buffer p.tree;
              selected = s.selected;
              cursor = d;
              past = kept_edits undoes (led_to bs e) es;
              future = now ∷ future;
            })) (sym a.cursor)
            ∙ ap (λ ks.
            Some (record {
              buffers = with_tree bs p.buffer p.tree;
              selected = s.selected;
              cursor = p.cursor;
              past = ks;
              future = now ∷ future;
            })) behind
            ∙ ap (λ k. Some
            (record {
              buffers = with_tree bs p.buffer p.tree;
              selected = s.selected;
              cursor = p.cursor;
              past = drop 1 (kept_edits undoes bs (reverse s.history.past));
              future = k ∷ future;
            })) turned_is;
      };
      inverses = λ k past g.
          let same : kept_edit undoes bs e ≡ k =
          first_same (kept_edit undoes bs e) k (kept_edits undoes (led_to bs e) es) past
          (ap (kept_edits undoes bs) (sym n.is) ∙ g) in
          let put : tree_of (led_to bs e) e.buffer ≡ p.tree =
          ap (λ cs. tree_of cs e.buffer) (led_there bs e p.tree a.tree)
          ∙ tree_put bs e.buffer p.tree all.0.buffer in
          let back : inverses_of (inverses_of e.mods t) (tree_of (led_to bs e) e.buffer) ≡ e.mods =
          ap (inverses_of (inverses_of e.mods t)) put ∙ a.undone.again in (
            a.buffer ∙ ap (λ x. x.buffer) same,
            a.mods ∙ sym back ∙ ap (λ x. inverses_of x.mods (tree_of x.moment.buffers x.buffer)) same,
          );
    }

pub redo_ready : (s : Inside) (p : Prepared) (e : Entry) → IsKept s → last s.history.future ≡ Some e
    → IsAlong s.buffers.items e p → IsRedoReady (stored_state s) p
redo_ready s p e kept h a =
    let bs : List Buffer = s.buffers.items in
    let n = newest_of s.history.future e h in
    let es : List Entry = n.rest in
    let all : EntriesLead bs (e ∷ es) = subst (EntriesLead bs) n.is kept.future in
    let there = along_there bs e p a in
    let now : KeptEdit = record { moment = present (stored_state s); buffer = e.buffer; mods = e.mods } in
    let past : List KeptEdit = (stored_state s).past in
    let behind : kept_edits redoes (led_to bs e) es ≡ drop 1 (kept_edits redoes bs (reverse s.history.future)) =
    ap (λ xs. drop 1 (kept_edits redoes bs xs)) (sym n.is) in
    let turned_is : now ≡ record { moment = present (stored_state s); buffer = p.buffer; mods = p.mods } =
    ap (λ k. record { moment = present (stored_state s); buffer = k; mods = e.mods }) (sym a.buffer)
    ∙ ap (λ ms. record { moment = present (stored_state s); buffer = p.buffer; mods = ms }) (sym a.mods) in
    record {
      ready = record {
        ready = along_ready (stored_state s) e p all.0 a;
        is = ap (λ xs.
            redone_state (record {
              buffers = bs;
              selected = s.selected;
              cursor = s.cursor;
              past = past;
              future =
                  kept_edits redoes bs xs;
            })) n.is
            ∙ ap (λ cs.
            Some (record {
              buffers = cs;
              selected = s.selected;
              cursor = e.cursor;
              past = now ∷ past;
              future =
                  kept_edits redoes (led_to bs e) es;
            })) there
            ∙ ap (λ d. Some
            (record {
              buffers = with_tree bs p.buffer p.tree;
              selected = s.selected;
              cursor = d;
              past = now ∷ past;
              future = kept_edits redoes (led_to bs e) es;
            })) (sym a.cursor)
            ∙ ap (λ ks.
            Some (record {
              buffers = with_tree bs p.buffer p.tree;
              selected = s.selected;
              cursor = p.cursor;
              past = now ∷ past;
              future = ks;
            })) behind
            ∙ ap (λ k. Some
            (record {
              buffers = with_tree bs p.buffer p.tree;
              selected = s.selected;
              cursor = p.cursor;
              past = k ∷ past;
              future = drop 1 (kept_edits redoes bs (reverse s.history.future));
            })) turned_is;
      };
      same = λ k future g.
          let one : kept_edit redoes bs e ≡ k =
          first_same (kept_edit redoes bs e) k (kept_edits redoes (led_to bs e) es) future
          (ap (kept_edits redoes bs) (sym n.is) ∙ g) in
          (a.buffer ∙ ap (λ x. x.buffer) one, a.mods ∙ ap (λ x. x.mods) one);
    }

-- where there is no entry there is no edit
pub no_undo : (s : Inside) → last s.history.past ≡ None → undone_state (stored_state s) ≡ None
no_undo s h =
    ap (λ xs. undone_state
    (record {
      buffers = s.buffers.items;
      selected = s.selected;
      cursor = s.cursor;
      past = kept_edits undoes s.buffers.items (reverse xs);
      future = (stored_state s).future;
    }))
    (without_last s.history.past h)

pub no_redo : (s : Inside) → last s.history.future ≡ None → redone_state (stored_state s) ≡ None
no_redo s h =
    ap (λ xs. redone_state
    (record {
      buffers = s.buffers.items;
      selected = s.selected;
      cursor = s.cursor;
      past = (stored_state s).past;
      future =
          kept_edits redoes s.buffers.items (reverse xs);
    })) (without_last s.history.future h)
