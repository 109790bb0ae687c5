-- A state in hand after a change is put in place.
use Rattle.std.proofs.Common.{◌≡◌, ◌<◌, ◌≤◌, List, [], ◌∷◌, ◌++◌, length, take, drop, reverse, Some, refl, sym, ap, ◌∙◌}
use Rattle.std.proofs.Common.{subst}
use Rattle.tx_tree.specs.Places.{IsPlace}
use Rattle.tx_history.specs.Lists.{newest}
use Rattle.tx_doc.specs.declared.buffer.Buffer.{Buffer}
use Rattle.tx_doc.specs.Buffers.{with_tree, document_of, NamesDiffer}
use Rattle.tx_state.specs.declared.TheConstants.{MOST_UNDO}
use Rattle.tx_state.specs.declared.edits.Entry.{Entry}
use Rattle.tx_state.specs.declared.edits.Prepared.{Prepared}
use Rattle.tx_state.specs.declared.state.EditorState.TheInside.{Inside}
use Rattle.tx_state.specs.States.{State}
use Rattle.tx_state.specs.Edits.{undone_state, redone_state}
use Rattle.tx_state.specs.Ready.{IsReadyChange, IsReadyUndo, IsReadyRedo, with_edit, with_undo, with_redo}
use Rattle.tx_state.specs.Entries.{led_to, kept_edits, undoes, redoes, EntriesLead}
use Rattle.tx_state.specs.Kept.{stored_state, IsKept}
use Rattle.tx_state.proofs.Trees.{length_put, names_put}
use Rattle.tx_state.proofs.Moments.{entry_of, newest_turned, edits_of_take, lead_of_take}
use Rattle.tx_state.proofs.Turning.{IsLedBack, lead_back, undoes_back, redoes_back, turned_round}
use Rattle.tx_state.proofs.Restoring.{same_state}

-- what is put in place, apart from the history
pub record IsPut (s next : Inside) (p : Prepared) : Type 0 where
  pub buffers : next.buffers.items ≡ with_tree s.buffers.items p.buffer p.tree
  pub selected : next.selected ≡ s.selected
  pub cursor : next.cursor ≡ p.cursor
  pub depth : next.history.depth ≡ s.history.depth

led : (s : Inside) (p : Prepared) → IsKept s → IsReadyChange (stored_state s) p
    → IsLedBack s.buffers.items p.buffer p.tree p.back s.cursor
led s p kept r = record { within = r.buffer; returns = r.back; place = kept.cursor }

-- the fields after a change, with the entries that are known
record IsNext (s next : Inside) (p : Prepared) (past future : List Entry) : Type 0 where
  done : reverse next.history.past ≡ past
  left : reverse next.history.future ≡ future
  back : EntriesLead (with_tree s.buffers.items p.buffer p.tree) past
  on : EntriesLead (with_tree s.buffers.items p.buffer p.tree) future

next_kept : (s next : Inside) (p : Prepared) (past future : List Entry) → IsKept s → IsReadyChange (stored_state s) p
    → IsPut s next p → IsNext s next p past future → IsKept next
next_kept s next p past future kept r put h =
    let bs : List Buffer = with_tree s.buffers.items p.buffer p.tree in
    let same : bs ≡ next.buffers.items = sym put.buffers in
    let long : length s.buffers.items ≡ length next.buffers.items =
    sym (length_put s.buffers.items p.buffer p.tree r.buffer) ∙ ap length same in
    record {
      some = subst (λ n. 1 ≤ n) long kept.some;
      few = subst (λ n. n ≤ 64) long kept.few;
      names = subst NamesDiffer same (names_put s.buffers.items p.buffer p.tree r.buffer kept.names);
      selected = subst (λ n. next.selected < n) long
          (subst (λ n. n < length s.buffers.items) (sym put.selected) kept.selected);
      cursor = subst (λ d. IsPlace (document_of next.buffers.items) d.path d.offset) (sym put.cursor)
          (subst (λ cs. IsPlace (document_of cs) p.cursor.path p.cursor.offset) same r.cursor);
      past = subst (EntriesLead next.buffers.items) (sym h.done) (subst (λ cs. EntriesLead cs past) same h.back);
      future = subst (EntriesLead next.buffers.items) (sym h.left) (subst (λ cs. EntriesLead cs future) same h.on);
      depth = put.depth ∙ kept.depth;
    }

next_is : (s next : Inside) (p : Prepared) (past future : List Entry) → IsPut s next p → IsNext s next p past future
    → record {
      buffers = with_tree s.buffers.items p.buffer p.tree;
      selected = s.selected;
      cursor = p.cursor;
      past = kept_edits undoes (with_tree s.buffers.items p.buffer p.tree) past;
      future = kept_edits redoes (with_tree s.buffers.items p.buffer p.tree) future;
    }
    ≡ stored_state next
next_is s next p past future put h =
    rw (put.buffers, put.selected, put.cursor, h.done, h.left) refl

pub edit_kept : (s next : Inside) (p : Prepared) → IsKept s → IsReadyChange (stored_state s) p → IsPut s next p
    → next.history.past ≡ newest s.history.depth (s.history.past ++ entry_of p.buffer p.back s.cursor ∷ [])
    → next.history.future ≡ []
    → IsKept next × (with_edit (stored_state s) p ≡ stored_state next)
edit_kept s next p kept r put was empty =
    let bs : List Buffer = s.buffers.items in
    let l = led s p kept r in
    let e : Entry = entry_of p.buffer p.back s.cursor in
    let es : List Entry = e ∷ reverse s.history.past in
    let past : reverse next.history.past ≡ take MOST_UNDO es =
    ap reverse was ∙ newest_turned s.history.depth s.history.past e ∙ ap (λ k. take k es) kept.depth in
    let h : IsNext s next p (take MOST_UNDO es) [] =
    record {
      done = past;
      left = ap reverse empty;
      back = lead_of_take MOST_UNDO (with_tree bs p.buffer p.tree) es
          (lead_back bs p.buffer p.tree p.back s.cursor (reverse s.history.past) l kept.past);
      on = tt;
    } in
    let seen : kept_edits undoes (with_tree bs p.buffer p.tree) (take MOST_UNDO es)
    ≡ take MOST_UNDO
    (record { moment = record { buffers = bs; cursor = s.cursor }; buffer = p.buffer; mods = p.mods } ∷ kept_edits
    undoes bs (reverse s.history.past)) =
    edits_of_take undoes MOST_UNDO (with_tree bs p.buffer p.tree) es
    ∙ ap (take MOST_UNDO)
    (undoes_back bs p.buffer p.tree p.back p.mods s.cursor (reverse s.history.past) l r.again) in (
      next_kept s next p (take MOST_UNDO es) [] kept r put h,
      ap (λ ks. record {
        buffers = with_tree bs p.buffer p.tree;
        selected = s.selected;
        cursor = p.cursor;
        past = ks;
        future = [];
      }) (sym seen)
          ∙ next_is s next p (take MOST_UNDO es) [] put h,
    )

pub undo_kept : (s next : Inside) (p : Prepared) (e : Entry) (rest : List Entry) → IsKept s
    → IsReadyUndo (stored_state s) p → IsPut s next p
    → s.history.past ≡ rest ++ e ∷ [] → next.history.past ≡ rest
    → next.history.future ≡ s.history.future ++ entry_of p.buffer p.back s.cursor ∷ []
    → IsKept next × (undone_state (stored_state s) ≡ Some (stored_state next))
undo_kept s next p e rest kept r put was past future =
    let bs : List Buffer = s.buffers.items in
    let l = led s p kept r.ready in
    let f : Entry = entry_of p.buffer p.back s.cursor in
    let first : reverse s.history.past ≡ e ∷ reverse rest = turned_round rest e s.history.past was in
    let all : EntriesLead bs (e ∷ reverse rest) = subst (EntriesLead bs) first kept.past in
    let goes : undone_state (stored_state s) ≡ undone_state (seen_from s (e ∷ reverse rest)) =
    ap (λ es. undone_state (seen_from s es)) first in
    let there : led_to bs e ≡ with_tree bs p.buffer p.tree =
    ap (λ x. x.buffers) (same_state _ (with_undo (stored_state s) p) (sym goes ∙ r.is)) in
    let h : IsNext s next p (reverse rest) (f ∷ reverse s.history.future) =
    record {
      done = ap reverse past;
      left = turned_round s.history.future f next.history.future future;
      back = subst (λ cs. EntriesLead cs (reverse rest)) there all.1;
      on = lead_back bs p.buffer p.tree p.back s.cursor (reverse s.history.future) l kept.future;
    } in
    let behind : drop 1 (kept_edits undoes bs (reverse s.history.past)) ≡ kept_edits undoes
    (with_tree bs p.buffer p.tree) (reverse rest) =
    ap (λ es. drop 1 (kept_edits undoes bs es)) first ∙ ap (λ cs. kept_edits undoes cs (reverse rest)) there in (
      next_kept s next p (reverse rest) (f ∷ reverse s.history.future) kept r.ready put h,
      r.is
          ∙ ap (λ ks.
          Some (record {
            buffers = with_tree bs p.buffer p.tree;
            selected = s.selected;
            cursor = p.cursor;
            past = ks;
            future =
                record { moment = record { buffers = bs; cursor = s.cursor }; buffer = p.buffer; mods = p.back }
                ∷ kept_edits redoes bs (reverse s.history.future);
          })) behind
          ∙ ap (λ ks.
          Some (record {
            buffers = with_tree bs p.buffer p.tree;
            selected = s.selected;
            cursor = p.cursor;
            past = kept_edits undoes (with_tree bs p.buffer p.tree) (reverse rest);
            future = ks;
          }))
          (sym (redoes_back bs p.buffer p.tree p.back s.cursor (reverse s.history.future) l))
          ∙ ap (λ z. Some z) (next_is s next p (reverse rest) (f ∷ reverse s.history.future) put h),
    )
  where
    seen_from : Inside → List Entry → State
    seen_from s es =
        record {
          buffers = s.buffers.items;
          selected = s.selected;
          cursor = s.cursor;
          past = kept_edits undoes s.buffers.items es;
          future =
              kept_edits redoes s.buffers.items (reverse s.history.future);
        }

pub redo_kept : (s next : Inside) (p : Prepared) (e : Entry) (rest : List Entry) → IsKept s
    → IsReadyRedo (stored_state s) p → IsPut s next p
    → s.history.future ≡ rest ++ e ∷ [] → next.history.future ≡ rest
    → next.history.past ≡ s.history.past ++ entry_of p.buffer p.back s.cursor ∷ []
    → IsKept next × (redone_state (stored_state s) ≡ Some (stored_state next))
redo_kept s next p e rest kept r put was future past =
    let bs : List Buffer = s.buffers.items in
    let l = led s p kept r.ready in
    let f : Entry = entry_of p.buffer p.back s.cursor in
    let first : reverse s.history.future ≡ e ∷ reverse rest = turned_round rest e s.history.future was in
    let all : EntriesLead bs (e ∷ reverse rest) = subst (EntriesLead bs) first kept.future in
    let goes : redone_state (stored_state s) ≡ redone_state (seen_on s (e ∷ reverse rest)) =
    ap (λ es. redone_state (seen_on s es)) first in
    let there : led_to bs e ≡ with_tree bs p.buffer p.tree =
    ap (λ x. x.buffers) (same_state _ (with_redo (stored_state s) p) (sym goes ∙ r.is)) in
    let h : IsNext s next p (f ∷ reverse s.history.past) (reverse rest) =
    record {
      done = turned_round s.history.past f next.history.past past;
      left = ap reverse future;
      back = lead_back bs p.buffer p.tree p.back s.cursor (reverse s.history.past) l kept.past;
      on = subst (λ cs. EntriesLead cs (reverse rest)) there all.1;
    } in
    let behind : drop 1 (kept_edits redoes bs (reverse s.history.future)) ≡ kept_edits redoes
    (with_tree bs p.buffer p.tree) (reverse rest) =
    ap (λ es. drop 1 (kept_edits redoes bs es)) first ∙ ap (λ cs. kept_edits redoes cs (reverse rest)) there in (
      next_kept s next p (f ∷ reverse s.history.past) (reverse rest) kept r.ready put h,
      r.is
          ∙ ap (λ ks.
          Some (record {
            buffers = with_tree bs p.buffer p.tree;
            selected = s.selected;
            cursor = p.cursor;
            past = record { moment = record { buffers = bs; cursor = s.cursor }; buffer = p.buffer; mods = p.mods }
                ∷ kept_edits undoes bs (reverse s.history.past);
            future = ks;
          })) behind
          ∙ ap (λ ks.
          Some (record {
            buffers = with_tree bs p.buffer p.tree;
            selected = s.selected;
            cursor = p.cursor;
            past = ks;
            future = kept_edits redoes (with_tree bs p.buffer p.tree) (reverse rest);
          }))
          (sym (undoes_back bs p.buffer p.tree p.back p.mods s.cursor (reverse s.history.past) l r.ready.again))
          ∙ ap (λ z. Some z) (next_is s next p (f ∷ reverse s.history.past) (reverse rest) put h),
    )
  where
    seen_on : Inside → List Entry → State
    seen_on s es =
        record {
          buffers = s.buffers.items;
          selected = s.selected;
          cursor = s.cursor;
          past = kept_edits undoes s.buffers.items (reverse s.history.past);
          future =
              kept_edits redoes s.buffers.items es;
        }
