use Rattle.std.proofs.Common.{rules, ◌≡◌, refl, subst, ap, ◌∙◌}
use Rattle.std.specs.Prelude.{option_map}
use Rattle.tx_tree.specs.Places.{IsPlace}
use Rattle.tx_mod.specs.InTurn.{moved_in_turn}
use Rattle.tx_doc.specs.Buffers.{document_of, tree_of}
use Rattle.tx_state.proofs.MadeReady.{made_ready}
use Rattle.tx_state.proofs.state.EditorState.prepare_edit.Goals as goal

pub returns-clause-ready : goal.returns-clause-ready
returns-clause-ready g c =
    (made_ready c.args.self.now c.args.edit
    (record {
      buffer = c.args.edit.buffer;
      tree = c.in_ok-changed.changed.tree;
      mods = c.args.edit.mods;
      back = c.from.result;
      cursor = c.in_ok-cursor.cursor;
    }) c.in_ok-changed.changed.place
    (subst (λ s. IsPlace (document_of s.buffers) s.cursor.path s.cursor.offset) c.self.view_is c.self.invariant.cursor)
    c.requires.cursor
    (
    let same : c.tree_at-tree.result.now ≡ tree_of c.args.self.now.buffers c.args.edit.buffer =
    c.tree_at-tree.ensures ∙ ap (λ bs. tree_of bs c.args.edit.buffer) c.deref.ensures.value
    ∙ ap (λ s. tree_of s.buffers c.args.edit.buffer) c.self.view_is in
    record {
      within = c.requires.buffer;
      buffer = refl;
      mods = refl;
      tree = rw (← same, ← c.as_slice.ensures) c.in_ok-changed.ensures.tree;
      back = c.from.ensures ∙ rw (← same, ← c.as_slice.ensures) c.in_ok-changed.ensures.back;
      undone = rw (← same, ← c.as_slice.ensures) c.in_ok-changed.ensures.undone;
      moved = rw (← same, ← c.as_slice.ensures)
          (c.in_ok-changed.ensures.place
          ∙ ap (option_map (moved_in_turn c.as_slice.result.now c.tree_at-tree.result.now)) c.in_ok-moving.ensures);
      valid = search rules;
      cursor = search rules;
    }
    )).0

pub returns-clause-edit : goal.returns-clause-edit
returns-clause-edit g c = (
  refl,
  refl,
  (made_ready c.args.self.now c.args.edit
      (record {
        buffer = c.args.edit.buffer;
        tree = c.in_ok-changed.changed.tree;
        mods = c.args.edit.mods;
        back = c.from.result;
        cursor = c.in_ok-cursor.cursor;
      }) c.in_ok-changed.changed.place
      (subst (λ s. IsPlace (document_of s.buffers) s.cursor.path s.cursor.offset) c.self.view_is
      c.self.invariant.cursor) c.requires.cursor
      (
      let same : c.tree_at-tree.result.now ≡ tree_of c.args.self.now.buffers c.args.edit.buffer =
      c.tree_at-tree.ensures ∙ ap (λ bs. tree_of bs c.args.edit.buffer) c.deref.ensures.value
      ∙ ap (λ s. tree_of s.buffers c.args.edit.buffer) c.self.view_is in
      record {
        within = c.requires.buffer;
        buffer = refl;
        mods = refl;
        tree = rw (← same, ← c.as_slice.ensures) c.in_ok-changed.ensures.tree;
        back = c.from.ensures ∙ rw (← same, ← c.as_slice.ensures) c.in_ok-changed.ensures.back;
        undone = rw (← same, ← c.as_slice.ensures) c.in_ok-changed.ensures.undone;
        moved = rw (← same, ← c.as_slice.ensures)
            (c.in_ok-changed.ensures.place
            ∙ ap (option_map (moved_in_turn c.as_slice.result.now c.tree_at-tree.result.now))
            c.in_ok-moving.ensures);
        valid = search rules;
        cursor = search rules;
      }
      )).1,
)

pub returns-clause-ok : goal.returns-clause-ok
returns-clause-ok g c =
    (made_ready c.args.self.now c.args.edit
    (record {
      buffer = c.args.edit.buffer;
      tree = c.in_ok-changed.changed.tree;
      mods = c.args.edit.mods;
      back = c.from.result;
      cursor = c.in_ok-cursor.cursor;
    }) c.in_ok-changed.changed.place
    (subst (λ s. IsPlace (document_of s.buffers) s.cursor.path s.cursor.offset) c.self.view_is c.self.invariant.cursor)
    c.requires.cursor
    (
    let same : c.tree_at-tree.result.now ≡ tree_of c.args.self.now.buffers c.args.edit.buffer =
    c.tree_at-tree.ensures ∙ ap (λ bs. tree_of bs c.args.edit.buffer) c.deref.ensures.value
    ∙ ap (λ s. tree_of s.buffers c.args.edit.buffer) c.self.view_is in
    record {
      within = c.requires.buffer;
      buffer = refl;
      mods = refl;
      tree = rw (← same, ← c.as_slice.ensures) c.in_ok-changed.ensures.tree;
      back = c.from.ensures ∙ rw (← same, ← c.as_slice.ensures) c.in_ok-changed.ensures.back;
      undone = rw (← same, ← c.as_slice.ensures) c.in_ok-changed.ensures.undone;
      moved = rw (← same, ← c.as_slice.ensures)
          (c.in_ok-changed.ensures.place
          ∙ ap (option_map (moved_in_turn c.as_slice.result.now c.tree_at-tree.result.now)) c.in_ok-moving.ensures);
      valid = search rules;
      cursor = search rules;
    }
    )).2
