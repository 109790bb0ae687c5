use Rattle.std.proofs.Common.{rules, refl, sym, ap, subst, ◌∙◌}
use Rattle.tx_state.specs.Edits.{undone_state}
use Rattle.tx_state.specs.Ready.{IsReadyUndo}
use Rattle.tx_state.proofs.Keeping.{undo_kept}
use Rattle.tx_state.proofs.state.EditorState.finish_undo.Goals as goal

pub invariant_of-self : goal.invariant_of-self
invariant_of-self c =
    (undo_kept c.self.inside
    (record {
      buffers = c.exchange-former.new.buffers;
      selected = c.self.inside.selected;
      cursor =
          c.exchange-former.new.cursor;
      history = c.undone.new.self;
    }) c.args.prepared c.in-Ok._entry c.undo.new.self.past
    c.self.invariant
    (subst (λ s. IsReadyUndo s c.args.prepared) (sym c.self.view_is) c.requires)
    (record { buffers = search rules; selected = refl; cursor = search rules; depth = search rules }) (search rules)
    (search rules) (search rules)).0

pub returns-clause-done : goal.returns-clause-done
returns-clause-done c =
    ap undone_state (sym c.self.view_is)
    ∙ (undo_kept c.self.inside
    (record {
      buffers = c.exchange-former.new.buffers;
      selected = c.self.inside.selected;
      cursor =
          c.exchange-former.new.cursor;
      history = c.undone.new.self;
    }) c.args.prepared c.in-Ok._entry c.undo.new.self.past
    c.self.invariant
    (subst (λ s. IsReadyUndo s c.args.prepared) (sym c.self.view_is) c.requires)
    (record { buffers = search rules; selected = refl; cursor = search rules; depth = search rules }) (search rules)
    (search rules) (search rules)).1
