use Rattle.std.proofs.Common.{rules, refl, sym, ap, subst, ◌∙◌}
use Rattle.tx_state.specs.Ready.{IsReadyChange, with_edit}
use Rattle.tx_state.proofs.Keeping.{edit_kept}
use Rattle.tx_state.proofs.state.EditorState.finish_edit.Goals as goal

pub invariant_of-self : goal.invariant_of-self
invariant_of-self c =
    (edit_kept c.self.inside
    (record {
      buffers = c.exchange-former.new.buffers;
      selected = c.self.inside.selected;
      cursor =
          c.exchange-former.new.cursor;
      history = c.done.new.self;
    }) c.args.prepared c.self.invariant
    (subst (λ s. IsReadyChange s c.args.prepared) (sym c.self.view_is) c.requires)
    (record { buffers = search rules; selected = refl; cursor = search rules; depth = search rules }) (search rules)
    (search rules)).0

pub returns-clause-done : goal.returns-clause-done
returns-clause-done c =
    sym (edit_kept c.self.inside
    (record {
      buffers = c.exchange-former.new.buffers;
      selected = c.self.inside.selected;
      cursor =
          c.exchange-former.new.cursor;
      history = c.done.new.self;
    }) c.args.prepared c.self.invariant
    (subst (λ s. IsReadyChange s c.args.prepared) (sym c.self.view_is) c.requires)
    (record { buffers = search rules; selected = refl; cursor = search rules; depth = search rules }) (search rules)
    (search rules)).1
    ∙ ap (λ s. with_edit s c.args.prepared) c.self.view_is
