use Rattle.std.proofs.Common.{◌≡◌, true, ap, subst, ◌∙◌}
use Rattle.tx_view_form.specs.Views.{IsView}
use Rattle.tx_session.specs.Worlds.{WholeSession}
use Rattle.tx_session.proofs.session.Session.view.Goals as goal

pub returns-clause-shown : goal.returns-clause-shown
returns-clause-shown c = λ e.
    let fresh : c.self.inside.view.fresh ≡ true =
    c.self.invariant.fresh (ap (λ (w : WholeSession). w.seen.fresh) c.self.view_is ∙ e) in
    subst (λ (w : WholeSession). IsView w.seen.state.buffers w.seen.width w.seen.height c.self.inside.view.shown)
    c.self.view_is
    (subst (λ bs. IsView bs c.self.inside.view.width c.self.inside.view.height c.self.inside.view.shown)
    c.self.invariant.buffers (c.fresh-fresh.ensures.view (c.fresh-fresh.ensures.fresh ∙ fresh)))
