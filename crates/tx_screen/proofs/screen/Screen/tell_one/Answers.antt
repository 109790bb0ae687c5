use Rattle.std.proofs.Common.{[], ◌∷◌, sym, subst}
use Rattle.tx_session.specs.Worlds.{WholeSession, world}
use Rattle.tx_screen.specs.Screens.{IsTold}
use Rattle.tx_screen.proofs.Executing.{on_err}
use Rattle.tx_screen.proofs.screen.Screen.tell_one.Goals as goal

pub returns-clause-refused : goal.returns-clause-refused
returns-clause-refused g c =
    on_err _ c.take_reply.result (
      c.args.line.now ∷ [],
      subst (λ (s : WholeSession). IsTold (world c.args.self.now.session (g.S.Store.seen c.args.store.now) c.args.steps.now)
          (c.args.line.now ∷ []) (world s (g.S.Store.seen c.tell.new.store) c.tell.new.steps))
          (sym c.take_reply.ensures.session) c.in_ok-reply.ensures.told,
    )
