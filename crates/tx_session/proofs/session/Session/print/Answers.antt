use Rattle.std.proofs.Common.{◌∙◌, true, ap, subst, sym}
use Rattle.tx_session.specs.Replies.{IsReply}
use Rattle.tx_session.specs.Sessions.{seen_of}
use Rattle.tx_session.specs.States.{view_reply}
use Rattle.tx_session.specs.Worlds.{SeenSession, plain}
use Rattle.tx_session.specs.Writing.{IsSaid}
use Rattle.tx_session.proofs.Answered.{printed_done, printed_said, present_view}
use Rattle.tx_session.proofs.Refreshed.{keeps_asked, prints_ask, takes_asked}
use Rattle.tx_session.proofs.session.Session.print.Goals as goal

pub returns-clause-said : goal.returns-clause-said
returns-clause-said g c =
    let inside = c.self.inside in
    let now = c.args.self.now in
    let view = c.refresh.new.self in
    let it = c.args.command.now in
    let asks = prints_ask it c.requires in
    let text = view_reply view.width view.shown it in
    let before = (g.O.Sink.seen c.args.out.now).written in
    let behind = (g.O.Sink.seen c.print_view.new.out).written in
    let after : SeenSession = record { state = inside.state; width = view.width; height = view.height; fresh = true } in
    let is = present_view view.buffers inside.state.buffers view.width inside.view.width view.height inside.view.height
    view.shown (c.refresh.ensures.buffers ∙ c.self.invariant.buffers) c.refresh.ensures.width
    c.refresh.ensures.height c.in_default.ensures.view in (
      plain,
      text,
      λ store. subst (λ s. IsReply (record { session = s; store = store }) it plain
          (record { session = after; store = store }) text) (ap (λ w. w.seen) c.self.view_is)
          (printed_done it (seen_of inside) view.width view.height view.shown store c.requires is
          c.refresh.ensures.width c.refresh.ensures.height),
      subst (λ r. IsSaid r text before behind) (sym c.going.ensures)
          (printed_said c.print_view.result text before behind c.print_view.ensures.is_written),
      keeps_asked it asks now (seen_of inside) after inside.view view c.self.view_is plain tt
          c.self.invariant.buffers c.in_default.ensures.fresh c.in_default.ensures.stores c.in_default.ensures.work
          c.refresh.ensures.kept,
      takes_asked it asks now (seen_of inside) after inside.view view c.self.view_is plain _ _
          c.in_default.ensures.counted c.refresh.ensures.free,
    )
