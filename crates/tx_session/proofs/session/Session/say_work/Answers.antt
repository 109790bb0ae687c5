use Rattle.std.proofs.Common.{true, ap, refl, subst, sym}
use Rattle.tx_cmd.specs.declared.command.Command.TheVariants.{Work}
use Rattle.tx_print.specs.Work.{work_reply}
use Rattle.tx_session.specs.Replies.{IsReply}
use Rattle.tx_session.specs.Sessions.{seen_of}
use Rattle.tx_session.specs.Worlds.{SeenSession, told}
use Rattle.tx_session.specs.Writing.{IsSaid}
use Rattle.tx_session.proofs.Answered.{printed_said, work_told}
use Rattle.tx_session.proofs.Refreshed.{keeps_told, takes_asked}
use Rattle.tx_session.proofs.session.Session.say_work.Goals as goal

pub returns-in-Ok-clause-said : goal.returns-in-Ok-clause-said
returns-in-Ok-clause-said g c =
    let inside = c.self.inside in
    let now = c.args.self.now in
    let view = c.refresh.new.self in
    let n = c.work-number.result in
    let text = work_reply n in
    let before = (g.O.Sink.seen c.args.out.now).written in
    let behind = (g.O.Sink.seen c.print_work.new.out).written in
    let after : SeenSession =
    record { state = inside.state; width = view.width; height = view.height; fresh = true } in (
      told n,
      text,
      λ store. subst (λ s. IsReply (record { session = s; store = store }) Work (told n)
          (record { session = after; store = store }) text) (ap (λ w. w.seen) c.self.view_is)
          (work_told n (seen_of inside) view.width view.height store c.refresh.ensures.width
          c.refresh.ensures.height),
      subst (λ r. IsSaid r text before behind) (sym c.going.ensures)
          (printed_said c.print_work.result text before behind c.print_work.ensures.is_written),
      keeps_told Work refl now (seen_of inside) after inside.view view c.self.view_is c.self.invariant.buffers
          c.in-Ok.ensures.fresh c.in-Ok.ensures.stores c.in-Ok.ensures.work c.refresh.ensures.kept n
          c.work-number.ensures,
      takes_asked Work refl now (seen_of inside) after inside.view view c.self.view_is (told n) _ _
          c.in-Ok.ensures.counted c.refresh.ensures.free,
    )
