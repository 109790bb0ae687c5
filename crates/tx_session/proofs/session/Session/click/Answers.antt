use Rattle.std.proofs.Common.{◌∙◌, ◌||◌, ap, refl, subst}
use Rattle.tx_cmd.specs.declared.command.Command.TheVariants.{Click}
use Rattle.tx_session.specs.Replies.{IsReply}
use Rattle.tx_session.specs.Saying.{reply_mark, reply_text}
use Rattle.tx_session.specs.Sessions.{seen_of}
use Rattle.tx_session.specs.Worlds.{SeenSession}
use Rattle.tx_session.proofs.Answered.{click_replied, present_view}
use Rattle.tx_session.proofs.Refreshed.{clicked_made, keeps_asked, takes_asked}
use Rattle.tx_session.proofs.session.Session.click.Goals as goal

pub returns-clause-replied : goal.returns-clause-replied
returns-clause-replied g c = λ store.
    let inside = c.self.inside in
    let view = c.refresh.new.self in
    let reply = c.go_to_cell-reply.result in
    let after : SeenSession = record {
      state = c.go_to_cell-reply.new.state;
      width = view.width;
      height = view.height;
      fresh = inside.asked || c.is_plain.result;
    } in
    let is = present_view view.buffers inside.state.buffers view.width inside.view.width view.height inside.view.height
    view.shown (c.refresh.ensures.buffers ∙ c.self.invariant.buffers) c.refresh.ensures.width
    c.refresh.ensures.height c.in_default.ensures.view in
    subst (λ s. IsReply (record { session = s; store = store }) (Click c.args.r c.args.c) (reply_mark reply)
    (record { session = after; store = store }) (reply_text reply)) (ap (λ w. w.seen) c.self.view_is)
    (click_replied c.args.r c.args.c (seen_of inside) after view.shown view.width store (reply_mark reply)
    (reply_text reply) is c.go_to_cell-reply.ensures c.refresh.ensures.width
    (ap (λ b. inside.asked || b) c.is_plain.ensures) c.refresh.ensures.width c.refresh.ensures.height)

pub returns-clause-keeps : goal.returns-clause-keeps
returns-clause-keeps g c =
    let inside = c.self.inside in
    let view = c.refresh.new.self in
    let reply = c.go_to_cell-reply.result in
    keeps_asked (Click c.args.r c.args.c) refl c.args.self.now (seen_of inside) _ inside.view view c.self.view_is
    (reply_mark reply)
    (clicked_made view.width view.shown c.args.r c.args.c inside.state c.go_to_cell-reply.new.state (reply_mark reply)
    (reply_text reply) c.go_to_cell-reply.ensures) c.self.invariant.buffers c.in_default.ensures.fresh
    c.in_default.ensures.stores c.in_default.ensures.work c.refresh.ensures.kept

pub returns-clause-takes : goal.returns-clause-takes
returns-clause-takes g c =
    let inside = c.self.inside in
    takes_asked (Click c.args.r c.args.c) refl c.args.self.now (seen_of inside) (seen_of inside) inside.view
    c.refresh.new.self c.self.view_is (reply_mark c.go_to_cell-reply.result) _ _ c.in_default.ensures.counted
    c.refresh.ensures.free
