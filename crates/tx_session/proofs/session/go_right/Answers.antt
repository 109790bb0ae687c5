use Rattle.std.proofs.Common.{subst, sym}
use Rattle.tx_doc.specs.Buffers.{document_of}
use Rattle.tx_edit.specs.Stops.{to_right}
use Rattle.tx_view_form.specs.Views.{IsView}
use Rattle.tx_view_form.specs.Stops.{stops_of}
use Rattle.tx_session.proofs.Stopping.{ArePlaces, right_goes}
use Rattle.tx_session.proofs.Nearby.{makes_right}
use Rattle.tx_session.proofs.session.go_right.Goals as goal

pub arrive-requires : goal.arrive-requires
arrive-requires c =
    let view = c.args.view.now in
    let stops = stops_of view.shown.units in
    let is = subst (λ bs. IsView bs view.width view.height view.shown) (sym c.buffers.ensures.buffers) c.requires in
    let places = subst (λ bs. ArePlaces (document_of bs) stops) c.buffers.ensures.buffers
    (c.place_law.ensures.stops view.width view.height view.shown is) in
    right_goes (document_of c.args.state.now.buffers) stops c.args.state.now.cursor c.right-made.result places
    (makes_right stops _ c.deref.result.now c.cursor-cursor.result.now c.args.state.now.cursor c.right-made.result
    c.in-Ok.ensures c.deref.ensures.value c.cursor-cursor.ensures.cursor c.right-made.ensures.done
    c.right-made.ensures.refused).0

pub returns-in-Ok : goal.returns-in-Ok
returns-in-Ok c =
    let stops = stops_of c.args.view.now.shown.units in
    c.arrive.ensures (to_right stops c.args.state.now.cursor)
    (makes_right stops _ c.deref.result.now c.cursor-cursor.result.now c.args.state.now.cursor c.right-made.result
    c.in-Ok.ensures c.deref.ensures.value c.cursor-cursor.ensures.cursor c.right-made.ensures.done
    c.right-made.ensures.refused)
