use Rattle.std.proofs.Common.{subst, sym}
use Rattle.tx_doc.specs.Buffers.{document_of}
use Rattle.tx_edit.specs.Stops.{to_left}
use Rattle.tx_view_form.specs.Views.{IsView}
use Rattle.tx_view_form.specs.Stops.{stops_of}
use Rattle.tx_session.proofs.Stopping.{ArePlaces, left_goes}
use Rattle.tx_session.proofs.Nearby.{makes_left}
use Rattle.tx_session.proofs.session.go_left.Goals as goal

pub arrive-requires : goal.arrive-requires
arrive-requires c =
    let view = c.args.view.now in
    let stops = stops_of view.shown.units in
    let is = subst (λ bs. IsView bs view.width view.height view.shown) (sym c.buffers.ensures.buffers) c.requires in
    let places = subst (λ bs. ArePlaces (document_of bs) stops) c.buffers.ensures.buffers
    (c.place_law.ensures.stops view.width view.height view.shown is) in
    left_goes (document_of c.args.state.now.buffers) stops c.args.state.now.cursor c.left-made.result places
    (makes_left stops _ c.deref.result.now c.cursor-cursor.result.now c.args.state.now.cursor c.left-made.result
    c.in-Ok.ensures c.deref.ensures.value c.cursor-cursor.ensures.cursor c.left-made.ensures.done
    c.left-made.ensures.refused).0

pub returns-in-Ok : goal.returns-in-Ok
returns-in-Ok c =
    let stops = stops_of c.args.view.now.shown.units in
    c.arrive.ensures (to_left stops c.args.state.now.cursor)
    (makes_left stops _ c.deref.result.now c.cursor-cursor.result.now c.args.state.now.cursor c.left-made.result
    c.in-Ok.ensures c.deref.ensures.value c.cursor-cursor.ensures.cursor c.left-made.ensures.done
    c.left-made.ensures.refused)
