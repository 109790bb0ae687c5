use Rattle.std.proofs.Common.{◌-◌, take, drop, List}
use Rattle.std.proofs.lemmas.Result.{IfOk-weaker}
use Rattle.tx_tree.specs.declared.places.Place.{Place}
use Rattle.tx_view.specs.Near.{AreNear, shown_stops}
use Rattle.tx_view.proofs.Middle.{near_then}
use Rattle.tx_view.proofs.around.stops_near.Goals as goal

pub returns : goal.returns
returns c =
    let all : List Place = shown_stops c.args.units.now in
    let mid : List Place = shown_stops (take (c.in_ok-from.to - c.in_ok-from.from)
    (drop c.in_ok-from.from c.args.units.now)) in
    IfOk-weaker c.stops_beside.result (λ found. AreNear mid found.items c.args.at.now)
    (λ found. AreNear all found.items c.args.at.now)
    (λ found near. near_then all mid found.items c.args.at.now c.in_ok-from.ensures.near near) c.stops_beside.ensures
