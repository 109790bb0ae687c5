use Rattle.std.proofs.Common.{◌≡◌, ◌++◌, take, List, ap, ◌∙◌, arith}
use Rattle.std.proofs.lemmas.Result.{IfOk-weaker}
use Rattle.std.specs.List.{flat_map}
use Rattle.tx_tree.specs.declared.places.Place.{Place}
use Rattle.tx_view_form.specs.Stops.{unit_stops, each_once}
use Rattle.tx_view.specs.Marks.{spot_places}
use Rattle.tx_view.specs.Near.{AreNear}
use Rattle.tx_view.specs.Units.{unit_views}
use Rattle.tx_view.proofs.Middle.{near_first, no_stop, many_places}
use Rattle.tx_view.proofs.beside.stops_beside.Goals as goal

pub returns-in_default : goal.returns-in_default
returns-in_default c =
    let raw : List Place = flat_map unit_stops (unit_views c.args.units.now) in
    let ps : List Place = spot_places c.deref-in_default.result.now in
    let none = no_stop (spot_places c.deref.result.now) raw c.args.at.now c.in_ok-k.field-0
    (ap spot_places c.deref.ensures.value ∙ c.in_ok-spots.ensures) c.in_ok-k.ensures c.in_default.is in
    IfOk-weaker c.stops_between.result
    (λ found. each_once (take c.min.result ps) ≡ each_once (take 0 ps) ++ found.items)
    (λ found. AreNear (each_once raw) found.items c.args.at.now)
    (λ found is. near_first ps raw c.args.at.now c.min.result found.items
    (ap spot_places c.deref-in_default.ensures.value ∙ c.in_ok-spots.ensures) none
    (λ some. omega (
      arith,
      some,
      many_places c.deref-in_default.result.now,
      c.min.ensures,
      c.len.ensures,
      c.deref-in_default.ensures.len,
    )) is) c.stops_between.ensures
