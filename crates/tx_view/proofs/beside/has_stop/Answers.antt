use Rattle.std.proofs.Common.{sym, ap, ◌∙◌}
use Rattle.std.specs.List.{flat_map}
use Rattle.tx_view_form.specs.Stops.{unit_stops}
use Rattle.tx_view.specs.Marks.{spot_places}
use Rattle.tx_view.specs.Units.{unit_views}
use Rattle.tx_view.proofs.Middle.{no_stop, some_stop}
use Rattle.tx_view.proofs.beside.has_stop.Goals as goal

pub returns-in-None : goal.returns-in-None
returns-in-None c =
    sym (no_stop (spot_places c.deref.result.now) (flat_map unit_stops (unit_views c.args.units.now)) c.args.at.now
    c.in_ok-first_spot.field-0 (ap spot_places c.deref.ensures.value ∙ c.in_ok-spots.ensures) c.in_ok-first_spot.ensures
    c.in-None.is)

pub returns : goal.returns
returns c =
    sym (some_stop (spot_places c.deref.result.now) (flat_map unit_stops (unit_views c.args.units.now)) c.args.at.now
    c.in_ok-first_spot.field-0 c.in-Some.field-0 (ap spot_places c.deref.ensures.value ∙ c.in_ok-spots.ensures)
    c.in_ok-first_spot.ensures c.in-Some.is)
