use Rattle.std.proofs.Common.{◌==◌, List, length, subst, arith}
use Rattle.std.proofs.lemmas.Bool.Decides.{Decides-eqb}
use Rattle.tx_tree.specs.declared.places.Place.{Place}
use Rattle.tx_view.specs.Marks.{spot_places}
use Rattle.tx_view.specs.Near.{HasNeighbours}
use Rattle.tx_view.proofs.Middle.{near_around, many_places}
use Rattle.tx_view.proofs.beside.stops_around.Goals as goal

pub returns-then-has_neighbours : goal.returns-then-has_neighbours
returns-then-has_neighbours c =
    near_around (spot_places c.args.spots.now) c.args.at.now c.args.k c.saturating_sub-from.result c.min-to.result
    c.in_ok-stops.stops.items (c.saturating_sub-from.result == 0) (c.min-to.result == length c.args.spots.now)
    c.requires (omega (arith, c.saturating_sub-from.ensures)) c.in_ok-stops.ensures
    (subst (λ (ps : List Place). HasNeighbours ps c.args.at.now (c.saturating_sub-from.result == 0)
    (c.min-to.result == length c.args.spots.now)) c.deref.ensures.value
    (c.has_neighbours.ensures c.if-has_neighbours.true))
    (λ e. (Decides-eqb c.saturating_sub-from.result 0).0 e)
    (λ e. omega (
      arith,
      many_places c.args.spots.now,
      (Decides-eqb c.min-to.result (length c.args.spots.now)).0 e,
    ))
