use Rattle.std.proofs.Common.{◌≡◌, ◌≤◌, ℕ, arith}
use Rattle.std.specs.Prelude.{option_copied}
use Rattle.tx_parts.specs.Opening.{shells_by}
use Rattle.tx_bridge.specs.Names.{ChargeBy, BoundBy, EndFrom}
use Rattle.tx_bridge.specs.Spares.{spares_of}
use Rattle.tx_bridge.proofs.Partway.{IfOk-with}
use Rattle.tx_bridge.proofs.bridges.Bridges.refresh_with.Goals as goal

pub returns-clause-bounded : goal.returns-clause-bounded
returns-clause-bounded g c =
    IfOk-with c.refresh_by.result
    (λ n. n ≡ ChargeBy c.args.start.now (shells_by (g.O.Opener.opens c.args.opener.now)) c.args.self.now.kept
    c.args.self.now.parts c.args.self.now.layers (spares_of (option_copied c.args.spare)))
    (λ n. n ≤ BoundBy c.args.start.now (shells_by (g.O.Opener.opens c.args.opener.now)) c.args.self.now.kept
    c.args.self.now.parts c.args.self.now.layers (spares_of (option_copied c.args.spare)))
    (λ units n is.
    let most : ChargeBy c.args.start.now (shells_by (g.O.Opener.opens c.args.opener.now)) c.args.self.now.kept
    c.args.self.now.parts c.args.self.now.layers (spares_of (option_copied c.args.spare))
    ≤ BoundBy c.args.start.now (shells_by (g.O.Opener.opens c.args.opener.now)) c.args.self.now.kept
    c.args.self.now.parts c.args.self.now.layers (spares_of (option_copied c.args.spare)) =
    c.bound_law.ensures c.args.start.now (shells_by (g.O.Opener.opens c.args.opener.now))
    (c.opener_law.ensures.sheller (g.O.Opener.opens c.args.opener.now) (g.met.O.Opener.sound c.args.opener.now))
    c.args.self.now.kept c.args.self.now.parts c.args.self.now.layers (spares_of (option_copied c.args.spare))
    units in
    omega (arith, is, most))
    c.refresh_by.ensures.are_units c.refresh_by.ensures.charge

pub returns-clause-fresh : goal.returns-clause-fresh
returns-clause-fresh g c = c.refresh_by.ensures.fresh

pub returns-clause-parts : goal.returns-clause-parts
returns-clause-parts g c = c.refresh_by.ensures.parts

pub returns-clause-parts_renewed : goal.returns-clause-parts_renewed
returns-clause-parts_renewed g c = c.refresh_by.ensures.parts_renewed

pub returns-clause-parts_stay : goal.returns-clause-parts_stay
returns-clause-parts_stay g c = c.refresh_by.ensures.parts_stay

pub returns-clause-parts_same : goal.returns-clause-parts_same
returns-clause-parts_same g c = c.refresh_by.ensures.parts_same

pub returns-clause-reached : goal.returns-clause-reached
returns-clause-reached g c = c.refresh_by.ensures.reached

pub returns-clause-charge : goal.returns-clause-charge
returns-clause-charge g c = c.refresh_by.ensures.charge

pub returns-clause-layers : goal.returns-clause-layers
returns-clause-layers g c = c.refresh_by.ensures.layers

pub returns-clause-counted : goal.returns-clause-counted
returns-clause-counted g c = c.refresh_by.ensures.counted

pub returns-clause-most : goal.returns-clause-most
returns-clause-most g c = c.refresh_by.ensures.most

pub returns-clause-units : goal.returns-clause-units
returns-clause-units g c = c.refresh_by.ensures.units

pub returns-clause-sources : goal.returns-clause-sources
returns-clause-sources g c = c.refresh_by.ensures.sources

pub returns-clause-stays : goal.returns-clause-stays
returns-clause-stays g c = c.refresh_by.ensures.stays

pub returns-clause-refused : goal.returns-clause-refused
returns-clause-refused g c = c.refresh_by.ensures.refused

pub returns-clause-strays : goal.returns-clause-strays
returns-clause-strays g c = c.refresh_by.ensures.strays

pub returns-clause-strays_stay : goal.returns-clause-strays_stay
returns-clause-strays_stay g c = c.refresh_by.ensures.strays_stay

pub returns-clause-end : goal.returns-clause-end
unfolding EndFrom
returns-clause-end g c = c.refresh_by.ensures.end

pub returns-clause-end_stays : goal.returns-clause-end_stays
returns-clause-end_stays g c = c.refresh_by.ensures.end_stays
