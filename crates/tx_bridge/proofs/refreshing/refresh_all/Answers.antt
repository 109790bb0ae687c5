use Rattle.std.proofs.Common.{arith, sym, subst, drop, slice_index_or}
use Rattle.std.proofs.lemmas.List.Elements.{All-set}
use Rattle.std.specs.Prelude.{IfSome, slice_get, option_copied}
use Rattle.tx_parts.specs.Opening.{shells_by}
use Rattle.tx_bridge.specs.declared.bridge.Bridge.{Bridge}
use Rattle.tx_bridge.specs.HeldParts.{kept_parts}
use Rattle.tx_bridge.specs.Sound.{IsSoundBridge, kept_unit}
use Rattle.tx_bridge.specs.Spares.{first_spare}
use Rattle.tx_bridge.specs.Lent.{spares_in, IsSpareOf}
use Rattle.tx_bridge.proofs.Lending.{charged, first_lent, lent_here}
use Rattle.tx_bridge.proofs.Partway.{next, next_is, stops, agrees_next, units_next, sources_next, stays_next, any_err}
use Rattle.tx_bridge.proofs.Partway.{ended}
use Rattle.tx_bridge.proofs.refreshing.refresh_all.Goals as goal

pub refresh-requires-clause-settled : goal.refresh-requires-clause-settled
refresh-requires-clause-settled g c =
    agrees_next (shells_by (g.O.Opener.opens c.args.opener.now)) c.args.bridges.now c.loop-i.bridges
    (spares_in c.args.spare.now) c.args.moment.now c.loop-i.i
    c.loop-i.moment
    c.loop-i.still c.args.steps.now c.loop-i.steps c.loop-i.charges c.loop-i.invariant (omega arith)
    c.index-bridges-i.result

pub refresh-requires-clause-spare : goal.refresh-requires-clause-spare
refresh-requires-clause-spare g c =
    subst (λ o. IfSome o (IsSpareOf (slice_index_or c.loop-i.bridges c.loop-i.i c.index-bridges-i.result).unit))
    (sym c.lent_at-other.ensures)
    (lent_here c.args.spare.now c.args.bridges.now c.loop-i.i _ _ c.requires.spare c.requires.same
    (next_is (shells_by (g.O.Opener.opens c.args.opener.now)) c.args.bridges.now c.loop-i.bridges
    (spares_in c.args.spare.now) c.args.moment.now c.loop-i.i
    c.loop-i.moment
    c.loop-i.still c.args.steps.now c.loop-i.steps c.loop-i.charges c.loop-i.invariant (omega arith)
    c.index-bridges-i.result))

pub loop-i-preserved : goal.loop-i-preserved
loop-i-preserved g c =
    let b : Bridge = slice_index_or c.loop-i.bridges c.loop-i.i c.index-bridges-i.result in
    next (shells_by (g.O.Opener.opens c.args.opener.now)) c.args.bridges.now c.loop-i.bridges
    (spares_in c.args.spare.now) c.args.moment.now c.loop-i.i
    c.loop-i.moment
    c.loop-i.still c.args.steps.now c.loop-i.steps c.loop-i.charges c.loop-i.invariant (omega arith)
    c.index-bridges-i.result c.refresh.new.self
    c.refresh.new.moment c.in_ok-charge.goes_on c.refresh.new.steps c.in_ok-charge.charge
    (record {
      unit = c.in_ok-charge.ensures.unit;
      fresh = c.in_ok-charge.ensures.fresh;
      parts = c.in_ok-charge.ensures.parts;
    })
    c.in_ok-charge.ensures.flags c.in_ok-charge.ensures.reached c.in_ok-charge.ensures.behind
    (charged (shells_by (g.O.Opener.opens c.args.opener.now)) c.loop-i.moment (kept_unit b) (kept_parts b.parts)
    b.layers
    (option_copied c.lent_at-other.result)
    (slice_get c.args.spare.now c.loop-i.i) (first_spare (drop c.loop-i.i (spares_in c.args.spare.now)))
    c.in_ok-charge.charge c.in_ok-charge.ensures.charge c.lent_at-other.ensures
    (first_lent c.args.spare.now c.loop-i.i))
    c.in_ok-charge.ensures.layers c.in_ok-charge.ensures.counted c.in_ok-charge.ensures.most
    c.in_ok-charge.ensures.sound c.in_ok-charge.ensures.stays c.in_ok-charge.ensures.parts_same
    c.in_ok-charge.ensures.source
    c.in_ok-charge.ensures.settled

pub returns-in_err-charge-clause-sound : goal.returns-in_err-charge-clause-sound
returns-in_err-charge-clause-sound g c =
    All-set IsSoundBridge c.loop-i.bridges c.loop-i.i c.refresh.new.self c.in_err-charge.ensures.sound
    c.loop-i.invariant.sound

pub returns-in_err-charge-clause-units : goal.returns-in_err-charge-clause-units
returns-in_err-charge-clause-units g c =
    units_next (shells_by (g.O.Opener.opens c.args.opener.now)) c.args.bridges.now c.loop-i.bridges
    (spares_in c.args.spare.now) c.args.moment.now c.loop-i.i
    c.loop-i.moment
    c.loop-i.still c.args.steps.now c.loop-i.steps c.loop-i.charges c.loop-i.invariant (omega arith)
    c.index-bridges-i.result c.refresh.new.self
    c.in_err-charge.ensures.unit

pub returns-in_err-charge-clause-sources : goal.returns-in_err-charge-clause-sources
returns-in_err-charge-clause-sources g c =
    sources_next (shells_by (g.O.Opener.opens c.args.opener.now)) c.args.bridges.now c.loop-i.bridges
    (spares_in c.args.spare.now) c.args.moment.now c.loop-i.i
    c.loop-i.moment
    c.loop-i.still c.args.steps.now c.loop-i.steps c.loop-i.charges c.loop-i.invariant (omega arith)
    c.index-bridges-i.result c.refresh.new.self
    c.in_err-charge.ensures.source

pub returns-in_err-charge-clause-stays : goal.returns-in_err-charge-clause-stays
returns-in_err-charge-clause-stays g c =
    stays_next (shells_by (g.O.Opener.opens c.args.opener.now)) c.args.bridges.now c.loop-i.bridges
    (spares_in c.args.spare.now) c.args.moment.now c.loop-i.i
    c.loop-i.moment
    c.loop-i.still c.args.steps.now c.loop-i.steps c.loop-i.charges c.loop-i.invariant (omega arith)
    c.index-bridges-i.result c.refresh.new.self
    c.in_err-charge.ensures.unit c.in_err-charge.ensures.stays

pub returns-in_err-charge-clause-refused : goal.returns-in_err-charge-clause-refused
returns-in_err-charge-clause-refused g c =
    any_err c.from_residual.result
    (stops (shells_by (g.O.Opener.opens c.args.opener.now)) c.args.bridges.now c.loop-i.bridges
    (spares_in c.args.spare.now) c.args.moment.now c.loop-i.i
    c.loop-i.moment
    c.loop-i.still c.args.steps.now c.loop-i.steps c.loop-i.charges c.loop-i.invariant (omega arith)
    c.index-bridges-i.result c.refresh.new.self
    c.in_err-charge.ensures.unit c.in_err-charge.ensures.err)

pub returns-clause-layers : goal.returns-clause-layers
returns-clause-layers g c =
    (ended (shells_by (g.O.Opener.opens c.args.opener.now)) c.args.bridges.now c.loop-i.bridges
    (spares_in c.args.spare.now) c.args.moment.now c.loop-i.i c.loop-i.moment c.loop-i.still c.args.steps.now
    c.loop-i.steps c.loop-i.charges c.loop-i.invariant (omega arith)).5

pub returns-clause-behind : goal.returns-clause-behind
returns-clause-behind g c =
    (ended (shells_by (g.O.Opener.opens c.args.opener.now)) c.args.bridges.now c.loop-i.bridges
    (spares_in c.args.spare.now) c.args.moment.now c.loop-i.i c.loop-i.moment c.loop-i.still c.args.steps.now
    c.loop-i.steps c.loop-i.charges c.loop-i.invariant (omega arith)).6
