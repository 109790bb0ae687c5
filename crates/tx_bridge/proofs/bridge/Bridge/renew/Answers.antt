use Rattle.std.proofs.Common.{not}
use Rattle.tx_exec.specs.Outcomes.{wide_outcome}
use Rattle.tx_parts.specs.Opening.{shells_by}
use Rattle.tx_bridge.specs.HeldParts.{kept_parts}
use Rattle.tx_bridge.proofs.Staying.{reached_is, same_kept, same_parts_kept}
use Rattle.tx_bridge.proofs.Used.{sound_with}
use Rattle.tx_bridge.proofs.bridge.Bridge.renew.Goals as goal

pub returns-clause-sound : goal.returns-clause-sound
returns-clause-sound g c =
    sound_with c.trace_laws.ensures.supports c.trace_laws.ensures.allowed c.args.moment.now c.args.self.now.unit
    c.in_ok-evaluated.evaluated.outcome c.in_ok-evaluated.evaluated.parts c.in_ok-evaluated.evaluated.layers
    c.args.shelled _ c.args.self.now.source
    c.in_ok-evaluated.ensures.exact c.in_ok-evaluated.ensures.once c.requires.sound.placed
    c.in_ok-evaluated.ensures.hold

pub returns-clause-reached : goal.returns-clause-reached
returns-clause-reached g c =
    reached_is (shells_by (g.O.Opener.opens c.args.opener.now)) c.args.moment.now c.args.self.now
    c.in_ok-evaluated.evaluated.parts c.all-own.result.now c.all-parts.result.now c.args.used c.stays_kept-stays.result
    c.requires.sound c.requires.used c.requires.bare c.in_ok-evaluated.ensures.parts c.in_ok-evaluated.ensures.flags
    c.all-own.ensures c.all-parts.ensures c.stays_kept-stays.ensures

pub returns-clause-stays : goal.returns-clause-stays
returns-clause-stays g c down =
    same_kept c.trace_laws.ensures.over c.opened_standing_law.ensures.stand c.opened_fitting_law.ensures.all_traced
    (shells_by (g.O.Opener.opens c.args.opener.now))
    (c.opener_law.ensures.sheller (g.O.Opener.opens c.args.opener.now) (g.met.O.Opener.sound c.args.opener.now))
    c.args.moment.now c.args.self.now c.requires.sound (not c.stays_kept-stays.result)
    (reached_is (shells_by (g.O.Opener.opens c.args.opener.now)) c.args.moment.now c.args.self.now
    c.in_ok-evaluated.evaluated.parts c.all-own.result.now c.all-parts.result.now c.args.used c.stays_kept-stays.result
    c.requires.sound c.requires.used c.requires.bare c.in_ok-evaluated.ensures.parts c.in_ok-evaluated.ensures.flags
    c.all-own.ensures c.all-parts.ensures c.stays_kept-stays.ensures) down
    (wide_outcome c.in_ok-evaluated.evaluated.outcome) c.in_ok-evaluated.ensures.exact

pub returns-clause-parts_same : goal.returns-clause-parts_same
returns-clause-parts_same g c down =
    same_parts_kept c.trace_laws.ensures.over c.opened_standing_law.ensures.stand
    c.opened_fitting_law.ensures.all_traced (shells_by (g.O.Opener.opens c.args.opener.now))
    (c.opener_law.ensures.sheller (g.O.Opener.opens c.args.opener.now) (g.met.O.Opener.sound c.args.opener.now))
    c.args.moment.now c.args.self.now c.requires.sound (not c.stays_kept-stays.result)
    (reached_is (shells_by (g.O.Opener.opens c.args.opener.now)) c.args.moment.now c.args.self.now
    c.in_ok-evaluated.evaluated.parts c.all-own.result.now c.all-parts.result.now c.args.used c.stays_kept-stays.result
    c.requires.sound c.requires.used c.requires.bare c.in_ok-evaluated.ensures.parts c.in_ok-evaluated.ensures.flags
    c.all-own.ensures c.all-parts.ensures c.stays_kept-stays.ensures) down
    (kept_parts c.in_ok-evaluated.evaluated.parts) c.args.used c.requires.used c.requires.bare
    c.in_ok-evaluated.ensures.parts
