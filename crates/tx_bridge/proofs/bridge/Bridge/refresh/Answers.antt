use Rattle.std.proofs.Common.{◌≤◌, sym, ap, subst, ◌∙◌}
use Rattle.std.specs.Prelude.{◌&&◌, ◌||◌, option_copied}
use Rattle.tx_origin.specs.TaggedTrees.{tagged_of}
use Rattle.tx_exec.specs.Outcomes.{wide_outcome}
use Rattle.tx_parts.specs.Opening.{shells_by}
use Rattle.tx_view_form.specs.Outcomes.{Moment, charge, behind}
use Rattle.tx_bridge.specs.PartsKept.{has_parts}
use Rattle.tx_bridge.specs.HeldParts.{kept_parts}
use Rattle.tx_bridge.specs.Lent.{spare_of}
use Rattle.tx_bridge.specs.declared.bridge.Bridge.{Bridge}
use Rattle.tx_bridge.proofs.ByParts.{spent_most}
use Rattle.tx_bridge.proofs.Left.{off_is, left_parts, left_flags_by, left_reached, left_charge, left_known}
use Rattle.tx_bridge.proofs.Marked.{left_sound, unmarked_kept}
use Rattle.tx_bridge.proofs.Used.{fits_is, charge_fits}
use Rattle.tx_bridge.proofs.bridge.Bridge.refresh.Goals as goal

pub returns-then-keeps_parts-clause-fresh : goal.returns-then-keeps_parts-clause-fresh
returns-then-keeps_parts-clause-fresh g c =
    ap (λ (b : Bridge). wide_outcome b.kept) c.leave.ensures
    ∙ fits_is c.args.moment.now (wide_outcome c.args.self.now.kept) (tagged_of c.args.self.now.unit.tagged)
    c.requires.sound.holds (sym c.can_be_used-used.ensures ∙ c.if-used.true)

pub returns-then-keeps_parts-clause-behind : goal.returns-then-keeps_parts-clause-behind
returns-then-keeps_parts-clause-behind g c =
    c.in_ok-go_behind.ensures.behind
    ∙ ap (behind c.args.moment.now)
    (fits_is c.args.moment.now (wide_outcome c.args.self.now.kept) (tagged_of c.args.self.now.unit.tagged)
    c.requires.sound.holds (sym c.can_be_used-used.ensures ∙ c.if-used.true))

pub returns-then-keeps_parts-clause-parts : goal.returns-then-keeps_parts-clause-parts
returns-then-keeps_parts-clause-parts g c =
    ap (λ (b : Bridge). kept_parts b.parts) c.leave.ensures
    ∙ unmarked_kept c.args.self.now.parts
    ∙ left_parts c.args.moment.now c.args.self.now c.requires.sound
    (shells_by (g.O.Opener.opens c.args.opener.now)) c.args.shelled
    (λ off. ap shells_by (c.requires.shut off) ∙ c.opener_law.ensures.nothing_opened)
    (sym c.can_be_used-used.ensures ∙ c.if-used.true)
    (off_is (has_parts c.args.self.now.unit && (c.args.shelled || c.args.self.now.shelled))
    (sym c.keeps_parts.ensures ∙ c.if-keeps_parts.true))

pub returns-then-keeps_parts-clause-flags : goal.returns-then-keeps_parts-clause-flags
returns-then-keeps_parts-clause-flags g c =
    left_flags_by c.args.moment.now c.args.self.now c.requires.sound
    (shells_by (g.O.Opener.opens c.args.opener.now)) c.args.shelled
    (λ off. ap shells_by (c.requires.shut off) ∙ c.opener_law.ensures.nothing_opened)
    (sym c.can_be_used-used.ensures ∙ c.if-used.true)
    (off_is (has_parts c.args.self.now.unit && (c.args.shelled || c.args.self.now.shelled))
    (sym c.keeps_parts.ensures ∙ c.if-keeps_parts.true))
    c.trace_laws.ensures.agrees c.leave.new.self.parts (ap (λ (b : Bridge). b.parts) c.leave.ensures)

pub returns-then-keeps_parts-clause-reached : goal.returns-then-keeps_parts-clause-reached
returns-then-keeps_parts-clause-reached g c =
    ap (λ (b : Bridge). b.reached) c.leave.ensures
    ∙ left_reached c.args.moment.now c.args.self.now c.requires.sound
    (shells_by (g.O.Opener.opens c.args.opener.now)) c.args.shelled
    (λ off. ap shells_by (c.requires.shut off) ∙ c.opener_law.ensures.nothing_opened)
    (sym c.can_be_used-used.ensures ∙ c.if-used.true)
    (off_is (has_parts c.args.self.now.unit && (c.args.shelled || c.args.self.now.shelled))
    (sym c.keeps_parts.ensures ∙ c.if-keeps_parts.true))
    c.trace_laws.ensures.agrees c.opened_fitting_law.ensures.all_traced c.opener_law.ensures.closed

pub returns-then-keeps_parts-clause-charge : goal.returns-then-keeps_parts-clause-charge
returns-then-keeps_parts-clause-charge g c =
    left_charge c.args.moment.now c.args.self.now c.requires.sound
    (shells_by (g.O.Opener.opens c.args.opener.now)) c.args.shelled
    (λ off. ap shells_by (c.requires.shut off) ∙ c.opener_law.ensures.nothing_opened)
    (sym c.can_be_used-used.ensures ∙ c.if-used.true)
    (off_is (has_parts c.args.self.now.unit && (c.args.shelled || c.args.self.now.shelled))
    (sym c.keeps_parts.ensures ∙ c.if-keeps_parts.true))
    c.trace_laws.ensures.agrees c.opened_fitting_law.ensures.all_traced c.opener_law.ensures.closed
    c.opened_standing_law.ensures.distinct c.opened_cost_law.ensures.nothing
    c.args.self.now.layers (spare_of (option_copied c.args.spare))

pub returns-then-keeps_parts-clause-layers : goal.returns-then-keeps_parts-clause-layers
returns-then-keeps_parts-clause-layers g c =
    left_known c.args.moment.now c.args.self.now c.requires.sound
    (shells_by (g.O.Opener.opens c.args.opener.now)) c.args.shelled
    (λ off. ap shells_by (c.requires.shut off) ∙ c.opener_law.ensures.nothing_opened)
    (sym c.can_be_used-used.ensures ∙ c.if-used.true)
    (off_is (has_parts c.args.self.now.unit && (c.args.shelled || c.args.self.now.shelled))
    (sym c.keeps_parts.ensures ∙ c.if-keeps_parts.true))
    c.opened_cost_law.ensures.nothing c.leave.new.self.layers

pub returns-then-keeps_parts-clause-sound : goal.returns-then-keeps_parts-clause-sound
returns-then-keeps_parts-clause-sound g c = left_sound c.args.self.now c.leave.new.self c.requires.sound c.leave.ensures

pub returns-then-keeps_parts-clause-parts_same : goal.returns-then-keeps_parts-clause-parts_same
returns-then-keeps_parts-clause-parts_same g c down =
    ap (λ (b : Bridge). kept_parts b.parts) c.leave.ensures ∙ unmarked_kept c.args.self.now.parts

pub go_behind-requires-2-clause-enough : goal.go_behind-requires-2-clause-enough
go_behind-requires-2-clause-enough g c =
    subst (λ (m : Moment). charge m (wide_outcome c.renew.new.self.kept) ≤ m.left) (sym c.in_ok-charge.ensures.moment)
    (charge_fits c.trace_laws.ensures.allowed c.args.moment.now (wide_outcome c.renew.new.self.kept)
    (tagged_of c.args.self.now.unit.tagged) c.in_ok-charge.ensures.fresh)

pub returns-then-silent-clause-most : goal.returns-then-silent-clause-most
returns-then-silent-clause-most g c =
    spent_most (shells_by (g.O.Opener.opens c.args.opener.now))
    (c.opener_law.ensures.sheller (g.O.Opener.opens c.args.opener.now) (g.met.O.Opener.sound c.args.opener.now))
    c.trace_laws.ensures.allowed c.args.moment.now c.go_behind-2.new.self
    c.args.self.now.unit (kept_parts c.args.self.now.parts) c.args.self.now.layers
    (spare_of (option_copied c.args.spare))
    c.in_ok-charge.charge c.requires.sound.placed
    c.in_ok-charge.ensures.charge
    (c.in_ok-go_behind-2.ensures.behind
    ∙ ap (λ (m : Moment). behind m (wide_outcome c.renew.new.self.kept)) c.in_ok-charge.ensures.moment
    ∙ ap (behind c.args.moment.now) c.in_ok-charge.ensures.fresh)

pub returns-else-silent-clause-most : goal.returns-else-silent-clause-most
returns-else-silent-clause-most g c =
    spent_most (shells_by (g.O.Opener.opens c.args.opener.now))
    (c.opener_law.ensures.sheller (g.O.Opener.opens c.args.opener.now) (g.met.O.Opener.sound c.args.opener.now))
    c.trace_laws.ensures.allowed c.args.moment.now c.go_behind-2.new.self
    c.args.self.now.unit (kept_parts c.args.self.now.parts) c.args.self.now.layers
    (spare_of (option_copied c.args.spare))
    c.in_ok-charge.charge c.requires.sound.placed
    c.in_ok-charge.ensures.charge
    (c.in_ok-go_behind-2.ensures.behind
    ∙ ap (λ (m : Moment). behind m (wide_outcome c.renew.new.self.kept)) c.in_ok-charge.ensures.moment
    ∙ ap (behind c.args.moment.now) c.in_ok-charge.ensures.fresh)
