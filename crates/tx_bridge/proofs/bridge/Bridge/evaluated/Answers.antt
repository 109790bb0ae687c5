use Rattle.std.proofs.Common.{◌≡◌, [], sym, ap, subst, ◌∙◌}
use Rattle.std.proofs.lemmas.Result.{IfOk-weaker}
use Rattle.std.specs.Prelude.{IfOk, option_copied}
use Rattle.std.specs.List.{IsDistinct}
use Rattle.std.specs.Str.{bytes_eq}
use Rattle.tx_exec.specs.Outcomes.{wide_outcome}
use Rattle.tx_parts.specs.Opening.{shells_by}
use Rattle.tx_walk.specs.Walked.{paths_of}
use Rattle.tx_bridge.specs.declared.moments.Evaluated.{Evaluated}
use Rattle.tx_bridge.specs.HeldParts.{PartsHold, kept_parts, flags_of_parts}
use Rattle.tx_bridge.specs.PartsKept.{fresh_parts_by, part_flags_by}
use Rattle.tx_bridge.specs.Charges.{parts_charge_by, UnitLayersKnown}
use Rattle.tx_bridge.specs.Lent.{spare_of}
use Rattle.tx_bridge.proofs.PartsSame.{bare_parts, bare_fresh}
use Rattle.tx_bridge.proofs.Marked.{bare_flags}
use Rattle.tx_bridge.proofs.Lending.{spare_distinct, spare_parts_are, spare_layers_are, parts_charge, bare_charge}
use Rattle.tx_bridge.proofs.Lending.{bare_known}
use Rattle.tx_bridge.proofs.bridge.Bridge.evaluated.Goals as goal

pub by_parts-requires-clause-spare_distinct : goal.by_parts-requires-clause-spare_distinct
by_parts-requires-clause-spare_distinct g c =
    subst (λ ps. IsDistinct bytes_eq (paths_of ps)) (sym c.lent_parts-lent.ensures)
    (spare_distinct c.args.self.now.unit (option_copied c.args.spare) c.requires.spare)

pub returns-then-has_parts-clause-charge : goal.returns-then-has_parts-clause-charge
returns-then-has_parts-clause-charge g c =
    subst (λ n. IfOk c.by_parts.result (λ e. e.charge ≡ n))
    (ap (λ ps. parts_charge_by (shells_by (g.O.Opener.opens c.args.opener.now)) c.args.moment.now c.args.self.now.unit
    (kept_parts ps) (kept_parts c.lent_parts-lent.result.now) c.all-layers.result.now
    c.lent_layers-lent_layers.result.now) c.all-kept.ensures
    ∙ ap (λ ls. parts_charge_by (shells_by (g.O.Opener.opens c.args.opener.now)) c.args.moment.now c.args.self.now.unit
    (kept_parts c.args.self.now.parts) (kept_parts c.lent_parts-lent.result.now) ls
    c.lent_layers-lent_layers.result.now) c.all-layers.ensures
    ∙ parts_charge (shells_by (g.O.Opener.opens c.args.opener.now)) c.args.moment.now c.args.self.now.unit
    (kept_parts c.args.self.now.parts) (kept_parts c.lent_parts-lent.result.now) c.args.self.now.layers
    c.lent_layers-lent_layers.result.now (spare_of (option_copied c.args.spare))
    (sym c.has_parts.ensures ∙ c.if-has_parts.true)
    (ap kept_parts c.lent_parts-lent.ensures ∙ spare_parts_are (option_copied c.args.spare))
    (c.lent_layers-lent_layers.ensures ∙ spare_layers_are (option_copied c.args.spare)))
    c.by_parts.ensures.charge

pub returns-clause-charge : goal.returns-clause-charge
returns-clause-charge g c =
    subst (λ n. IfOk c.evaluated_whole.result (λ e. e.charge ≡ n))
    (bare_charge (shells_by (g.O.Opener.opens c.args.opener.now)) c.args.moment.now c.args.self.now.unit
    (kept_parts c.args.self.now.parts) c.args.self.now.layers (spare_of (option_copied c.args.spare))
    (sym c.has_parts.ensures ∙ c.if-has_parts.false))
    c.evaluated_whole.ensures.charge

pub returns-clause-layers : goal.returns-clause-layers
returns-clause-layers g c =
    IfOk-weaker c.evaluated_whole.result (λ e. e.parts ≡ [])
    (λ e. UnitLayersKnown (shells_by (g.O.Opener.opens c.args.opener.now)) c.args.moment.now c.args.self.now.unit
    e.layers)
    (λ (e : Evaluated) none. bare_known (shells_by (g.O.Opener.opens c.args.opener.now)) c.args.moment.now
    c.args.self.now.unit e.layers (sym c.has_parts.ensures ∙ c.if-has_parts.false))
    c.evaluated_whole.ensures.parts

pub returns-clause-hold : goal.returns-clause-hold
returns-clause-hold g c =
    IfOk-weaker c.evaluated_whole.result (λ e. e.parts ≡ [])
    (λ e. PartsHold c.args.shelled c.args.self.now.unit (wide_outcome e.outcome) e.parts)
    (λ (e : Evaluated) none. subst (PartsHold c.args.shelled c.args.self.now.unit (wide_outcome e.outcome)) (sym none)
    (bare_parts c.args.shelled c.args.self.now.unit (wide_outcome e.outcome)
    (sym c.has_parts.ensures ∙ c.if-has_parts.false)))
    c.evaluated_whole.ensures.parts

pub returns-clause-parts : goal.returns-clause-parts
returns-clause-parts g c =
    IfOk-weaker c.evaluated_whole.result (λ e. e.parts ≡ [])
    (λ e. kept_parts e.parts
    ≡ fresh_parts_by (shells_by (g.O.Opener.opens c.args.opener.now)) c.args.moment.now c.args.self.now.unit)
    (λ (e : Evaluated) none. ap kept_parts none
    ∙ bare_fresh (shells_by (g.O.Opener.opens c.args.opener.now)) c.args.moment.now c.args.self.now.unit
    (sym c.has_parts.ensures ∙ c.if-has_parts.false))
    c.evaluated_whole.ensures.parts

pub returns-clause-flags : goal.returns-clause-flags
returns-clause-flags g c =
    IfOk-weaker c.evaluated_whole.result (λ e. e.parts ≡ [])
    (λ e. flags_of_parts e.parts
    ≡ part_flags_by (shells_by (g.O.Opener.opens c.args.opener.now)) c.args.moment.now c.args.self.now.unit
    (kept_parts c.args.self.now.parts))
    (λ (e : Evaluated) none. bare_flags (shells_by (g.O.Opener.opens c.args.opener.now)) c.args.moment.now
    c.args.self.now.unit (kept_parts c.args.self.now.parts) e.parts
    (sym c.has_parts.ensures ∙ c.if-has_parts.false) none)
    c.evaluated_whole.ensures.parts
