use Rattle.std.proofs.Common.{ap, sym, subst, ◌∙◌}
use Rattle.std.proofs.lemmas.List.Elements.{recursion_from_All}
use Rattle.std.specs.FinMap.{get}
use Rattle.tx_exec.specs.Outcomes.{wide_outcome}
use Rattle.tx_parts.specs.Opening.{shells_by}
use Rattle.tx_walk.specs.Walked.{IsTidy, stores_in}
use Rattle.tx_bridge.specs.HeldParts.{PartsHold, kept_parts, flags_of_parts}
use Rattle.tx_bridge.proofs.ByParts.{sound_of, tidy_of, walked_hold, parts_there, outcome_there, fresh_there}
use Rattle.tx_bridge.specs.Charges.{UnitLayersKnown}
use Rattle.tx_bridge.proofs.ByParts.{charge_there, known_there}
use Rattle.tx_bridge.proofs.Marked.{walked_flags}
use Rattle.tx_bridge.proofs.moments.Moment.by_parts.Goals as goal

pub walk_with-requires-clause-sound : goal.walk_with-requires-clause-sound
walk_with-requires-clause-sound g c = record {
  own = sound_of c.args.unit.now.tagged.tree c.args.kept.now c.requires.hold;
  spare = sound_of c.args.unit.now.tagged.tree c.args.spare.now c.requires.spare_hold;
}

pub walk_with-requires-clause-spare_tidy : goal.walk_with-requires-clause-spare_tidy
walk_with-requires-clause-spare_tidy g c = tidy_of c.args.unit.now.tagged.tree c.args.spare.now c.requires.spare_hold

pub walk_with-requires-clause-tidy : goal.walk_with-requires-clause-tidy
walk_with-requires-clause-tidy g c = tidy_of c.args.unit.now.tagged.tree c.args.kept.now c.requires.hold

pub returns-clause-exact : goal.returns-clause-exact
returns-clause-exact g c =
    c.in_ok-walked.ensures.exact
    ∙ outcome_there c.args.unit.now c.args.self.now c.self.inside.env.map c.self.inside.left c.min-allowance.result
    c.self.view_is c.min-allowance.ensures c.requires.placed c.requires.nested

pub returns-clause-parts : goal.returns-clause-parts
returns-clause-parts g c =
    ap kept_parts c.new.ensures
    ∙ fresh_there (shells_by (g.O.Opener.opens c.args.opener.now)) c.args.unit.now c.args.self.now c.self.inside.env.map
    c.self.inside.left c.min-allowance.result
    c.self.view_is c.min-allowance.ensures (stores_in c.args.kept.now c.args.spare.now)
    c.in_ok-walked.walked.parts.items
    (wide_outcome c.in_ok-walked.walked.outcome) c.requires.nested
    (c.in_ok-walked.ensures.exact
    ∙ outcome_there c.args.unit.now c.args.self.now c.self.inside.env.map c.self.inside.left c.min-allowance.result
    c.self.view_is c.min-allowance.ensures c.requires.placed c.requires.nested)
    c.in_ok-walked.ensures.parts

pub returns-clause-hold : goal.returns-clause-hold
returns-clause-hold g c =
    subst (PartsHold c.args.shelled c.args.unit.now (wide_outcome c.in_ok-walked.walked.outcome)) (sym c.new.ensures)
    (walked_hold c.trace_laws.ensures.supports c.opened_standing_law.ensures.stand c.walked_law.ensures.distinct
    c.opened_fitting_law.ensures.same_stored (shells_by (g.O.Opener.opens c.args.opener.now))
    (c.opener_law.ensures.sheller (g.O.Opener.opens c.args.opener.now) (g.met.O.Opener.sound c.args.opener.now))
    c.args.shelled (λ off. ap shells_by (c.requires.shut off) ∙ c.opener_law.ensures.nothing_opened)
    (stores_in c.args.kept.now c.args.spare.now) c.min-allowance.result (get c.self.inside.env.map)
    c.args.unit.now c.requires.nested c.in_ok-walked.walked.parts.items
    (recursion_from_All IsTidy c.in_ok-walked.walked.parts.items c.in_ok-walked.ensures.tidy)
    (wide_outcome c.in_ok-walked.walked.outcome) c.in_ok-walked.ensures.exact c.in_ok-walked.ensures.parts)

pub returns-clause-charge : goal.returns-clause-charge
returns-clause-charge g c =
    c.in_ok-walked.ensures.charge
    ∙ charge_there (shells_by (g.O.Opener.opens c.args.opener.now)) c.args.unit.now c.args.self.now
    c.self.inside.env.map c.self.inside.left c.min-allowance.result c.self.view_is c.min-allowance.ensures
    c.args.kept.now c.args.spare.now c.args.layers.now c.args.spare_layers.now

pub returns-clause-layers : goal.returns-clause-layers
returns-clause-layers g c =
    subst (UnitLayersKnown (shells_by (g.O.Opener.opens c.args.opener.now)) c.args.self.now c.args.unit.now)
    (sym c.new-2.ensures)
    (known_there (shells_by (g.O.Opener.opens c.args.opener.now)) c.args.unit.now c.args.self.now c.self.inside.env.map
    c.self.inside.left c.min-allowance.result c.self.view_is c.min-allowance.ensures
    c.in_ok-walked.walked.layers.items (wide_outcome c.in_ok-walked.walked.outcome) c.requires.nested
    (c.in_ok-walked.ensures.exact
    ∙ outcome_there c.args.unit.now c.args.self.now c.self.inside.env.map c.self.inside.left c.min-allowance.result
    c.self.view_is c.min-allowance.ensures c.requires.placed c.requires.nested)
    c.in_ok-walked.ensures.layers)

pub returns-clause-flags : goal.returns-clause-flags
returns-clause-flags g c =
    ap flags_of_parts c.new.ensures
    ∙ walked_flags (shells_by (g.O.Opener.opens c.args.opener.now)) c.args.self.now c.args.unit.now c.args.kept.now
    c.args.spare.now c.in_ok-walked.walked.parts.items _ (wide_outcome c.in_ok-walked.walked.outcome)
    c.requires.nested
    (parts_there (shells_by (g.O.Opener.opens c.args.opener.now)) c.args.unit.now c.args.self.now
    c.self.inside.env.map c.self.inside.left c.min-allowance.result c.self.view_is c.min-allowance.ensures)
    (c.in_ok-walked.ensures.exact
    ∙ outcome_there c.args.unit.now c.args.self.now c.self.inside.env.map c.self.inside.left c.min-allowance.result
    c.self.view_is c.min-allowance.ensures c.requires.placed c.requires.nested)
    c.in_ok-walked.ensures.parts
