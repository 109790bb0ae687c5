use Rattle.std.proofs.Common.{◌+◌, ◌∙◌, List, Bool, ap}
use Rattle.tx_exec.specs.Outcomes.{wide_outcome}
use Rattle.tx_bridge.specs.Entries.{Entry}
use Rattle.tx_bridge.specs.HeldParts.{kept_parts, flags_of_parts}
use Rattle.tx_bridge.specs.PartsKept.{KeptParts}
use Rattle.tx_view.specs.Laid.{IsUnit, IsNext}
use Rattle.tx_view.proofs.Onward.{unit_found, unit_once, next_is, next_by}
use Rattle.tx_view.proofs.laying.lay_next.Goals as goal

pub lay-requires-clause-fresh : goal.lay-requires-clause-fresh
lay-requires-clause-fresh g c =
    let o = wide_outcome c.in-Some-outcome.outcome.now in
    let ks : KeptParts = kept_parts c.in-Some-parts.parts.now in
    let fs : List Bool = flags_of_parts c.in-Some-parts.parts.now in
    let found = unit_found c.args.bridges.now c.args.i c.in-Some.unit.now o ks fs c.in-Some.ensures.found
    c.in-Some-outcome.ensures.found c.in-Some-parts.ensures.found c.in-Some-parts.ensures.renewed in
    let fresh = c.requires.fresh (record { unit = c.in-Some.unit.now; trace = o }) ks fs found in
    (c.args.moment.now, fresh.0, fresh.1)

-- what is known of the unit that is laid out, by the calls
next_here : (g : _) (c : goal.In_ok-items g) (e : Entry) (ks : KeptParts) (fs : List Bool)
    → IsUnit c.args.bridges.now c.args.i e ks fs
    → IsNext c.args.width e ks fs c.args.moment.now c.pass.new.moment c.args.shown.now c.lay.new.shown
    c.in_ok-items.items
next_here g c e ks fs at =
    let d : Entry = record { unit = c.in-Some.unit.now; trace = wide_outcome c.in-Some-outcome.outcome.now } in
    let ls : KeptParts = kept_parts c.in-Some-parts.parts.now in
    let gs : List Bool = flags_of_parts c.in-Some-parts.parts.now in
    let found : IsUnit c.args.bridges.now c.args.i d ls gs =
    unit_found c.args.bridges.now c.args.i d.unit d.trace ls gs c.in-Some.ensures.found c.in-Some-outcome.ensures.found
    c.in-Some-parts.ensures.found c.in-Some-parts.ensures.renewed in
    let fresh = c.requires.fresh d ls gs found in
    next_by (unit_once c.args.bridges.now c.args.i e d ks ls fs gs at found)
    (next_is c.weight_laws.ensures.over c.weight_laws.ensures.items c.args.width d ls gs c.args.moment.now
    c.pass.new.moment c.args.shown.now c.lay.new.shown c.args.attrs.now c.in_ok-items.items
    c.outcome_weight_law.ensures fresh.0 fresh.1 c.requires.attributes
    (c.in_ok-pass.ensures.behind d found.entry) (c.in_ok-pass.ensures.paid d found.entry)
    c.in_ok-items.ensures.was_laid c.in_ok-items.ensures.laid c.in_ok-items.ensures.items
    c.in_ok-items.ensures.within)

pub returns-clause-next : goal.returns-clause-next
returns-clause-next g c e ks fs at = next_here g c e ks fs at

pub returns-clause-counted : goal.returns-clause-counted
returns-clause-counted g c e ks fs at =
    c.in_ok-items.ensures.counted ∙ ap (λ n. c.args.steps.now + n) (next_here g c e ks fs at).items_is
