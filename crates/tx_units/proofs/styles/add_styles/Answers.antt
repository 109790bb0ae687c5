use Rattle.std.proofs.Common.{◌∙◌}
use Rattle.tx_units.specs.Documents.{style_names}
use Rattle.tx_units.specs.Units.{named_units}
use Rattle.tx_units.proofs.Gathering.{nodes_stop}
use Rattle.tx_units.proofs.styles.add_styles.Goals as goal

pub returns-in_err-add_named-clause-counted : goal.returns-in_err-add_named-clause-counted
returns-in_err-add_named-clause-counted g c =
    nodes_stop (named_units c.args.styles.now) c.as_slice-each.result.now (style_names c.args.document.now)
    c.loop-name.name-index c.name-item.result
    c.args.steps.now c.loop-name.steps _ (c.as_slice-each.ensures.keys ∙ c.in_ok-names.ensures) c.loop-name-test.true
    c.name-item.is
    c.loop-name.invariant.counted c.add_named.ensures.counted
