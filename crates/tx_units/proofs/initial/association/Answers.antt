use Rattle.std.proofs.Common.{sym, ◌∙◌, arith}
use Rattle.std.specs.Prelude.{codes}
use Rattle.tx_units.proofs.Pairs.{node_of_two}
use Rattle.tx_units.proofs.initial.association.Goals as goal

pub returns-in-len2 : goal.returns-in-len2
returns-in-len2 c =
    node_of_two (codes "associate") c.args.entry.now c.name-item.result c.value-item.result c.children.result.now
    (sym c.is_labelled.ensures ∙ c.if-not-is_labelled.false) c.children.ensures
    (omega (arith, c.in-len2.len_at_least, c.in-len2.len_below)) c.name-item.is c.value-item.is
