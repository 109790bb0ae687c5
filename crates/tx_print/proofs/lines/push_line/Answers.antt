use Rattle.std.proofs.Common.{◌++◌, append_assoc, ap, take, ◌∙◌}
use Rattle.std.specs.List.{flat_map}
use Rattle.std.proofs.lemmas.List.{take_all}
use Rattle.tx_print.specs.Lines.{printed_item, spaces}
use Rattle.tx_print.proofs.Adding.{adds_then, adds_also}
use Rattle.tx_print.proofs.Wording.{flat_at}
use Rattle.tx_print.proofs.lines.push_line.Goals as goal

pub loop-item-preserved : goal.loop-item-preserved
loop-item-preserved g c =
    let items = c.all-item-items.result.now in
    let indent = spaces c.args.line.now.indent in
    let i = c.loop-item.item-index in
    adds_also (append_assoc indent (flat_map printed_item (take i items)) (printed_item c.item-item.result)
    ∙ ap (λ t. indent ++ t) (flat_at printed_item items i c.item-item.result c.loop-item-test.true c.item-item.is))
    (adds_then c.loop-item.invariant c.push_item.ensures)

pub returns : goal.returns
returns g c =
    let items = c.all-item-items.result.now in
    let indent = spaces c.args.line.now.indent in
    let all = take_all c.loop-item.item-index items c.loop-item-test.false ∙ c.all-item-items.ensures in
    adds_then (adds_also (ap (λ xs. indent ++ flat_map printed_item xs) all) c.loop-item.invariant) c.push.ensures
