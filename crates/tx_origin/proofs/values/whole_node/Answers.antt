use Rattle.std.proofs.Common.{◌∙◌, ap, sym, arith}
use Rattle.tx_tree.specs.WideTree.{node}
use Rattle.tx_origin.specs.Values.{vals, plains}
use Rattle.tx_origin.proofs.Parts.{few_parts}
use Rattle.tx_origin.proofs.Wholes.{whole_within, whole_from}
use Rattle.tx_origin.proofs.values.whole_node.Goals as goal

pub node_from-requires : goal.node_from-requires
node_from-requires c =
    let parts = c.args.parts.items in
    let label = c.args.label.now in
    let within = whole_within c.args.at.now c.args.tree.now label parts c.requires c.size-size.ensures.within in
    let from = whole_from c.args.at.now c.args.tree.now label parts c.requires in
    let few = few_parts label parts in
    record {
      arity = omega (arith, few, within.arity);
      depth = omega (arith, within.depth);
      size = omega (arith, within.size);
      from = c.in_ok-from.ensures ∙ from ∙ ap (λ l. node l (plains (vals parts))) (sym c.in_ok-label.ensures);
    }
