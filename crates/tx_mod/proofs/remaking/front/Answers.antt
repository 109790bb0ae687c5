use Rattle.std.proofs.Common.{arith}
use Rattle.tx_mod.proofs.Remade.{leaf_before, text_before, halves_within, node_before, same_ok}
use Rattle.tx_mod.proofs.remaking.front.Goals as goal
use Rattle.tx_mod.proofs.Measuring.{extent_of_node}

pub leaf_of-requires-clause-text : goal.leaf_of-requires-clause-text
leaf_of-requires-clause-text g c =
    let r = leaf_before c.args.t.now c.in-Leaf.text.now c.args.j c.in-Leaf.ensures c.requires.clean in
    rw c.bytes.ensures.bytes (text_before c.in-Leaf.text.now c.args.j c.bytes.ensures.text r.0)

pub spliced-requires-clause-order : goal.spliced-requires-clause-order
spliced-requires-clause-order g c =
    omega (
      arith,
      extent_of_node c.args.t.now c.in-Node.label.now c.in-Node.children.now c.in-Node.ensures,
      c.requires.there,
    )

pub node_of-requires : goal.node_of-requires
node_of-requires g c =
    let w = (halves_within c.args.t.now c.args.j c.requires.there c.size-size.ensures.within).0 in
    rw (← node_before c.args.t.now c.in-Node.label.now c.in-Node.children.now c.in_ok-all-in-Node.all.items c.args.j
    c.in-Node.ensures c.in_ok-all-in-Node.ensures) w

pub returns-in_ok-all-in-Node-clause-made : goal.returns-in_ok-all-in-Node-clause-made
returns-in_ok-all-in-Node-clause-made g c =
    same_ok _ _ _
    (node_before c.args.t.now c.in-Node.label.now c.in-Node.children.now c.in_ok-all-in-Node.all.items c.args.j
    c.in-Node.ensures c.in_ok-all-in-Node.ensures) c.node_of.ensures.made
