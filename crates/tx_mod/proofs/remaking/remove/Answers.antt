use Rattle.std.proofs.Common.{◌≡◌, ◌+◌, ◌++◌, [], take, drop, rules}
use Rattle.tx_mod.proofs.Remade.{leaf_removed, node_removed, text_taken_out, nil_between, nil_between_bytes}
use Rattle.tx_mod.proofs.Remade.{items_within, node_is, made_ok}
use Rattle.tx_mod.proofs.remaking.remove.Goals as goal

pub leaf_of-requires-clause-text : goal.leaf_of-requires-clause-text
leaf_of-requires-clause-text g c =
    let r = leaf_removed c.args.s.now c.in-Leaf.text.now c.args.i c.args.n c.in-Leaf.ensures c.requires in
    let is : c.deref.result.now ≡ take c.args.i c.in-Leaf.text.now ++ [] ++ drop (c.args.i + c.args.n)
    c.in-Leaf.text.now = search rules in
    text_taken_out c.in-Leaf.text.now c.deref.result.now c.args.i c.args.n c.bytes.ensures.text r.0 r.1
    (nil_between_bytes (take c.args.i c.in-Leaf.text.now) (drop (c.args.i + c.args.n) c.in-Leaf.text.now)
    c.deref.result.now is)

pub spliced-requires-clause-there : goal.spliced-requires-clause-there
spliced-requires-clause-there g c =
    (node_removed c.args.s.now c.in-Node.label.now c.in-Node.children.now c.args.i c.args.n c.in-Node.ensures
    c.requires).0

pub node_of-requires : goal.node_of-requires
node_of-requires g c =
    let r = node_removed c.args.s.now c.in-Node.label.now c.in-Node.children.now c.args.i c.args.n c.in-Node.ensures
    c.requires in
    items_within c.in-Node.label.now _ _
    (nil_between (take c.args.i c.in-Node.children.now) (drop (c.args.i + c.args.n) c.in-Node.children.now)
    c.in_ok-all-in-Node.all.items c.in_ok-all-in-Node.ensures) r.1.within

pub returns-in_ok-all-in-Node-clause-made : goal.returns-in_ok-all-in-Node-clause-made
returns-in_ok-all-in-Node-clause-made g c =
    let r = node_removed c.args.s.now c.in-Node.label.now c.in-Node.children.now c.args.i c.args.n c.in-Node.ensures
    c.requires in
    made_ok _ _ _ _ r.1.is
    (node_is c.in-Node.label.now _ _
    (nil_between (take c.args.i c.in-Node.children.now) (drop (c.args.i + c.args.n) c.in-Node.children.now)
    c.in_ok-all-in-Node.all.items c.in_ok-all-in-Node.ensures)) c.node_of.ensures.made
