use Rattle.std.proofs.Common.{◌≡◌, rules}
use Rattle.tx_mod.specs.Mods.{put_in}
use Rattle.tx_mod.proofs.Remade.{leaf_inserted, node_inserted, text_put_in, items_within, node_is, made_ok}
use Rattle.tx_mod.proofs.remaking.insert.Goals as goal

pub leaf_of-requires-clause-text : goal.leaf_of-requires-clause-text
leaf_of-requires-clause-text g c =
    let r = leaf_inserted c.args.s.now c.args.x.now c.in-Leaf-Leaf.text.now c.in-Leaf-Leaf.more.now c.args.i
    c.in-Leaf-Leaf.ensures c.in-Leaf-Leaf.ensures' c.requires in
    let is : c.deref.result.now ≡ put_in c.in-Leaf-Leaf.text.now c.args.i c.in-Leaf-Leaf.more.now = search rules in
    text_put_in c.in-Leaf-Leaf.text.now c.in-Leaf-Leaf.more.now c.deref.result.now c.args.i c.bytes.ensures.text
    c.bytes-in-Leaf-Leaf.ensures.text r.0 is

pub spliced-requires-clause-there : goal.spliced-requires-clause-there
spliced-requires-clause-there g c =
    (node_inserted c.args.s.now c.args.x.now c.in-Node-Node.label.now c.in-Node-Node.field-0-1.now
    c.in-Node-Node.children.now c.in-Node-Node.more.now c.args.i c.in-Node-Node.ensures c.in-Node-Node.ensures'
    c.requires).0

pub node_of-requires : goal.node_of-requires
node_of-requires g c =
    let r = node_inserted c.args.s.now c.args.x.now c.in-Node-Node.label.now c.in-Node-Node.field-0-1.now
    c.in-Node-Node.children.now c.in-Node-Node.more.now c.args.i c.in-Node-Node.ensures c.in-Node-Node.ensures'
    c.requires in
    items_within c.in-Node-Node.label.now _ _ c.in_ok-all-in-Node-Node.ensures r.1.within

pub returns-in_ok-all-in-Node-Node-clause-made : goal.returns-in_ok-all-in-Node-Node-clause-made
returns-in_ok-all-in-Node-Node-clause-made g c =
    let r = node_inserted c.args.s.now c.args.x.now c.in-Node-Node.label.now c.in-Node-Node.field-0-1.now
    c.in-Node-Node.children.now c.in-Node-Node.more.now c.args.i c.in-Node-Node.ensures c.in-Node-Node.ensures'
    c.requires in
    made_ok _ _ _ _ r.1.is (node_is c.in-Node-Node.label.now _ _ c.in_ok-all-in-Node-Node.ensures)
    c.node_of.ensures.made
