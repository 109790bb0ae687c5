use Rattle.std.proofs.Common.{◌≡◌, ◌++◌, length, take, drop, rules, ◌∙◌}
use Rattle.tx_mod.proofs.Remade.{pair_joined, texts_together, whole_and, items_within, node_is, made_ok}
use Rattle.tx_mod.proofs.remaking.join_pair.Goals as goal

pub leaf_of-requires-clause-text : goal.leaf_of-requires-clause-text
leaf_of-requires-clause-text g c =
    let is : c.deref.result.now ≡ take (length c.in-Leaf-Leaf.text.now) c.in-Leaf-Leaf.text.now
    ++ c.in-Leaf-Leaf.more.now ++ drop (length c.in-Leaf-Leaf.text.now) c.in-Leaf-Leaf.text.now = search rules in
    rw (is, whole_and c.in-Leaf-Leaf.text.now c.in-Leaf-Leaf.more.now)
    (texts_together c.in-Leaf-Leaf.text.now c.in-Leaf-Leaf.more.now c.bytes-bytes.ensures.text c.bytes.ensures.text)

pub node_of-requires : goal.node_of-requires
node_of-requires g c =
    let r = pair_joined c.args.a.now c.args.b.now c.in-Node-Node.label.now c.in-Node-Node.field-0-1.now
    c.in-Node-Node.children.now c.in-Node-Node.more.now c.in-Node-Node.ensures c.in-Node-Node.ensures' c.requires in
    items_within c.in-Node-Node.label.now _ _ (c.in_ok-all-in-Node-Node.ensures
    ∙ whole_and c.in-Node-Node.children.now c.in-Node-Node.more.now) r.within

pub returns-in_ok-all-in-Node-Node-clause-made : goal.returns-in_ok-all-in-Node-Node-clause-made
returns-in_ok-all-in-Node-Node-clause-made g c =
    let r = pair_joined c.args.a.now c.args.b.now c.in-Node-Node.label.now c.in-Node-Node.field-0-1.now
    c.in-Node-Node.children.now c.in-Node-Node.more.now c.in-Node-Node.ensures c.in-Node-Node.ensures' c.requires in
    made_ok _ _ _ _ r.is
    (node_is c.in-Node-Node.label.now _ _ (c.in_ok-all-in-Node-Node.ensures
    ∙ whole_and c.in-Node-Node.children.now c.in-Node-Node.more.now)) c.node_of.ensures.made
