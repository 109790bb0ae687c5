use Rattle.std.proofs.Common.{◌+◌, ◌-◌, take, drop, ap, refl, ◌∙◌, arith}
use Rattle.tx_mod.proofs.Remade.{leaf_removed, node_removed, same_ok}
use Rattle.tx_mod.proofs.Undone.{text_between, part_within, part_is, sub_add}
use Rattle.tx_mod.proofs.undoing.removed_part.Goals as goal

pub leaf_of-requires-clause-text : goal.leaf_of-requires-clause-text
leaf_of-requires-clause-text g c =
    let r = leaf_removed c.args.s.now c.in-Leaf.text.now c.args.i c.args.n c.in-Leaf.ensures c.requires in
    text_between c.in-Leaf.text.now (take (c.args.i + c.args.n - c.args.i) (drop c.args.i c.bytes.result.now)) c.args.i
    c.args.n c.bytes.ensures.text r.0 r.1 (rw (sub_add c.args.i c.args.n, c.bytes.ensures.bytes) refl)

pub slice_bounds-shares-end : goal.slice_bounds-shares-end
slice_bounds-shares-end g c =
    let r = node_removed c.args.s.now c.in-Node.field-0.now c.in-Node.children.now c.args.i c.args.n c.in-Node.ensures
    c.requires in
    omega (arith, r.0)

pub node_of-requires : goal.node_of-requires
node_of-requires g c =
    part_within c.args.s.now c.in-Node.field-0.now c.in_ok-label-in-Node.label c.in-Node.children.now
    c.in_ok-part-in-Node.part.items c.args.i c.args.n c.in-Node.ensures
    (c.in_ok-part-in-Node.ensures ∙ ap (λ k. take k (drop c.args.i c.in-Node.children.now)) (sub_add c.args.i c.args.n))
    c.size-size.ensures.within

pub returns-in_ok-part-in-Node-clause-made : goal.returns-in_ok-part-in-Node-clause-made
returns-in_ok-part-in-Node-clause-made g c =
    same_ok _ _ _
    (part_is c.args.s.now c.in-Node.field-0.now c.in-Node.children.now c.in_ok-part-in-Node.part.items c.args.i
    c.args.n c.in-Node.ensures
    (c.in_ok-part-in-Node.ensures
    ∙ ap (λ k. take k (drop c.args.i c.in-Node.children.now)) (sub_add c.args.i c.args.n)))
    (rw (← c.in_ok-label-in-Node.ensures) c.node_of.ensures.made)
