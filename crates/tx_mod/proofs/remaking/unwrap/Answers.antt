use Rattle.tx_mod.proofs.Remade.{node_unwrapped, found_same, made_ok}
use Rattle.tx_mod.proofs.remaking.unwrap.Goals as goal
use Rattle.std.proofs.lemmas.Option.{slice_get_within}

pub bounds-children-i : goal.bounds-children-i
bounds-children-i c =
    let r = node_unwrapped c.args.s.now c.in-Node.field-0.now c.in-Node.children.now c.args.i c.in-Node.ensures
    c.requires in
    slice_get_within c.in-Node.children.now c.args.i r.0 r.1

pub returns : goal.returns
returns c =
    let r = node_unwrapped c.args.s.now c.in-Node.field-0.now c.in-Node.children.now c.args.i c.in-Node.ensures
    c.requires in
    let same = found_same c.in-Node.children.now c.args.i r.0 c.index-children-i.result r.1 c.index-children-i.is in
    made_ok _ _ _ _ r.2.is same c.share.ensures
