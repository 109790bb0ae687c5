use Rattle.std.proofs.Common.{◌+◌, take, drop, arith}
use Rattle.std.proofs.lemmas.Option.{slice_get_within}
use Rattle.tx_mod.proofs.Remade.{node_unwrapped, nil_between, same_ok}
use Rattle.tx_mod.proofs.Undone.{taken_within, without_is}
use Rattle.tx_mod.proofs.undoing.without_child.Goals as goal

pub spliced-requires-clause-there : goal.spliced-requires-clause-there
spliced-requires-clause-there g c =
    let r = node_unwrapped c.args.s.now c.in-Node.label.now c.in-Node.children.now c.args.i c.in-Node.ensures
    c.requires in
    let within = slice_get_within c.in-Node.children.now c.args.i r.0 r.1 in
    omega arith

pub node_of-requires : goal.node_of-requires
node_of-requires g c =
    taken_within c.args.s.now c.in-Node.label.now c.in-Node.children.now c.in_ok-all.all.items c.args.i 1
    c.in-Node.ensures
    (nil_between (take c.args.i c.in-Node.children.now) (drop (c.args.i + 1) c.in-Node.children.now)
    c.in_ok-all.all.items c.in_ok-all.ensures) c.size-size.ensures.within

pub returns-clause-made : goal.returns-clause-made
returns-clause-made g c =
    same_ok _ _ _
    (without_is c.args.s.now c.in-Node.label.now c.in-Node.children.now c.in_ok-all.all.items c.args.i
    c.in-Node.ensures
    (nil_between (take c.args.i c.in-Node.children.now) (drop (c.args.i + 1) c.in-Node.children.now)
    c.in_ok-all.all.items c.in_ok-all.ensures)) c.node_of.ensures.made
