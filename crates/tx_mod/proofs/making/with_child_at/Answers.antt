use Rattle.std.proofs.Common.{◌<◌, length, ap, arith}
use Rattle.tx_mod.proofs.Built.{with_child_seen, with_child_within, children_seen}
use Rattle.tx_mod.proofs.making.with_child_at.Goals as goal

pub node_of-requires : goal.node_of-requires
node_of-requires g c =
    let within : c.args.i < length c.in-Node.children.now =
    omega (
      arith,
      ap length (children_seen c.args.t.now c.in-Node.label.now c.in-Node.children.now c.in-Node.ensures),
      c.requires.there,
    ) in
    with_child_within c.args.t.now c.args.child c.args.i c.in-Node.label.now c.in-Node.children.now
    c.in_ok-all.all.items c.in-Node.ensures within c.in_ok-all.ensures c.requires.within

pub returns-clause-made : goal.returns-clause-made
returns-clause-made g c =
    let within : c.args.i < length c.in-Node.children.now =
    omega (
      arith,
      ap length (children_seen c.args.t.now c.in-Node.label.now c.in-Node.children.now c.in-Node.ensures),
      c.requires.there,
    ) in
    rw (
      with_child_seen c.args.t.now c.args.child c.args.i c.in-Node.label.now c.in-Node.children.now c.in-Node.ensures
          within,
      ← c.in_ok-all.ensures,
    ) c.node_of.ensures.made
