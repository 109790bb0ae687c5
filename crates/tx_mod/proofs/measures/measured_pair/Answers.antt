use Rattle.std.proofs.Common.{◌≡◌, rules, refl, arith}
use Rattle.tx_mod.proofs.Measuring.{pair_made, some_size}
use Rattle.tx_mod.proofs.measures.measured_pair.Goals as goal

pub returns-else-ne-clause-measured : goal.returns-else-ne-clause-measured
returns-else-ne-clause-measured c =
    let named : c.in-Node-Node.label.now ≡ c.in-Node-Node.name.now = search rules in
    pair_made c.args.a.now c.args.b.now c.in-Node-Node.label.now c.in-Node-Node.name.now c.in-Node-Node.children.now
    c.in-Node-Node.more.now _ c.in-Node-Node.ensures c.in-Node-Node.ensures' named
    c.size.ensures.within c.size-2.ensures.within refl refl (grind arith)
    (omega (arith, c.size.ensures.value, c.size-2.ensures.value, some_size c.args.a.now))
