use Rattle.std.proofs.Common.{◌≡◌, rules, refl, arith}
use Rattle.tx_mod.specs.Mods.{tuple}
use Rattle.tx_mod.proofs.Measuring.{insert_past, insert_made, some_size}
use Rattle.tx_mod.proofs.measures.measured_insert.Goals as goal

pub returns-then-i-children-clause-measured : goal.returns-then-i-children-clause-measured
returns-then-i-children-clause-measured c =
    let named : c.in-Node-Node.label.now ≡ tuple = search rules in
    insert_past c.args.s.now c.args.x.now c.in-Node-Node.field-0-0.now c.in-Node-Node.label.now
    c.in-Node-Node.children.now c.in-Node-Node.more.now c.args.i c.in-Node-Node.ensures c.in-Node-Node.ensures'
    named (omega arith)

pub returns-else-i-children-clause-measured : goal.returns-else-i-children-clause-measured
returns-else-i-children-clause-measured c =
    let named : c.in-Node-Node.label.now ≡ tuple = search rules in
    insert_made c.args.s.now c.args.x.now c.in-Node-Node.field-0-0.now c.in-Node-Node.label.now
    c.in-Node-Node.children.now c.in-Node-Node.more.now c.args.i _ c.in-Node-Node.ensures c.in-Node-Node.ensures'
    named (omega arith)
    c.size.ensures.within c.size-2.ensures.within refl refl (grind arith)
    (omega (arith, c.size.ensures.value, c.size-2.ensures.value, some_size c.args.s.now))
