use Rattle.std.proofs.Common.{arith}
use Rattle.tx_mod.proofs.Measuring.{wrap_past}
use Rattle.tx_mod.proofs.measures.measured_wrap.Goals as goal

pub returns-then-i-children-clause-measured : goal.returns-then-i-children-clause-measured
returns-then-i-children-clause-measured c =
    wrap_past c.args.s.now c.args.x.now c.in-Node.field-0.now c.in-Node.children.now c.args.i c.in-Node.ensures
    (omega arith)
