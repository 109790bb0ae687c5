use Rattle.std.proofs.Common.{◌≡◌, arith, Some}
use Rattle.std.specs.Prelude.{slice_get}
use Rattle.tx_mod.proofs.Measuring.{unwrap_is, child_found}
use Rattle.tx_mod.proofs.measures.measured_unwrap.Goals as goal

pub returns-clause-measured : goal.returns-clause-measured
returns-clause-measured c =
    let found : slice_get c.in-Node.children.now c.args.i ≡ Some c.index-children-i.result =
    child_found c.in-Node.children.now c.args.i c.index-children-i.result (omega arith) c.index-children-i.is in
    rw (unwrap_is c.args.s.now c.in-Node.field-0.now c.in-Node.children.now c.args.i c.index-children-i.result
    c.in-Node.ensures found) c.measure_of.ensures.made
