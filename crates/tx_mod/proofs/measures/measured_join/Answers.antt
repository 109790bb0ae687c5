use Rattle.std.proofs.Common.{◌≡◌, ◌+◌, refl, arith, Some}
use Rattle.std.specs.Prelude.{slice_get}
use Rattle.std.proofs.lemmas.Result.{err_from_is_err_and}
use Rattle.tx_mod.proofs.Measuring.{join_made, join_refused, child_found, some_size}
use Rattle.tx_mod.proofs.measures.measured_join.Goals as goal

pub returns-in_err-made-clause-measured : goal.returns-in_err-made-clause-measured
returns-in_err-made-clause-measured c =
    let first : slice_get c.in-Node.children.now c.args.i ≡ Some c.index-children-i.result =
    child_found c.in-Node.children.now c.args.i c.index-children-i.result (omega arith) c.index-children-i.is in
    let second : slice_get c.in-Node.children.now (c.args.i + 1) ≡ Some c.index-children-i-2.result =
    child_found c.in-Node.children.now (c.args.i + 1) c.index-children-i-2.result (omega arith)
    c.index-children-i-2.is in
    let p = err_from_is_err_and c.from_residual.result c.from_residual.ensures.1 in
    rw (p.1, p.2)
    (join_refused c.args.s.now c.in-Node.field-0.now c.in-Node.children.now c.args.i c.index-children-i.result
    c.index-children-i-2.result c.in_err-made.field-0.0 c.in-Node.ensures first second
    c.in_err-made.ensures.measured)

pub returns-clause-measured : goal.returns-clause-measured
returns-clause-measured c =
    let first : slice_get c.in-Node.children.now c.args.i ≡ Some c.index-children-i.result =
    child_found c.in-Node.children.now c.args.i c.index-children-i.result (omega arith) c.index-children-i.is in
    let second : slice_get c.in-Node.children.now (c.args.i + 1) ≡ Some c.index-children-i-2.result =
    child_found c.in-Node.children.now (c.args.i + 1) c.index-children-i-2.result (omega arith)
    c.index-children-i-2.is in
    join_made c.args.s.now c.in-Node.field-0.now c.in-Node.children.now c.args.i _ _ c.in_ok-made.made _
    c.in-Node.ensures first second c.in_ok-made.ensures.measured c.size-size.ensures.within refl refl (grind arith)
    (omega (arith, c.size-size.ensures.value, some_size c.args.s.now))
