use Rattle.std.proofs.Common.{◌+◌, ap, refl, arith}
use Rattle.std.proofs.lemmas.List.{take_rest}
use Rattle.tx_tree.specs.WideTree.{forest, total_size, deepest}
use Rattle.tx_mod.proofs.Measuring.{remove_past, remove_made, of_parts, size_of_node}
use Rattle.tx_mod.proofs.measures.measured_remove.Goals as goal

pub returns-then-end-children-clause-measured : goal.returns-then-end-children-clause-measured
returns-then-end-children-clause-measured c =
    remove_past c.args.s.now c.in-Node.field-0.now c.in-Node.children.now c.args.i c.args.n c.in-Node.ensures
    (omega arith)

pub overflow_add-size : goal.overflow_add-size
overflow_add-size c =
    let front = of_parts c.in-Node.children.now c.args.i in
    let whole = size_of_node c.args.s.now c.in-Node.field-0.now c.in-Node.children.now c.in-Node.ensures in
    omega (arith, front.size, whole, c.total_size.ensures, c.size-size.ensures.within.size)

pub overflow_add-size-in-Node : goal.overflow_add-size-in-Node
overflow_add-size-in-Node c =
    let front = of_parts c.in-Node.children.now c.args.i in
    let back = of_parts c.in-Node.children.now (c.args.i + c.args.n) in
    let rest = ap (λ us. total_size (forest us)) (take_rest c.in-Node.children.now (c.args.i + c.args.n)) in
    let whole = size_of_node c.args.s.now c.in-Node.field-0.now c.in-Node.children.now c.in-Node.ensures in
    omega (
      arith,
      front.size,
      back.size,
      rest,
      whole,
      c.total_size.ensures,
      c.total_size-in-Node.ensures,
      c.size-size.ensures.within.size,
    )

pub returns-else-end-children-clause-measured : goal.returns-else-end-children-clause-measured
returns-else-end-children-clause-measured c =
    let rest = take_rest c.in-Node.children.now (c.args.i + c.args.n) in
    let rest_size = ap (λ us. total_size (forest us)) rest in
    let rest_depth = ap (λ us. deepest (forest us)) rest in
    remove_made c.args.s.now c.in-Node.field-0.now c.in-Node.children.now c.args.i c.args.n _ c.in-Node.ensures
    (omega arith) c.size-size.ensures.within refl refl
    (omega (
      arith,
      c.from-depth.ensures,
      c.max.ensures,
      c.deepest.ensures.depth,
      c.deepest-in-Node.ensures.depth,
      rest_depth,
    ))
    (omega (arith, c.total_size.ensures, c.total_size-in-Node.ensures, rest_size))

pub returns-else-end-children-clause-small : goal.returns-else-end-children-clause-small
returns-else-end-children-clause-small c =
    let front = of_parts c.in-Node.children.now c.args.i in
    let back = of_parts c.in-Node.children.now (c.args.i + c.args.n) in
    let rest = ap (λ us. total_size (forest us)) (take_rest c.in-Node.children.now (c.args.i + c.args.n)) in
    let whole = size_of_node c.args.s.now c.in-Node.field-0.now c.in-Node.children.now c.in-Node.ensures in
    record {
      depth = omega (
        arith,
        c.from-depth.ensures,
        c.max.ensures,
        c.deepest.ensures.shallow,
        c.deepest-in-Node.ensures.shallow,
      );
      size = omega (
        arith,
        front.size,
        back.size,
        rest,
        whole,
        c.total_size.ensures,
        c.total_size-in-Node.ensures,
        c.size-size.ensures.within.size,
      );
    }
