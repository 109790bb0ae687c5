use Rattle.std.proofs.Common.{◌≡◌, arith, ap, sym, ◌∙◌}
use Rattle.tx_tree.specs.WideTree.{arity_of, node}
use Rattle.tx_origin.specs.Values.{vals, plain, plains}
use Rattle.tx_origin.specs.ValueView.{wide_value_of}
use Rattle.tx_origin.proofs.Parts.{few_parts}
use Rattle.tx_origin.proofs.values.Value.arity.Goals as goal

pub overflow_cast-result : goal.overflow_cast-result
overflow_cast-result c =
    let parts = plains (vals c.in-Node.parts.items) in
    let same : arity_of (plain (wide_value_of c.self.inside.content.value)) ≡ arity_of (node c.in-Node.field-0 parts) =
    ap (λ x. arity_of (plain (wide_value_of x))) (sym c.deref.ensures ∙ c.in-Node.is) in
    let le = few_parts c.in-Node.field-0 c.in-Node.parts.items in
    omega (arith, c.self.invariant.within.arity)
