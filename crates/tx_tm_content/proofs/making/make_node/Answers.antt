use Rattle.std.proofs.Common.{arith}
use Rattle.tx_tm_content.proofs.Made.{arity_least}
use Rattle.tx_tm_content.proofs.making.make_node.Goals as goal

pub returns-in-Err-TooWide-clause-made : goal.returns-in-Err-TooWide-clause-made
returns-in-Err-TooWide-clause-made g c =
    let f = rw c.in-Err-TooWide.field-0-is at c.in-Err-TooWide.ensures.refused in let bad = f (λ e. cc) in
    λ w. omega (arith, bad.0, w.arity, arity_least c.args.label c.args.children.items)
