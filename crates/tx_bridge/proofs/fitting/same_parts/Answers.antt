use Rattle.std.proofs.Common.{◌≡◌, arith, length}
use Rattle.tx_bridge.proofs.Staying.{other_many, same_more, same_ends, same_all}
use Rattle.tx_bridge.proofs.fitting.same_parts.Goals as goal

pub returns-then-kept-parts : goal.returns-then-kept-parts
returns-then-kept-parts c =
    other_many c.args.kept.now c.args.parts.now
    (λ (e : length c.args.kept.now ≡ length c.args.parts.now). let h = c.if-kept-parts.true in omega (arith, h, e))
