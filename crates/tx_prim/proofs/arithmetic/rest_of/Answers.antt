use Rattle.tx_prim.proofs.Remainders.{rest_none, rest_as_bits}
use Rattle.tx_prim.proofs.arithmetic.rest_of.Goals as goal

pub returns-then-y-eqminus1 : goal.returns-then-y-eqminus1
returns-then-y-eqminus1 c = rest_none c.args.x c.args.y c.ranges.y c.if-y-eqminus1.true

pub returns : goal.returns
returns c = rest_as_bits c.args.x c.args.y c.ranges.x c.ranges.y
