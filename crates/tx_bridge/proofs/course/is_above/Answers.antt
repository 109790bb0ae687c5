use Rattle.std.proofs.Common.{rules}
use Rattle.tx_bridge.proofs.Above.{above_test}
use Rattle.tx_bridge.proofs.course.is_above.Goals as goal

pub returns-in-Some : goal.returns-in-Some
returns-in-Some c =
    above_test c.args.unit.now c.in-Some.path c.args.place.now c.starts_with.result c.in-Some.is (search rules)
