use Rattle.std.proofs.Common.{◌≡◌, ◌++◌}
use Rattle.tx_env.proofs.pairs.Pairs.into_vec.Given as goal

abbrev pub invariant-loop-pair : goal.invariant-loop-pair
invariant-loop-pair l = l.pairs.items ++ l.pair-iterator ≡ l.fn.self
