use Rattle.std.proofs.Common.{◌≡◌}
use Rattle.tx_value_tests.proofs.environments.set_names.Given as goal

abbrev pub invariant-loop-number : goal.invariant-loop-number
invariant-loop-number l = l.env.scopes ≡ l.fn.env.scopes
