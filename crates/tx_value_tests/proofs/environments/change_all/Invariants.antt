use Rattle.std.proofs.Common.{◌≡◌}
use Rattle.tx_value_tests.proofs.environments.change_all.Given as goal

abbrev pub invariant-loop-word : goal.invariant-loop-word
invariant-loop-word l = l.env.scopes ≡ l.fn.env.scopes
