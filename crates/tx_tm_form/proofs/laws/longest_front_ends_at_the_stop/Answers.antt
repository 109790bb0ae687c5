use Rattle.tx_tm_form.proofs.Longest.{stop_is_longest, longest_is_stop}
use Rattle.tx_tm_form.proofs.laws.longest_front_ends_at_the_stop.Goals as goal

pub returns-clause-ends : goal.returns-clause-ends
returns-clause-ends c = stop_is_longest

pub returns-clause-only : goal.returns-clause-only
returns-clause-only c = longest_is_stop
