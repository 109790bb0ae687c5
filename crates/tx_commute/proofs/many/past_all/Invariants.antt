use Rattle.std.proofs.Common.{◌≡◌}
use Rattle.std.specs.Prelude.{option_map}
use Rattle.tx_commute.specs.Leaving.{past_all_known}
use Rattle.tx_commute.proofs.Loops.{put_all}
use Rattle.tx_commute.proofs.many.past_all.Given as goal

abbrev pub invariant-loop-a : goal.invariant-loop-a
invariant-loop-a l = past_all_known l.fn.known.items l.fn.b
    ≡ option_map (put_all l.left.items) (past_all_known l.a-iterator.rest.items l.now)
