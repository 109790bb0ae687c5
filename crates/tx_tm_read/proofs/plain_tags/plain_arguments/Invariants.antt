use Rattle.std.proofs.Common.{◌≤◌, ◌-◌, length, take}
use Rattle.tx_tm_read.specs.PlainTags.{AreArguments}
use Rattle.tx_tm_read.proofs.plain_tags.plain_arguments.Given as goal

abbrev pub decreases-loop-at : goal.decreases-loop-at
decreases-loop-at l = length l.bytes - l.at

abbrev pub invariant-loop-at : goal.invariant-loop-at
invariant-loop-at l =
    record { within : l.at ≤ length l.bytes; are : AreArguments (take l.at l.bytes) l.children.items }
