use Rattle.std.proofs.Common.{◌≡◌, take}
use Rattle.std.specs.FinMap.{from_entries}
use Rattle.tx_env.specs.Changes.{map_of}
use Rattle.tx_parts.specs.Atop.{both_looks}
use Rattle.tx_replay.proofs.looking.join_looks.Given as goal

abbrev pub invariant-loop-name : goal.invariant-loop-name
invariant-loop-name l =
    from_entries l.looks
    ≡ both_looks (from_entries l.fn.looks) (map_of l.own) (from_entries (take l.name-index l.name-items))
