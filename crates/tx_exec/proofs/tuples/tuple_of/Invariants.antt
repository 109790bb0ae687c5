use Rattle.std.proofs.Common.{◌≡◌, ◌++◌, drop}
use Rattle.std.specs.Prelude.{map}
use Rattle.tx_origin.specs.TaggedTrees.{tagged_of, kids_of}
use Rattle.tx_exec.proofs.Tupling.{stands}
use Rattle.tx_exec.proofs.tuples.tuple_of.Given as goal

abbrev pub invariant-loop-i : goal.invariant-loop-i
invariant-loop-i l =
    l.values.items ++ map stands (drop l.i (kids_of (tagged_of l.tag))) ≡ map stands (kids_of (tagged_of l.fn.tag))
