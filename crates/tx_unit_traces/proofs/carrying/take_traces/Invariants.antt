use Rattle.std.proofs.Common.{◌≡◌, ◌≤◌, ◌++◌, length}
use Rattle.tx_unit_traces.specs.Carrying.{taken_from}
use Rattle.tx_unit_traces.proofs.carrying.take_traces.Given as goal

abbrev pub invariant-loop-unit : goal.invariant-loop-unit
invariant-loop-unit l =
    (l.taken.items ++ taken_from l.whole l.old (length l.taken.items) l.unit-iterator.rest.items
    ≡ taken_from l.whole l.old 0 l.fn.units.items)
    × (l.hint ≤ length l.taken.items)
