use Rattle.std.proofs.Common.{◌≡◌, ◌++◌, drop}
use Rattle.tx_unit_traces.specs.Carrying.{whole_of}
use Rattle.tx_unit_traces.proofs.carrying.whole_traces.Given as goal

abbrev pub invariant-loop-unit : goal.invariant-loop-unit
invariant-loop-unit l = l.whole.items ++ whole_of (drop l.unit-index l.units) ≡ whole_of l.units
