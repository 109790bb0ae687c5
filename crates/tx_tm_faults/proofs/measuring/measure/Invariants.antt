use Rattle.std.proofs.Common.{◌≡◌, take}
use Rattle.tx_tm_form.specs.Machine.{run}
use Rattle.tx_tm_form.specs.Measures.{keep_gauge, start_gauge}
use Rattle.tx_tm_faults.specs.Gauges.{meter_of}
use Rattle.tx_tm_faults.proofs.measuring.measure.Given as goal

abbrev pub invariant-loop-byte : goal.invariant-loop-byte
invariant-loop-byte l = run keep_gauge start_gauge (take l.byte-index l.bytes) ≡ meter_of l.meter
