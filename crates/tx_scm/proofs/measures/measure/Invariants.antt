use Rattle.std.proofs.Common.{◌≡◌, ◌+◌, drop}
use Rattle.tx_scm.specs.Measuring.{IsSmallGauge, measured, empty_gauge}
use Rattle.tx_scm.specs.Gauges.{gauge_of}
use Rattle.tx_scm.proofs.measures.measure.Given as goal

abbrev pub invariant-loop-byte : goal.invariant-loop-byte
invariant-loop-byte l =
    record {
      same : measured empty_gauge l.bytes ≡ measured (gauge_of l.gauge) (drop l.byte-index l.bytes);
      small : IsSmallGauge (l.byte-index + 1) (gauge_of l.gauge);
    }
