use Rattle.std.proofs.Common.{◌≡◌, length}
use Rattle.tx_doc.specs.Buffers.{document_of}
use Rattle.tx_units.specs.Units.{units}
use Rattle.tx_bridge.specs.Entries.{units_of}
use Rattle.tx_bridge.specs.Strays.{StandAside}
use Rattle.tx_bridge_tests.proofs.series.all_hold.Given as goal

abbrev pub invariant-loop-edit : goal.invariant-loop-edit
invariant-loop-edit g l = record {
  many : length l.buffers ≡ length l.fn.buffers;
  units : units_of l.bridges.kept ≡ units l.buffers;
  strays : StandAside (document_of l.buffers) l.bridges.strays;
}
