use Rattle.std.proofs.Common.{◌≡◌, take}
use Rattle.tx_scan.specs.Stops.{is_stop}
use Rattle.tx_scan.proofs.LaneLemmas.{lanes_passing}
use Rattle.tx_scan.proofs.stop_set.Stops.run_in_block.Given as goal

abbrev pub invariant-loop-byte : goal.invariant-loop-byte
invariant-loop-byte l = l.stops ≡ lanes_passing (is_stop (take l.byte-index l.byte-items)) l.block
