use Rattle.std.proofs.Common.{◌≡◌, ◌+◌, ◌≤◌, length}
use Rattle.tx_tm_form.specs.Machine.{run, keep, start}
use Rattle.tx_tm_read.specs.Nodes.{state_nodes}
use Rattle.tx_tm_read.specs.Spots.{state_of}
use Rattle.tx_tm_read.specs.Readers.{byte_machine}
use Rattle.tx_tm_read.specs.Credits.{reader_credit}
use Rattle.tx_tm_read.proofs.reader.read_all.Given as goal

abbrev pub invariant-bytes : goal.invariant-bytes
invariant-bytes g l =
    record {
      going : run keep (byte_machine l.reader) l.rest ≡ run keep start l.bytes;
      counted : l.steps ≤ l.fn.steps + state_nodes (state_of l.reader.spot);
      bounded : l.steps + reader_credit l.reader + length l.rest ≤ l.fn.steps + length l.bytes;
      rises : l.fn.steps ≤ l.steps;
    }

abbrev pub decreases-bytes : goal.decreases-bytes
decreases-bytes g l = length l.rest
