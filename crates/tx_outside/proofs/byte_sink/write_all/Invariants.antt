use Rattle.std.proofs.Common.{◌≡◌, ◌≤◌, ◌-◌, [], length, take}
use Rattle.std.specs.Io.KnownBytes.{append_known}
use Rattle.tx_outside.specs.Outside.{SinkGoesOn}
use Rattle.tx_outside.proofs.byte_sink.write_all.Given as goal

-- the first bytes of the piece are written
abbrev pub invariant-loop-done : goal.invariant-loop-done
invariant-loop-done g l =
    let seen = g.O.Sink.seen in
    record {
      within : l.done ≤ length l.piece;
      written : (seen l.out).written ≡ append_known (seen l.fn.out).written (take l.done l.piece);
      goes_on : SinkGoesOn (seen l.fn.out) (seen l.out);
      untouched : l.piece ≡ [] → l.out ≡ l.fn.out;
    }

abbrev pub decreases-loop-done : goal.decreases-loop-done
decreases-loop-done g l = length l.piece - l.done
