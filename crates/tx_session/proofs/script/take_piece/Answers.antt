use Rattle.std.proofs.Common.{◌++◌, take, arith}
use Rattle.tx_outside.proofs.Counting.{then_rose}
use Rattle.tx_outside.proofs.GoingOn.{sink_goes_on_then, store_goes_on_then}
use Rattle.tx_session.proofs.Standing.{stops_in_piece, goes_on_in_piece}
use Rattle.tx_session.proofs.script.take_piece.Goals as goal

pub returns-in_default : goal.returns-in_default
returns-in_default g c =
    record {
      leads = λ start before bytes s. stops_in_piece c.take_byte.result start before bytes c.args.piece.now
          c.loop-byte.byte-index _ _ _ c.loop-byte-test.true c.in_default.not-Go
          (c.take_byte.ensures.leads start before (bytes ++ take c.loop-byte.byte-index c.args.piece.now)
          (c.loop-byte.invariant.leads start before bytes s));
      kept = λ e. absurd (c.in_default.not-Go e);
      count = omega (arith, c.take_byte.ensures.count, c.loop-byte.invariant.count, c.loop-byte-test.true);
      output_failed = λ e. then_rose _ _ _ c.loop-byte.invariant.output.faults (c.take_byte.ensures.output_failed e);
      store_goes_on = store_goes_on_then _ _ _ c.loop-byte.invariant.store c.take_byte.ensures.store_goes_on;
      output_goes_on = sink_goes_on_then _ _ _ c.loop-byte.invariant.output c.take_byte.ensures.output_goes_on;
    }

pub loop-byte-preserved : goal.loop-byte-preserved
loop-byte-preserved g c =
    record {
      kept = c.take_byte.ensures.kept c.in-Go.is;
      leads = λ start before bytes s. goes_on_in_piece c.take_byte.result start before bytes c.args.piece.now
          c.loop-byte.byte-index _ _ _ c.loop-byte-test.true c.in-Go.is
          (c.take_byte.ensures.leads start before (bytes ++ take c.loop-byte.byte-index c.args.piece.now)
          (c.loop-byte.invariant.leads start before bytes s));
      count = omega (arith, c.take_byte.ensures.count, c.loop-byte.invariant.count);
      store = store_goes_on_then _ _ _ c.loop-byte.invariant.store c.take_byte.ensures.store_goes_on;
      output = sink_goes_on_then _ _ _ c.loop-byte.invariant.output c.take_byte.ensures.output_goes_on;
    }
