use Rattle.std.proofs.Common.{arith, length, ◌≡◌, ap}
use Rattle.tx_outside.proofs.GoingOn.{sink_goes_on_then}
use Rattle.tx_outside.proofs.Pieces.{append_known-more}
use Rattle.tx_outside.proofs.byte_sink.write_all.Goals as goal

-- one write more
pub loop-done-preserved : goal.loop-done-preserved
loop-done-preserved g c = record {
  within = grind (arith, c.in_ok-done.ensures.within);
  written = append_known-more _ _ _ _ _ _ c.loop-done.invariant.written c.in_ok-done.ensures.appended;
  goes_on = sink_goes_on_then _ _ _ c.loop-done.invariant.goes_on c.write.ensures.goes_on;
  untouched = λ empty. let none : length c.args.piece.now ≡ 0 = ap length empty in absurd (omega arith);
}
