use Rattle.std.proofs.Common.{arith}
use Rattle.tx_exec_form.specs.Rows.{item_call}
use Rattle.tx_exec.proofs.MapCalls.{item_next}
use Rattle.tx_exec.proofs.calls.call_over.Goals as goal

pub loop-number-preserved : goal.loop-number-preserved
loop-number-preserved g c =
    let h = c.loop-number.invariant in
    record {
      items = item_next (item_call c.args.words.now.foo c.args.words.now.name) c.args.from c.loop-number.number _ _ _
          h.from h.items c.in_ok-push.ensures.items c.in_ok-item_call.ensures.made;
      from = omega (arith, h.from);
      counted = omega (arith, h.counted, h.from, c.in_ok-item_call.ensures.counted);
    }
