use Rattle.std.proofs.Common.{◌≡◌, ◌+◌, ◌-◌, ◌*◌, ◌≤◌, map}
use Rattle.std.specs.List.{range_with_len}
use Rattle.tx_exec_form.specs.Rows.{item_call}
use Rattle.tx_exec.proofs.calls.call_over.Given as goal

abbrev pub invariant-loop-number : goal.invariant-loop-number
invariant-loop-number g l = record {
  items : l.items.items ≡ map (item_call l.words.foo l.words.name) (range_with_len l.fn.from (l.number - l.fn.from));
  from : l.fn.from ≤ l.number;
  counted : l.steps ≡ l.fn.steps + 2 * (l.number - l.fn.from);
}
