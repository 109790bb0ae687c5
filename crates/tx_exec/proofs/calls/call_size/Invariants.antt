use Rattle.std.proofs.Common.{◌≡◌, ◌+◌, ◌-◌, ◌*◌, ◌≤◌}
use Rattle.std.specs.List.{range_with_len}
use Rattle.tx_tree.specs.WideTree.{size_of}
use Rattle.tx_exec_form.specs.Rows.{call_over}
use Rattle.tx_exec.proofs.calls.call_size.Given as goal

abbrev pub invariant-loop-number : goal.invariant-loop-number
invariant-loop-number l = record {
  size : l.size ≡ size_of
      (call_over l.words.foo l.words.root l.words.name (range_with_len l.fn.from (l.number - l.fn.from)));
  from : l.fn.from ≤ l.number;
  small : l.size ≤ 1 + 1100000 * (l.number - l.fn.from);
  nodes : 1 + 2 * (l.number - l.fn.from) ≤ l.size;
}
