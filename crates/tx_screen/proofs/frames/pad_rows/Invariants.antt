use Rattle.std.proofs.Common.{◌≡◌, [], ◌++◌, replicate}
use Rattle.tx_screen.proofs.frames.pad_rows.Given as goal

abbrev pub invariant-loop : goal.invariant-loop
invariant-loop l = l.rows.items ≡ l.fn.rows.items ++ replicate l.counter []
