use Rattle.std.proofs.Common.{◌≡◌, ◌+◌, drop}
use Rattle.tx_prim.proofs.ItemRuns.{bytes_yet}
use Rattle.std.proofs.Common.{false}
use Rattle.tx_prim.proofs.items.bytes_of_items.Given as goal

abbrev pub invariant-loop-i : goal.invariant-loop-i
invariant-loop-i l = bytes_yet false l.fn.items l.bytes ≡ l.i + bytes_yet l.in_symbol l.left (drop l.i l.bytes)
