use Rattle.std.proofs.Common.{◌≡◌, ◌+◌, ◌≤◌, drop, length}
use Rattle.tx_prim.specs.Items.{text_items}
use Rattle.tx_prim.proofs.ItemRuns.{begin_yet}
use Rattle.tx_prim.proofs.items.item_count.Given as goal

abbrev pub invariant-loop-byte : goal.invariant-loop-byte
invariant-loop-byte l = (length (text_items l.bytes) ≡ l.count + begin_yet l.in_symbol (drop l.byte-index l.bytes))
    × (l.count ≤ l.byte-index)
