use Rattle.std.proofs.Common.{length, take}
use Rattle.tx_prim.specs.Items.{text_items, joined_lists}
use Rattle.tx_prim.proofs.ItemRuns.{part_within, part_between}
use Rattle.tx_prim.proofs.items.bytes_of_items.Goals.{then-in_symbol, else-in_symbol+else-left-eq0}
use Rattle.tx_prim.proofs.items.bytes_of_items.Goals as goal

pub loop-i-preserved : goal.loop-i-preserved
loop-i-preserved c =
    let total = length (joined_lists (take c.args.items (text_items c.args.bytes.now))) in
    elim c.if-in_symbol.branch [
      | then-in_symbol w ↦
          part_within c.args.bytes.now c.loop-i.i c.loop-i.left c.if-in_symbol.left total c.loop-i.in_symbol
          c.if-in_symbol.in_symbol c.loop-i-test.true c.loop-i.invariant w.if-in_symbol.true w.left-is
          w.in_symbol-is
      | else-in_symbol+else-left-eq0 w ↦
          part_between c.args.bytes.now c.loop-i.i c.loop-i.left c.if-in_symbol.left total c.loop-i.in_symbol
          c.if-in_symbol.in_symbol c.loop-i-test.true c.loop-i.invariant w.if-in_symbol.false
          w.if-left-eq0.false w.left-is w.in_symbol-is
    ]
