use Rattle.std.proofs.Common.{arith, length}
use Rattle.tx_prim.specs.Items.{text_items}
use Rattle.tx_prim.proofs.ItemRuns.{counted_within, counted_between}
use Rattle.tx_prim.proofs.items.item_count.Goals.{then-in_symbol, else-in_symbol}
use Rattle.tx_prim.proofs.items.item_count.Goals as goal

pub loop-byte-preserved : goal.loop-byte-preserved
loop-byte-preserved c =
    let total = length (text_items c.args.bytes.now) in
    elim c.if-in_symbol.branch [
      | then-in_symbol w ↦ (
        counted_within c.args.bytes.now c.loop-byte.byte-index c.loop-byte.count c.if-in_symbol.count total
            c.loop-byte.in_symbol c.if-in_symbol.in_symbol c.loop-byte-test.true c.loop-byte.invariant.0
            w.if-in_symbol.true w.count-is w.in_symbol-is,
        omega (arith, c.loop-byte.invariant.1, w.count-is),
      )
      | else-in_symbol w ↦ (
        counted_between c.args.bytes.now c.loop-byte.byte-index c.loop-byte.count c.if-in_symbol.count total
            c.loop-byte.in_symbol c.if-in_symbol.in_symbol c.loop-byte-test.true c.loop-byte.invariant.0
            w.if-in_symbol.false w.count-is w.in_symbol-is,
        omega (arith, c.loop-byte.invariant.1, w.count-is),
      )
    ]
