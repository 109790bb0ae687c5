use Rattle.std.proofs.Common.{rules, ◌≡◌, ◌∷◌, ◌+◌, ◌<◌, length, ap, arith}
use Rattle.std.specs.Vec.Iter.{into_iter_items}
use Rattle.tx_items.proofs.RowsShown.{padded_pushed}
use Rattle.tx_items.proofs.tables.RowCells.padded.Goals as goal

pub loop-cell-preserved : goal.loop-cell-preserved
loop-cell-preserved c =
    let step : into_iter_items c.loop-cell.cell-iterator ≡ c.in-Some.cell ∷ into_iter_items c.next.new.self =
    search rules in
    let long = ap length step in
    let there : c.loop-cell.at < length c.args.self = omega (arith, c.loop-cell.invariant.counted, long) in
    record {
      counted = omega (arith, c.loop-cell.invariant.counted, long);
      so_far = padded_pushed c.loop-cell.at c.args.columns.now c.args.left.now c.args.right.now c.in-Some.cell
          (into_iter_items c.next.new.self) _ _ _ _ (omega (arith, there, c.requires.columns))
          (omega (arith, there, c.requires.left)) (omega (arith, there, c.requires.right)) (search rules) (search rules)
          (rw step at c.loop-cell.invariant.so_far) _ _ _ _ c.in_ok-add_between.ensures c.in_ok-push.ensures.items
          c.in_ok-move_to.ensures c.in_ok-push-2.ensures.items;
    }
