use Rattle.std.proofs.Common.{◌≡◌, ◌≢◌, ◌+◌, Some, false, true, slice_get, rules, arith}
use Rattle.tx_terminal.proofs.Repainting.{IsWrittenTo, all_written, begins, one_kept, one_written}
use Rattle.tx_terminal.proofs.painter.add_changed.Goals as goal
use Rattle.tx_terminal.proofs.painter.add_changed.Goals.{then-not-is_former+in_ok-paint_row, else-not-is_former}

pub loop-at-preserved : goal.loop-at-preserved
loop-at-preserved c =
    let former = c.args.former.now in
    let rows = c.args.rows.now in
    let before = c.args.out.now.items in
    let now = c.if-not-is_former.out.items in
    let i = c.loop-at.at in
    let row = c.index-rows-at.result in
    let done : IsWrittenTo former rows before now (i + 1)
    = elim c.if-not-is_former.branch [
      | then-not-is_former+in_ok-paint_row w ↦
          let other : slice_get former i ≢ Some row
          = λ same.
          let yes : c.is_former.result ≡ true = c.is_former.ensures.1 same in
          let no : c.is_former.result ≡ false = w.if-not-is_former.true in
          cc in
          let painted = rw w.characters.ensures at w.in_ok-paint_row.ensures.painted in
          search (
            rules,
            w.out-is,
            one_written former rows before c.loop-at.out.items w.paint_row.new.out.items i row
                c.loop-at-test.true c.index-rows-at.is other painted c.loop-at.invariant.written,
          )
      | else-not-is_former w ↦
          let same : slice_get former i ≡ Some row = c.is_former.ensures.0 w.if-not-is_former.false in
          one_kept former rows before now i row c.loop-at-test.true c.index-rows-at.is same
          (search (rules, w.out-is, c.loop-at.invariant.written))
    ] in
    record { written = done; grows = begins former rows before now (i + 1) done }

pub returns-clause-added : goal.returns-clause-added
returns-clause-added c =
    all_written c.args.former.now c.args.rows.now c.args.out.now.items c.loop-at.out.items c.loop-at.at (omega arith)
    c.loop-at.invariant.written
