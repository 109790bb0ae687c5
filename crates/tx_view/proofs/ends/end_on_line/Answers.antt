use Rattle.std.proofs.Common.{◌≡◌, ◌+◌, [], arith, drop, sym, ap, ◌∙◌, Bool, Option, ℕ}
use Rattle.tx_items.specs.Cells.{cells_across}
use Rattle.tx_items.specs.declared.drawing.Item.{Item}
use Rattle.tx_view.specs.Ends.{of_end, has_end, end_on_line}
use Rattle.tx_view.proofs.EndsFound.{cell_from, cell_here, cell_later, no_cell, next_fits}
use Rattle.tx_view.proofs.EndsUnder.{place_after}
use Rattle.tx_view.proofs.ends.end_on_line.Goals as goal

pub overflow_add-to : goal.overflow_add-to
overflow_add-to c =
    omega (
      arith,
      next_fits c.all-items.result.now c.loop-item.from c.loop-item.item-index c.item-item.result
          c.loop-item-test.true c.item-item.is c.loop-item.invariant.fits,
      c.item_cells.ensures,
    )

pub returns-then-has_end : goal.returns-then-has_end
returns-then-has_end c =
    let test : Item → Bool = has_end c.args.end [] (place_after c.args.steps.now c.args.offset) in
    cell_here c.args.end test c.all-items.result.now
    (end_on_line c.args.end [] (place_after c.args.steps.now c.args.offset) c.args.line.now) c.loop-item.from
    c.loop-item.item-index c.item-item.result c.loop-item-test.true c.item-item.is
    (ap (cell_from c.args.end test c.args.line.now.indent) (sym c.all-items.ensures) ∙ c.loop-item.invariant.found)
    c.has_end.result c.of_end.result c.has_end.ensures c.if-has_end.true
    (c.of_end.ensures ∙ ap (λ n. of_end c.args.end c.loop-item.from (c.loop-item.from + n)) c.item_cells.ensures)

pub loop-item-preserved : goal.loop-item-preserved
loop-item-preserved c =
    let test : Item → Bool = has_end c.args.end [] (place_after c.args.steps.now c.args.offset) in record {
      found =
          cell_later c.args.end test c.all-items.result.now
          (cell_from c.args.end test c.args.line.now.indent c.all-items.result.now) c.loop-item.from
          c.loop-item.item-index c.item-item.result c.loop-item-test.true c.item-item.is c.loop-item.invariant.found
          c.has_end.result c.has_end.ensures c.if-has_end.false
          ∙ ap (λ n. cell_from c.args.end test (c.loop-item.from + n)
          (drop (c.loop-item.item-index + 1) c.all-items.result.now)) (sym c.item_cells.ensures);
      fits =
          omega (
            arith,
            next_fits c.all-items.result.now c.loop-item.from c.loop-item.item-index c.item-item.result
                c.loop-item-test.true c.item-item.is c.loop-item.invariant.fits,
            c.item_cells.ensures,
          );
    }

pub returns : goal.returns
returns c =
    let test : Item → Bool = has_end c.args.end [] (place_after c.args.steps.now c.args.offset) in
    no_cell c.args.end test c.all-items.result.now
    (end_on_line c.args.end [] (place_after c.args.steps.now c.args.offset) c.args.line.now) c.loop-item.from
    c.loop-item.item-index c.loop-item-test.false
    (ap (cell_from c.args.end test c.args.line.now.indent) (sym c.all-items.ensures) ∙ c.loop-item.invariant.found)
