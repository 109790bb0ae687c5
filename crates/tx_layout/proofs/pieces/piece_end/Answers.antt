use Rattle.std.proofs.Common.{◌≡◌, ◌+◌, ◌-◌, sym, inl, inr, subst, arith}
use Rattle.std.specs.Prelude.{slice_range, All}
use Rattle.tx_layout.specs.Words.{Solid, Breakable, Unbreakable}
use Rattle.tx_layout.proofs.Slices.{cells_push, all_one, all_push}
use Rattle.tx_layout.proofs.pieces.piece_end.Goals as goal

pub returns-then-is_chance_item-clause-greatest : goal.returns-then-is_chance_item-clause-greatest
returns-then-is_chance_item-clause-greatest c = λ there.
    let some = c.loop-end.invariant.some in
    let end : c.loop-end.end - 1 + 1 ≡ c.loop-end.end = omega arith in
    inr (inl
    (subst (λ n. All Breakable (slice_range c.args.items.now (c.loop-end.end - 1) n)) end
    (all_one Breakable c.args.items.now (c.loop-end.end - 1) c.index-items-end.result (omega (arith, there))
    c.index-items-end.is (sym c.if-is_chance_item.ensures))))

pub returns-then-more-least-clause-greatest : goal.returns-then-more-least-clause-greatest
returns-then-more-least-clause-greatest c = λ there.
    let some = c.loop-end.invariant.some in
    let grown = cells_push c.args.items.now c.args.from c.loop-end.end c.index-items-end-in-loop-end.result
    (omega arith) there c.index-items-end-in-loop-end.is in
    let used = c.loop-end.invariant.used in
    let own = c.item_cells.ensures in
    inr (inr (omega arith))

pub loop-end-preserved : goal.loop-end-preserved
loop-end-preserved c =
    let some = c.loop-end.invariant.some in
    let grown = cells_push c.args.items.now c.args.from c.loop-end.end c.index-items-end-in-loop-end.result
    (omega arith) c.loop-end-test.true c.index-items-end-in-loop-end.is in
    let used = c.loop-end.invariant.used in
    let own = c.item_cells.ensures in
    let end : c.loop-end.end - 1 + 1 ≡ c.loop-end.end + 1 - 1 = omega arith in
    record {
      some = omega arith;
      within = omega arith;
      solid = all_push Solid c.args.items.now c.args.from c.loop-end.end c.index-items-end-in-loop-end.result
          (omega arith) c.loop-end-test.true c.index-items-end-in-loop-end.is c.loop-end.invariant.solid
          (sym c.if-is_blank_item.ensures);
      unbroken = subst (λ n. All Unbreakable (slice_range c.args.items.now c.args.from n)) end
          (all_push Unbreakable c.args.items.now c.args.from (c.loop-end.end - 1) c.index-items-end.result
          (omega arith) (omega (arith, c.loop-end-test.true)) c.index-items-end.is c.loop-end.invariant.unbroken
          (sym c.if-is_chance_item.ensures));
      used = omega arith;
      narrow = c.if-more-least.false;
    }
