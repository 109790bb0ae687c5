use Rattle.std.proofs.Common.{◌+◌, length, refl, ap, arith}
use Rattle.tx_view_form.specs.Views.{UnitView}
use Rattle.tx_view.proofs.UnitRows.{sums_fit, sums_next}
use Rattle.tx_view.proofs.searching.first_rows.Goals as goal

pub line_count-requires-clause-few : goal.line_count-requires-clause-few
line_count-requires-clause-few c =
    omega (
      arith,
      sums_fit (λ (x : UnitView). x.lines) c.args.units.now c.loop-unit.unit-index c.unit-item.result
          c.loop-unit-test.true c.unit-item.is,
      c.requires.few,
    )

pub overflow_cast-count : goal.overflow_cast-count
overflow_cast-count c =
    omega (
      arith,
      sums_fit (λ (x : UnitView). x.lines) c.args.units.now c.loop-unit.unit-index c.unit-item.result
          c.loop-unit-test.true c.unit-item.is,
      c.requires.few,
      c.line_count.ensures,
    )

pub overflow_add-count : goal.overflow_add-count
overflow_add-count c =
    omega (
      arith,
      sums_fit (λ (x : UnitView). x.lines) c.args.units.now c.loop-unit.unit-index c.unit-item.result
          c.loop-unit-test.true c.unit-item.is,
      c.requires.few,
      c.loop-unit.invariant.count_is,
      c.line_count.ensures,
    )

pub loop-unit-preserved : goal.loop-unit-preserved
loop-unit-preserved c =
    let so = sums_next (λ (x : UnitView). x.lines) (λ (x : UnitView). length x.lines) (λ x. refl) c.args.units.now
    c.loop-unit.unit-index c.unit-item.result
    c.loop-unit.firsts.items c.push.new.self.items c.loop-unit.count (c.loop-unit.count + c.line_count.result)
    c.loop-unit-test.true c.unit-item.is
    (record { firsts_are = c.loop-unit.invariant.firsts_are; count_is = c.loop-unit.invariant.count_is })
    c.in_ok-push.ensures.items
    (ap (λ m. c.loop-unit.count + m) c.line_count.ensures) in
    record { firsts_are = so.firsts_are; count_is = so.count_is }
