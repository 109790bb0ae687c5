use Rattle.std.proofs.Common.{◌≡◌, ◌+◌, length, ap, rules, arith}
use Rattle.tx_view_form.specs.Views.{UnitView}
use Rattle.tx_unit_layout.specs.Views.{unit_view}
use Rattle.tx_view.proofs.UnitRows.{sums_fit, sums_next, as_many_errors, placed_errors}
use Rattle.tx_view.proofs.searching.first_errors.Goals as goal

pub overflow_cast-count : goal.overflow_cast-count
overflow_cast-count c =
    let n : c.len.result ≡ length c.unit-item.result.errors.items = search rules in
    omega (
      arith,
      sums_fit placed_errors c.args.units.now c.loop-unit.unit-index c.unit-item.result
          c.loop-unit-test.true c.unit-item.is,
      c.requires,
      as_many_errors (unit_view c.unit-item.result),
    )

pub overflow_add-count : goal.overflow_add-count
overflow_add-count c =
    let n : c.len.result ≡ length c.unit-item.result.errors.items = search rules in
    omega (
      arith,
      sums_fit placed_errors c.args.units.now c.loop-unit.unit-index c.unit-item.result
          c.loop-unit-test.true c.unit-item.is,
      c.requires,
      c.loop-unit.invariant.count_is,
      as_many_errors (unit_view c.unit-item.result),
    )

pub loop-unit-preserved : goal.loop-unit-preserved
loop-unit-preserved c =
    let n : c.len.result ≡ length c.unit-item.result.errors.items = search rules in
    let so = sums_next placed_errors (λ (x : UnitView). length x.errors) as_many_errors c.args.units.now
    c.loop-unit.unit-index c.unit-item.result
    c.loop-unit.firsts.items c.push.new.self.items c.loop-unit.count (c.loop-unit.count + c.len.result)
    c.loop-unit-test.true c.unit-item.is
    (record { firsts_are = c.loop-unit.invariant.firsts_are; count_is = c.loop-unit.invariant.count_is })
    c.in_ok-push.ensures.items
    (ap (λ m. c.loop-unit.count + m) n) in
    record { firsts_are = so.firsts_are; count_is = so.count_is }
