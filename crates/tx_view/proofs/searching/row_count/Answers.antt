use Rattle.std.proofs.Common.{◌-◌, length, refl, ap, arith}
use Rattle.tx_view_form.specs.Views.{UnitView}
use Rattle.tx_view.specs.Units.{unit_views, row_counts}
use Rattle.tx_view.proofs.Numbering.{sums_length}
use Rattle.tx_view.proofs.UnitRows.{last_is}
use Rattle.tx_view.proofs.searching.row_count.Goals as goal

pub overflow_sub-result : goal.overflow_sub-result
overflow_sub-result c = omega (arith, ap length c.requires, sums_length 0 (row_counts (unit_views c.args.units.now)))

pub bounds-firsts-firsts : goal.bounds-firsts-firsts
bounds-firsts-firsts c = omega (arith, ap length c.requires, sums_length 0 (row_counts (unit_views c.args.units.now)))

pub returns : goal.returns
returns c =
    last_is (λ (x : UnitView). x.lines) (λ (x : UnitView). length x.lines) (λ x. refl) (unit_views c.args.units.now)
    c.args.firsts.now (length c.args.firsts.now - 1) c.requires refl
