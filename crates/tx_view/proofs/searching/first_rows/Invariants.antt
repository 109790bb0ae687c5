use Rattle.std.proofs.Common.{◌≡◌, ◌++◌, ◌∷◌, [], length, take}
use Rattle.tx_view_form.specs.Views.{lines_of}
use Rattle.tx_view.specs.Units.{unit_views, sums_from, row_counts}
use Rattle.tx_view.proofs.searching.first_rows.Given as goal

abbrev pub invariant-loop-unit : goal.invariant-loop-unit
invariant-loop-unit l = record {
  firsts_are : l.firsts.items ++ l.count ∷ [] ≡ sums_from 0 (row_counts (unit_views (take l.unit-index l.units)));
  count_is : l.count ≡ length (lines_of (unit_views (take l.unit-index l.units)));
}
