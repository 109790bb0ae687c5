use Rattle.std.proofs.Common.{length, ap, ◌∙◌, arith, get_or}
use Rattle.tx_view.specs.Units.{unit_views, row_counts}
use Rattle.tx_view.proofs.Numbering.{sums_length, sums_head}
use Rattle.tx_view.proofs.UnitRows.{row_told}
use Rattle.tx_view.proofs.searching.row_in.Goals as goal

pub unit_of-requires-clause-some : goal.unit_of-requires-clause-some
unit_of-requires-clause-some c =
    omega (arith, ap length c.requires, sums_length 0 (row_counts (unit_views c.args.units.now)))

pub unit_of-requires-clause-first : goal.unit_of-requires-clause-first
unit_of-requires-clause-first c =
    ap (λ fs. get_or fs 0 0) c.requires ∙ sums_head 0 (row_counts (unit_views c.args.units.now))

pub returns : goal.returns
returns c =
    row_told c.args.units.now c.args.row c.unit_of.result
    (c.unit_of.ensures (row_counts (unit_views c.args.units.now)) c.requires)
