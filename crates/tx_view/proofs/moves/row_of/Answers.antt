use Rattle.std.proofs.Common.{◌≡◌, ◌+◌, ◌<◌, ◌^◌, get_or, Option, Some, sym, ap, ◌∙◌, arith}
use Rattle.std.specs.List.{position}
use Rattle.tx_unit_layout.specs.declared.shown.Shown.{Shown}
use Rattle.tx_view.specs.Near.{is_above}
use Rattle.tx_view.specs.Units.{unit_views}
use Rattle.tx_view.proofs.Fitting.{unit_drawable, firsts_many, row_none, row_some, row_fits}
use Rattle.tx_view.proofs.Ranges.{above_nowhere}
use Rattle.tx_view.proofs.RowAlone.{row_nowhere}
use Rattle.tx_view.proofs.moves.row_of.Goals as goal

pub returns-in_default : goal.returns-in_default
returns-in_default c =
    row_nowhere c.args.at.now (unit_views c.args.units.now)
    (above_nowhere c.args.units.now c.args.at.now (sym c.unit_above.ensures.number ∙ c.in_default.is))

pub row_alone-requires : goal.row_alone-requires
row_alone-requires c =
    unit_drawable c.args.units.now c.args.firsts.now c.in-Some.k c.index-units-k.result c.requires
    c.in-Some.ensures.within c.index-units-k.is

pub bounds-firsts-k : goal.bounds-firsts-k
bounds-firsts-k c =
    omega (
      arith,
      firsts_many c.args.units.now c.args.firsts.now c.requires,
      c.in-Some.ensures.within,
    )

pub overflow_cast-result : goal.overflow_cast-result
overflow_cast-result c =
    omega (
      arith,
      row_fits c.args.units.now c.args.firsts.now c.args.at.now c.in-Some.k c.index-units-k.result c.requires
          (sym c.unit_above.ensures.number ∙ c.in-Some.is) c.in-Some.ensures.within c.index-units-k.is
          c.row_alone.result c.row_alone.ensures c.in-Some-row_alone.row c.in-Some-row_alone.column
          c.in-Some-row_alone.is,
    )

pub overflow_add-result : goal.overflow_add-result
overflow_add-result c =
    omega (
      arith,
      row_fits c.args.units.now c.args.firsts.now c.args.at.now c.in-Some.k c.index-units-k.result c.requires
          (sym c.unit_above.ensures.number ∙ c.in-Some.is) c.in-Some.ensures.within c.index-units-k.is
          c.row_alone.result c.row_alone.ensures c.in-Some-row_alone.row c.in-Some-row_alone.column
          c.in-Some-row_alone.is,
    )

pub returns-in-None : goal.returns-in-None
returns-in-None c =
    row_none c.args.units.now c.args.firsts.now c.args.at.now c.in-Some.k c.index-units-k.result c.requires
    (sym c.unit_above.ensures.number ∙ c.in-Some.is) c.in-Some.ensures.within c.index-units-k.is
    c.row_alone.result c.row_alone.ensures c.in-None.is

pub returns-in-Some-row_alone : goal.returns-in-Some-row_alone
returns-in-Some-row_alone c =
    row_some c.args.units.now c.args.firsts.now c.args.at.now c.in-Some.k c.index-units-k.result c.requires
    (sym c.unit_above.ensures.number ∙ c.in-Some.is) c.in-Some.ensures.within c.index-units-k.is
    c.row_alone.result c.row_alone.ensures c.in-Some-row_alone.row c.in-Some-row_alone.column
    c.in-Some-row_alone.is
