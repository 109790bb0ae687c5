use Rattle.std.proofs.Common.{◌≡◌, ◌<◌, ◌^◌, length, ap, arith}
use Rattle.tx_view_form.specs.Views.{lines_of}
use Rattle.tx_view.specs.Units.{unit_views}
use Rattle.tx_view.specs.WholeViews.{WholeView}
use Rattle.tx_view.proofs.Fitting.{kept_pages}
use Rattle.tx_view.proofs.view.View.page_of.Goals as goal

pub page_of-requires : goal.page_of-requires
page_of-requires c =
    let few : length (lines_of (unit_views c.self.inside.units.items)) < 2 ^ 32 =
    omega (
      arith,
      ap (λ (v : WholeView). length (lines_of v.shown.units)) c.self.view_is,
      c.rows-count.ensures,
      c.rows-count.type_inv,
    ) in
    omega (arith, kept_pages c.self.inside c.self.invariant few, ap length c.deref.ensures.value)
