use Rattle.std.proofs.Common.{◌≡◌, ◌<◌, ◌^◌, List, ℕ, length, sym, ap, subst, arith}
use Rattle.tx_view_form.specs.Views.{lines_of}
use Rattle.tx_unit_layout.specs.declared.shown.Shown.{Shown}
use Rattle.tx_view.specs.Ends.{AreDrawable}
use Rattle.tx_view.specs.Units.{unit_views}
use Rattle.tx_view.specs.WholeViews.{WholeView}
use Rattle.tx_view.proofs.Fitting.{kept_drawable}
use Rattle.tx_view.proofs.view.View.row_of.Goals as goal

pub row_of-requires : goal.row_of-requires
row_of-requires c =
    let few : length (lines_of (unit_views c.self.inside.units.items)) < 2 ^ 32 =
    omega (
      arith,
      ap (λ (v : WholeView). length (lines_of v.shown.units)) c.self.view_is,
      c.rows-count.ensures,
      c.rows-count.type_inv,
    ) in
    subst (λ (xs : List Shown). AreDrawable xs c.deref-2.result.now) (sym c.deref.ensures.value)
    (subst (λ (firsts : List ℕ). AreDrawable c.self.inside.units.items firsts) (sym c.deref-2.ensures.value)
    (kept_drawable c.self.inside c.within_page.ensures c.self.invariant few))
