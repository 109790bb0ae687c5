use Rattle.tx_view_form.specs.Views.{lines_of}
use Rattle.tx_print.proofs.Wording.{leaves_less, pages_less}
use Rattle.tx_print.proofs.pages.push_pages.Goals as goal

pub loop-i-preserved : goal.loop-i-preserved
loop-i-preserved g c =
    let lines = lines_of c.args.view.now.shown.units in
    leaves_less _ _ _ _ (pages_less lines c.args.view.now.shown.pages c.pages-page-items.result.now c.loop-i.i _
    c.pages-page-items.ensures c.loop-i-test.true)
    c.loop-i.invariant c.push_page.ensures
