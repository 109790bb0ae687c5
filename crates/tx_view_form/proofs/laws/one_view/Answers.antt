use Rattle.tx_view_form.proofs.Single.{views_once}
use Rattle.tx_view_form.proofs.laws.one_view.Goals as goal

pub returns : goal.returns
returns c = views_once c.one_shape.ensures c.one_paging.ensures
