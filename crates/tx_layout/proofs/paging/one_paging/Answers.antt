use Rattle.tx_layout.proofs.Paged.{pages_once}
use Rattle.tx_layout.proofs.paging.one_paging.Goals as goal

pub returns : goal.returns
returns c = λ lines height pages others. pages_once lines height 0 pages others
