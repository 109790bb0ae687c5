use Rattle.tx_parts.specs.Opening.{no_shells}
use Rattle.tx_parts.proofs.Opened.{closed_is}
use Rattle.tx_parts.proofs.Recomposing.{whole_recomposed, over_recomposed}
use Rattle.tx_parts.proofs.recomposition.recomposition_law.Goals as goal

pub returns : goal.returns
returns c = record {
  whole = whole_recomposed;
  over = over_recomposed;
  closed = whole_recomposed no_shells closed_is;
}
