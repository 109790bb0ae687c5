use Rattle.tx_parts.proofs.Opened.{closed_is}
use Rattle.tx_parts.proofs.Openers.{sheller_is, nothing_opens, closed_by_nothing}
use Rattle.tx_parts.proofs.shell_laws.opener_law.Goals as goal

pub returns : goal.returns
returns c = record {
  sheller = sheller_is;
  closed = closed_is;
  nothing = nothing_opens;
  nothing_opened = closed_by_nothing;
}
