use Rattle.tx_parts.specs.Opening.{no_shells}
use Rattle.tx_parts.proofs.Composing.{inner_are}
use Rattle.tx_parts.proofs.Opened.{closed_is, composed_by_is}
use Rattle.tx_parts.proofs.laws.composition_law.Goals as goal

pub returns : goal.returns
returns c = record { inner = inner_are; nested = composed_by_is no_shells closed_is }
