use Rattle.tx_outside.proofs.Parts.{cut_before, cut_behind}
use Rattle.tx_outside.proofs.byte_sink.parts_compose.Goals as goal

pub returns-clause-before : goal.returns-clause-before
returns-clause-before c = cut_before

pub returns-clause-behind : goal.returns-clause-behind
returns-clause-behind c = cut_behind
