use Rattle.std.proofs.Common.{arith}
use Rattle.tx_replay.proofs.Descents.{even_none, odd_some}
use Rattle.tx_replay.proofs.descent.has_settings.Goals as goal

pub returns-then-count-eq0 : goal.returns-then-count-eq0
returns-then-count-eq0 c = even_none c.args.children.now c.if-count-eq0.true

pub returns : goal.returns
returns c = odd_some c.args.children.now _ c.are_texts.result c.if-count-eq0.false (omega arith) c.are_texts.ensures
