use Rattle.std.proofs.Common.{ap, take, ◌∙◌}
use Rattle.tx_view.proofs.base.base_kept.Goals as goal

pub returns : goal.returns
returns c = ap (take 26) c.requires.1 ∙ c.base_law.ensures.first c.requires.0
