use Rattle.std.proofs.Common.{◌∙◌}
use Rattle.std.specs.FinMap.{get}
use Rattle.tx_walk.specs.SameTrees.{same}
use Rattle.tx_walk.proofs.Agreed.{test_same}
use Rattle.tx_walk.proofs.fitting.fits.Goals as goal

pub returns : goal.returns
returns c =
    c.looks_agree.ensures
    ∙ test_same (λ look. same (get c.args.env.now.map look.0) look.1) c.args.part.now.trace.looks c.requires.once.0
