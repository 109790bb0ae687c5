use Rattle.std.proofs.Common.{◌++◌}
use Rattle.tx_screen.proofs.Executing.{told_both}
use Rattle.tx_screen.proofs.run.serve_once.Goals as goal

pub returns-then-has_ended-clause-told : goal.returns-then-has_ended-clause-told
returns-then-has_ended-clause-told g c =
    let shown = c.show.ensures.told in
    let taken = c.take.ensures.told in
    (shown.0 ++ taken.0, told_both shown.0 taken.0 _ _ _ shown.1 taken.1)

pub returns-clause-told : goal.returns-clause-told
returns-clause-told g c =
    let shown = c.show.ensures.told in
    let taken = c.take.ensures.told in
    (shown.0 ++ taken.0, told_both shown.0 taken.0 _ _ _ shown.1 taken.1)
