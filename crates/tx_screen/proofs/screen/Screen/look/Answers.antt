use Rattle.std.proofs.Common.{[], ◌∷◌, codes}
use Rattle.tx_screen.proofs.screen.Screen.look.Goals as goal

pub returns-then-starts_with-clause-told : goal.returns-then-starts_with-clause-told
returns-then-starts_with-clause-told g c = (codes "work" ∷ [], c.in_ok-reply.ensures.told, tt)
