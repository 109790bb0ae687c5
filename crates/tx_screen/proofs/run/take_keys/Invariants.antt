use Rattle.std.proofs.Common.{ℕ, List}
use Rattle.tx_session.specs.Worlds.{world}
use Rattle.tx_screen.specs.Screens.{IsTold}
use Rattle.tx_screen.proofs.run.take_keys.Given as goal

abbrev pub invariant-loop-key : goal.invariant-loop-key
invariant-loop-key g l =
    (lines : List (List ℕ))
    × IsTold (world l.fn.screen.session (g.S.Store.seen l.fn.store) l.fn.steps) lines
    (world l.screen.session (g.S.Store.seen l.store) l.steps)
