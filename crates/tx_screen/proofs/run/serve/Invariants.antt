use Rattle.std.proofs.Common.{ℕ, List}
use Rattle.tx_outside.specs.Outside.{SinkGoesOn, SourceGoesOn}
use Rattle.tx_session.specs.Worlds.{world}
use Rattle.tx_screen.specs.Screens.{IsTold}
use Rattle.tx_screen.proofs.run.serve.Given as goal

abbrev pub invariant-loop : goal.invariant-loop
invariant-loop g l =
    SourceGoesOn (g.I.Source.seen l.fn.input) (g.I.Source.seen l.input)
    × SinkGoesOn (g.O.Sink.seen l.fn.out) (g.O.Sink.seen l.out)
    × ((lines : List (List ℕ))
    × IsTold (world l.fn.screen.session (g.S.Store.seen l.fn.store) l.fn.steps) lines
    (world l.screen.session (g.S.Store.seen l.store) l.steps))
