use Rattle.std.proofs.Common.{◌≡◌, ◌≤◌, ◌+◌, ℕ, List, length}
use Rattle.std.specs.Io.KnownBytes.{prepend_known}
use Rattle.tx_outside.specs.Outside.{SinkGoesOn, SourceGoesOn, StoreGoesOn}
use Rattle.tx_session.specs.declared.TheConstants.{MOST_SCRIPT}
use Rattle.tx_session.specs.Worlds.{world}
use Rattle.tx_session.specs.Keeping.{StandsWith}
use Rattle.tx_session.proofs.script.play.Given as goal

abbrev pub invariant-loop-session : goal.invariant-loop-session
invariant-loop-session g l =
    record {
      taken : (taken : List ℕ)
          × ((g.I.Source.seen l.fn.input).left ≡ prepend_known taken (g.I.Source.seen l.input).left)
          × (length taken + l.room ≡ MOST_SCRIPT)
          × StandsWith (world l.fn.session (g.S.Store.seen l.fn.store) l.fn.steps)
          (g.O.Sink.seen l.fn.out).written taken (world l.session (g.S.Store.seen l.store)
          l.steps)
          l.line (g.O.Sink.seen l.out).written;
      count : l.line.count + l.room ≤ MOST_SCRIPT;
      store : StoreGoesOn (g.S.Store.seen l.fn.store) (g.S.Store.seen l.store);
      piece : length l.piece ≡ 4096;
      input : SourceGoesOn (g.I.Source.seen l.fn.input) (g.I.Source.seen l.input);
      output : SinkGoesOn (g.O.Sink.seen l.fn.out) (g.O.Sink.seen l.out);
    }

abbrev pub decreases-loop-session : goal.decreases-loop-session
decreases-loop-session g l = l.room
