use Rattle.std.proofs.Common.{◌≤◌, ◌+◌, ◌++◌, ℕ, List, Option, take}
use Rattle.tx_outside.specs.Outside.{SinkGoesOn, StoreGoesOn}
use Rattle.tx_session.specs.Worlds.{World, world}
use Rattle.tx_session.specs.Keeping.{KeepsLine, StandsWith}
use Rattle.tx_session.proofs.script.take_piece.Given as goal

abbrev pub invariant-loop-byte : goal.invariant-loop-byte
invariant-loop-byte g l =
    record {
      kept : (bytes : List ℕ) × KeepsLine l.line bytes;
      leads : (start : World) (before : Option (List ℕ)) (bytes : List ℕ)
          → StandsWith start before bytes
          (world l.fn.session (g.S.Store.seen l.fn.store) l.fn.steps) l.fn.line
          (g.O.Sink.seen l.fn.out).written
          → StandsWith start before (bytes ++ take l.byte-index l.piece)
          (world l.session (g.S.Store.seen l.store)
          l.steps) l.line (g.O.Sink.seen l.out).written;
      count : l.line.count ≤ l.fn.line.count + l.byte-index;
      store : StoreGoesOn (g.S.Store.seen l.fn.store) (g.S.Store.seen l.store);
      output : SinkGoesOn (g.O.Sink.seen l.fn.out) (g.O.Sink.seen l.out);
    }
