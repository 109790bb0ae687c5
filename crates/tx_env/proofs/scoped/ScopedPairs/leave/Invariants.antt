use Rattle.std.proofs.Common.{◌≡◌, ◌+◌, ◌≤◌, ◌^◌, length}
use Rattle.tx_env.specs.Changes.{AreFrom, maps_below}
use Rattle.tx_env.specs.ScopedView.{changes_of}
use Rattle.tx_env.proofs.scoped.ScopedPairs.leave.Given as goal

abbrev pub invariant-loop-past : goal.invariant-loop-past
invariant-loop-past l =
    record {
      kept : AreFrom 0 (l.number + 1) l.self-inside.pairs (changes_of l.self-inside.pasts.items);
      scopes : maps_below (l.number + 1) l.self-inside.pairs (changes_of l.self-inside.pasts.items) ≡ l.fn.self.scopes;
      count : l.number + 1 ≤ 2 ^ 32;
    }

abbrev pub decreases-loop-past : goal.decreases-loop-past
decreases-loop-past l = length l.self-inside.pasts.items
