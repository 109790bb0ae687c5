use Rattle.std.proofs.Common.{◌≤◌, ◌+◌, ◌*◌, take, drop, reverse}
use Rattle.tx_commute.specs.Leaving.{total}
use Rattle.tx_state.specs.Backward.{edits_back}
use Rattle.tx_state.proofs.GoingBack.{IsWalking}
use Rattle.tx_state.proofs.backward.walk_back.Given as goal

abbrev pub invariant-loop-k : goal.invariant-loop-k
invariant-loop-k g l =
    let es = take l.fn.count (reverse l.fn.history.past) in
    record {
      walking : IsWalking l.fn.buffer es l.k l.fn.tree l.now l.edits.items;
      counted : l.steps + 804 * total (edits_back l.fn.buffer (drop l.k es) l.now)
          ≤ l.fn.steps + 804 * total (edits_back l.fn.buffer es l.fn.tree);
    }
