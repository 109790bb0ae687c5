use Rattle.tx_replay.specs.Going.{names_of}
use Rattle.tx_replay.proofs.HeldNames.{kept_next, all_held_next}
use Rattle.tx_replay.proofs.progress.Progress.hold_all.Goals as goal

pub loop-name-preserved : goal.loop-name-preserved
loop-name-preserved c =
    record {
      kept = kept_next c.args.pairs.now c.loop-name.name-index c.loop-name-item.result c.args.self.now.state.own
          c.loop-name.held.items c.push.new.self.items c.in_ok-hold.field-0 c.loop-name-test.true c.loop-name-item.is
          c.loop-name.invariant.kept c.in_ok-push.ensures.items c.in_ok-hold.ensures.name c.in_ok-hold.ensures.own;
      held = all_held_next (names_of c.args.self.now) c.loop-name.held.items c.push.new.self.items
          c.in_ok-hold.field-0 c.in_ok-push.ensures.items c.loop-name.invariant.held c.in_ok-hold.ensures.held;
    }
