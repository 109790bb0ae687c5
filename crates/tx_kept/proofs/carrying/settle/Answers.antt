use Rattle.std.proofs.Common.{rules, ◌≡◌, ◌<◌, ◌+◌, ◌++◌, ◌∙◌, refl, ap, true, false, length, reverse, slice_set}
use Rattle.tx_kept.specs.Moves.{moved, due, if_stays}
use Rattle.tx_kept.proofs.Moving.{settle_gone, settle_stays}
use Rattle.tx_kept.proofs.carrying.settle.Goals as goal
use Rattle.tx_kept.proofs.carrying.settle.Goals.{then-stays, else-stays}

pub loop-at-preserved : goal.loop-at-preserved
loop-at-preserved g c =
    let inside : c.loop-at.at < length c.args.entries.now.items = search rules in
    elim c.if-stays.branch [
      | then-stays w ↦ rw (w.entries-is, w.end-is)
          (settle_stays (moved 0 (reverse c.args.moves.items) c.args.entries.now.items) c.loop-at.entries.items
          c.loop-at.at c.loop-at.end (length c.args.entries.now.items) (due c.loop-at.next c.loop-at.stack.items)
          (due c.settle_one-stays.new.next c.settle_one-stays.new.stack.items) c.loop-at.invariant
          inside c.index_mut.result.now c.settle_one-stays.new.entry c.index_mut.ensures.value
          (slice_set c.loop-at.entries.items c.loop-at.at c.settle_one-stays.new.entry) w.swap.new.self.items refl
          w.swap.ensures.by_index
          (λ rest. c.settle_one-stays.ensures rest
          ∙ ap (λ b. if_stays b c.settle_one-stays.new.entry ++ moved (c.loop-at.at + 1)
          (due c.settle_one-stays.new.next c.settle_one-stays.new.stack.items) rest) w.if-stays.true))
      | else-stays w ↦ rw (w.entries-is, w.end-is)
          (settle_gone (moved 0 (reverse c.args.moves.items) c.args.entries.now.items) c.loop-at.entries.items
          c.loop-at.at c.loop-at.end (length c.args.entries.now.items) (due c.loop-at.next c.loop-at.stack.items)
          (due c.settle_one-stays.new.next c.settle_one-stays.new.stack.items) c.loop-at.invariant
          inside c.index_mut.result.now c.settle_one-stays.new.entry c.index_mut.ensures.value
          (slice_set c.loop-at.entries.items c.loop-at.at c.settle_one-stays.new.entry) refl
          (λ rest. c.settle_one-stays.ensures rest
          ∙ ap (λ b. if_stays b c.settle_one-stays.new.entry ++ moved (c.loop-at.at + 1)
          (due c.settle_one-stays.new.next c.settle_one-stays.new.stack.items) rest) w.if-stays.false))
    ]
