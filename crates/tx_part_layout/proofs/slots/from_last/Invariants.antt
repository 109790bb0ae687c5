use Rattle.std.proofs.Common.{◌≡◌, ◌+◌, ◌≤◌, ◌++◌, length, reverse}
use Rattle.std.specs.Vec.{vec_len, vec_capacity}
use Rattle.tx_part_layout.specs.Slots.{AreRising, placed_by}
use Rattle.tx_part_layout.proofs.slots.from_last.Given as goal

abbrev pub invariant-loop-slot : goal.invariant-loop-slot
invariant-loop-slot l = record {
  rising : AreRising (length l.old.items) 0 l.slots.items;
  enough : vec_len l.all + length l.slots.items ≤ vec_capacity l.all;
  going : placed_by l.old.items l.slots.items ++ reverse l.all.items
      ≡ placed_by l.fn.former.items l.fn.told.items;
}

abbrev pub decreases-loop-slot : goal.decreases-loop-slot
decreases-loop-slot l = length l.slots.items
