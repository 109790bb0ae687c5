use Rattle.std.proofs.Common.{◌≡◌, ◌+◌, ◌*◌, drop}
use Rattle.tx_tree.specs.WideTree.{depth_of, deepest}
use Rattle.tx_origin.specs.Values.{vals, plain, plains}
use Rattle.tx_items.specs.Flat.{all_flat}
use Rattle.tx_items.specs.Running.{all_cells}
use Rattle.tx_items.proofs.flat.+flat.Given as goal

abbrev pub decreases-is_flat : goal.decreases-is_flat
decreases-is_flat l = 3 * depth_of (plain l.value.now) + 2

abbrev pub decreases-all_flat : goal.decreases-all_flat
decreases-all_flat l = 3 * deepest (plains (vals l.parts.now)) + 3

abbrev pub decreases-last_flat : goal.decreases-last_flat
decreases-last_flat l = 3 * depth_of (plain l.value.now) + 1

abbrev pub decreases-shows_table : goal.decreases-shows_table
decreases-shows_table l = 3 * depth_of (plain l.value.now) + 1

abbrev pub invariant-all_flat-loop-part : goal.invariant-all_flat-loop-part
invariant-all_flat-loop-part l = all_flat (vals (drop l.part-index l.parts)) ≡ all_flat (vals l.parts)

abbrev pub invariant-shows_table-loop-row : goal.invariant-shows_table-loop-row
invariant-shows_table-loop-row l =
    all_flat (vals (all_cells (drop l.row-index l.row-items))) ≡ all_flat (vals (all_cells l.row-items))
