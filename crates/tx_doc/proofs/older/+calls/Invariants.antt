use Rattle.std.proofs.Common.{◌≡◌, ◌≤◌, ◌+◌, ◌*◌, ◌++◌, map, take, drop}
use Rattle.tx_tree.specs.WideTree.{forest, total_nodes, deepest, depth_of}
use Rattle.tx_doc.specs.Modern.{without_calls}
use Rattle.tx_doc.proofs.older.+calls.Given as goal

abbrev pub decreases-changed : goal.decreases-changed
decreases-changed g l = 3 * depth_of l.t.now

abbrev pub decreases-all_changed : goal.decreases-all_changed
decreases-all_changed g l = 3 * deepest (forest l.trees.now) + 2

abbrev pub decreases-add_changed : goal.decreases-add_changed
decreases-add_changed g l = 3 * deepest (forest l.trees.now) + 1

abbrev pub invariant-add_changed-loop-tree : goal.invariant-add_changed-loop-tree
invariant-add_changed-loop-tree g l =
    (l.all.items ≡ l.fn.all.items ++ map without_calls (take l.tree-index l.trees))
    × (l.steps + total_nodes (forest (drop l.tree-index l.trees)) ≤ l.fn.steps + total_nodes (forest l.trees))

abbrev pub invariant-all_changed-loop-i : goal.invariant-all_changed-loop-i
invariant-all_changed-loop-i g l =
    (map without_calls (take l.i l.trees) ≡ take l.i l.trees)
    × (l.steps + total_nodes (forest (drop l.i l.trees)) ≤ l.fn.steps + total_nodes (forest l.trees))
