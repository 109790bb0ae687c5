use Rattle.std.proofs.Common.{◌≡◌, ◌≤◌, ◌+◌, length, drop}
use Rattle.tx_tree.specs.WideTree.{forest, depth_of}
use Rattle.tx_scm.specs.Canonical.{scheme_text, scheme_texts}
use Rattle.tx_scm.specs.Counts.{capped}
use Rattle.tx_scm.proofs.lengths.+tree_length.Given as goal

abbrev pub decreases-tree_length : goal.decreases-tree_length
decreases-tree_length l = depth_of l.t.now

abbrev pub invariant-loop-child : goal.invariant-loop-child
invariant-loop-child l =
    record {
      same : capped (l.count + length (scheme_texts (forest (drop l.child-index l.child-items)))) ≡ capped
          (length (scheme_text l.t));
      small : l.count ≤ 18446744073709551615;
    }
