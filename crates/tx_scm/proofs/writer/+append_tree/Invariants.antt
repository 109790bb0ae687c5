use Rattle.std.proofs.Common.{◌≡◌, ◌++◌, ◌∷◌, [], length, take, drop}
use Rattle.tx_tree.specs.WideTree.{forest, depth_of}
use Rattle.tx_scm.specs.Canonical.{scheme_text, scheme_texts}
use Rattle.tx_scm.proofs.writer.+append_tree.Given as goal

abbrev pub decreases-append_tree : goal.decreases-append_tree
decreases-append_tree l = depth_of l.t.now

abbrev pub invariant-loop-child : goal.invariant-loop-child
invariant-loop-child l =
    record {
      text : l.out.items ++ (scheme_texts (forest (drop l.child-index l.child-items)) ++ 41 ∷ []) ≡ l.fn.out.items
          ++ scheme_text l.t;
      grows : take (length l.fn.out.items) l.out.items ≡ l.fn.out.items;
    }
