use Rattle.std.proofs.Common.{◌≡◌, ◌≤◌, ◌+◌, ◌*◌, ◌++◌, ◌∷◌, [], length, drop, false}
use Rattle.tx_tree.specs.WideTree.{forest, children_of, depth_of}
use Rattle.tx_tm_write.specs.Canonical.{opened, arguments_text, long_text, parts_text, paragraphs_text, tags_text}
use Rattle.tx_tm_write.specs.Canonical.{with_ends}
use Rattle.tx_tm_write.specs.Counts.{capped}
use Rattle.tx_tm_write.proofs.lengths.+counting.Given as goal

abbrev pub decreases-short_length : goal.decreases-short_length
decreases-short_length l = 6 * depth_of l.t.now

abbrev pub decreases-long_length : goal.decreases-long_length
decreases-long_length l = 6 * depth_of l.t.now

abbrev pub decreases-parts_length : goal.decreases-parts_length
decreases-parts_length l = 6 * depth_of l.t.now

abbrev pub decreases-paragraphs_length : goal.decreases-paragraphs_length
decreases-paragraphs_length l = 6 * depth_of l.t.now

abbrev pub decreases-tags_length : goal.decreases-tags_length
decreases-tags_length l = 6 * depth_of l.t.now

abbrev pub decreases-part_length : goal.decreases-part_length
decreases-part_length l = 6 * depth_of l.t.now + 1

abbrev pub decreases-block_length : goal.decreases-block_length
decreases-block_length l = 6 * depth_of l.t.now + 1

abbrev pub decreases-content_length : goal.decreases-content_length
decreases-content_length l = 6 * depth_of l.t.now + 2

abbrev pub decreases-paragraph_length : goal.decreases-paragraph_length
decreases-paragraph_length l = 6 * depth_of l.t.now + 3

abbrev pub decreases-long_child_length : goal.decreases-long_child_length
decreases-long_child_length l = 6 * depth_of l.child.now + 3

abbrev pub invariant-short_length-loop-child : goal.invariant-short_length-loop-child
invariant-short_length-loop-child l =
    record {
      same : capped (l.count + length (arguments_text (forest (drop l.child-index l.child-items)))) ≡ capped
          (length (60 ∷ (l.label ++ (arguments_text (forest (children_of l.t)) ++ 62 ∷ []))));
      small : l.count ≤ 18446744073709551615;
    }

abbrev pub invariant-long_length-loop-i : goal.invariant-long_length-loop-i
invariant-long_length-loop-i l =
    record {
      same : capped (l.count + length (long_text l.label (forest (drop l.i l.children)))) ≡ capped
          (length (opened 92 l.label ++ long_text l.label (forest (children_of l.t))));
      small : l.count ≤ 18446744073709551615;
    }

abbrev pub invariant-parts_length-loop-i : goal.invariant-parts_length-loop-i
invariant-parts_length-loop-i l =
    record {
      same : capped (l.count + length (parts_text l.before (forest (drop l.i l.children)))) ≡ capped
          (length (parts_text false (forest (children_of l.t))));
      small : l.count ≤ 18446744073709551615;
    }

abbrev pub invariant-paragraphs_length-loop-i : goal.invariant-paragraphs_length-loop-i
invariant-paragraphs_length-loop-i l =
    record {
      same : capped (l.count + length (paragraphs_text (forest (drop l.i l.children)))) ≡ capped
          (length (paragraphs_text (forest (children_of l.t))));
      small : l.count ≤ 18446744073709551615;
    }

abbrev pub invariant-tags_length-loop-child : goal.invariant-tags_length-loop-child
invariant-tags_length-loop-child l =
    record {
      same : capped (l.count + length (tags_text (forest (drop l.child-index l.child-items)))) ≡ capped
          (length (with_ends (tags_text (forest (children_of l.t)))));
      small : l.count ≤ 18446744073709551615;
    }
