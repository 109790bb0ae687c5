use Rattle.std.proofs.Common.{◌≡◌, ◌+◌, ◌*◌, ◌++◌, ◌∷◌, [], length, take, drop, false}
use Rattle.tx_tree.specs.WideTree.{forest, children_of, depth_of}
use Rattle.tx_tm_form.specs.Parts.{collection_label}
use Rattle.tx_tm_write.specs.Canonical.{opened, arguments_text, long_text, parts_text, paragraphs_text, tags_text}
use Rattle.tx_tm_write.specs.Canonical.{with_ends}
use Rattle.tx_tm_write.proofs.writer.+writing.Given as goal

abbrev pub decreases-append_short : goal.decreases-append_short
decreases-append_short l = 6 * depth_of l.t.now

abbrev pub decreases-append_long : goal.decreases-append_long
decreases-append_long l = 6 * depth_of l.t.now

abbrev pub decreases-append_parts : goal.decreases-append_parts
decreases-append_parts l = 6 * depth_of l.t.now

abbrev pub decreases-append_paragraphs : goal.decreases-append_paragraphs
decreases-append_paragraphs l = 6 * depth_of l.t.now

abbrev pub decreases-append_tags : goal.decreases-append_tags
decreases-append_tags l = 6 * depth_of l.t.now

abbrev pub decreases-append_part : goal.decreases-append_part
decreases-append_part l = 6 * depth_of l.t.now + 1

abbrev pub decreases-append_block : goal.decreases-append_block
decreases-append_block l = 6 * depth_of l.t.now + 1

abbrev pub decreases-append_lines : goal.decreases-append_lines
decreases-append_lines l = 6 * depth_of l.t.now + 2

abbrev pub decreases-append_content : goal.decreases-append_content
decreases-append_content l = 6 * depth_of l.t.now + 2

abbrev pub decreases-append_paragraph : goal.decreases-append_paragraph
decreases-append_paragraph l = 6 * depth_of l.t.now + 3

abbrev pub decreases-append_long_child : goal.decreases-append_long_child
decreases-append_long_child l = 6 * depth_of l.child.now + 3

abbrev pub invariant-append_short-loop-child : goal.invariant-append_short-loop-child
invariant-append_short-loop-child l =
    record {
      text : l.out.items ++ (arguments_text (forest (drop l.child-index l.child-items)) ++ 62 ∷ []) ≡ l.fn.out.items
          ++ 60 ∷ (l.label ++ (arguments_text (forest (children_of l.t)) ++ 62 ∷ []));
      grows : take (length l.fn.out.items) l.out.items ≡ l.fn.out.items;
    }

abbrev pub invariant-append_long-loop-i : goal.invariant-append_long-loop-i
invariant-append_long-loop-i l =
    record {
      text : l.out.items ++ long_text l.label (forest (drop l.i l.children)) ≡ l.fn.out.items
          ++ (opened 92 l.label ++ long_text l.label (forest (children_of l.t)));
      grows : take (length l.fn.out.items) l.out.items ≡ l.fn.out.items;
    }

abbrev pub invariant-append_parts-loop-i : goal.invariant-append_parts-loop-i
invariant-append_parts-loop-i l =
    record {
      text : l.out.items ++ parts_text l.before (forest (drop l.i l.children)) ≡ l.fn.out.items ++ parts_text false
          (forest (children_of l.t));
      grows : take (length l.fn.out.items) l.out.items ≡ l.fn.out.items;
    }

abbrev pub invariant-append_paragraphs-loop-i : goal.invariant-append_paragraphs-loop-i
invariant-append_paragraphs-loop-i l =
    record {
      text : l.out.items ++ paragraphs_text (forest (drop l.i l.children)) ≡ l.fn.out.items ++ paragraphs_text
          (forest (children_of l.t));
      grows : take (length l.fn.out.items) l.out.items ≡ l.fn.out.items;
    }

abbrev pub invariant-append_tags-loop-child : goal.invariant-append_tags-loop-child
invariant-append_tags-loop-child l =
    record {
      text : l.out.items
          ++ (tags_text (forest (drop l.child-index l.child-items)) ++ (opened 47 collection_label ++ 62 ∷ []))
          ≡ l.fn.out.items ++ with_ends (tags_text (forest (children_of l.t)));
      grows : take (length l.fn.out.items) l.out.items ≡ l.fn.out.items;
    }
