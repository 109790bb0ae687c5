use Rattle.std.proofs.Common.{◌≡◌, map}
use Rattle.tx_tm_form.specs.Growing.{tree_of_entry}
use Rattle.tx_tm_content.specs.TagRows.{entry_of}
use Rattle.tx_tm_content.proofs.blocks.TagList.into_trees.Given as goal

abbrev pub invariant-loop-entry : goal.invariant-loop-entry
invariant-loop-entry l = l.trees.items ≡ map tree_of_entry (map entry_of l.yielded)
