use Rattle.std.proofs.Common.{true, map}
use Rattle.tx_tree.specs.WideTree.{node, forest}
use Rattle.tx_tm_form.specs.Parts.{collection_label}
use Rattle.tx_tm_form.specs.Growing.{tree_of_entry}
use Rattle.tx_tm_content.specs.Blocks.{content_of, tags_of}
use Rattle.tx_tm_read.specs.Spots.{opens_of}
use Rattle.tx_tm_read.proofs.Stuck.{tag_stuck_there}
use Rattle.tx_tm_read.proofs.walk.collection_in.Goals as goal

pub returns-in-None-clause-next : goal.returns-in-None-clause-next
returns-in-None-clause-next g c =
    tag_stuck_there (content_of c.args.before) true
    (node collection_label (forest (map tree_of_entry (tags_of c.args.tags).entries))) (opens_of c.args.opens.items)
    (rw c.in-None.is at c.in_ok-collection.ensures.made)
