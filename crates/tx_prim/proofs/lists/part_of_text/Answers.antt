use Rattle.std.proofs.Common.{◌-◌}
use Rattle.tx_prim.proofs.ItemRuns.{part_text}
use Rattle.tx_prim.proofs.lists.part_of_text.Goals as goal

pub leaf_of-requires-clause-text : goal.leaf_of-requires-clause-text
leaf_of-requires-clause-text g c =
    rw c.items_between.ensures.items
    (part_text c.bytes-bytes.result.now c.in-Some.i (c.in-Some.j - c.in-Some.i)
    (rw c.bytes-bytes.ensures.bytes c.bytes-bytes.ensures.text))
