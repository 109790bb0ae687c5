use Rattle.std.proofs.Common.{◌-◌}
use Rattle.tx_prim.proofs.Within.{part_within}
use Rattle.tx_prim.proofs.lists.part_of_tuple.Goals as goal

pub tuple_of-requires : goal.tuple_of-requires
tuple_of-requires g c =
    rw c.in_ok-part-in-Some.ensures (part_within c.args.children.now c.in-Some.i (c.in-Some.j - c.in-Some.i) c.requires)
