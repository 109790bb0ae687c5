use Rattle.std.proofs.Common.{ap, ◌∙◌}
use Rattle.std.specs.FinMap.{from_entries}
use Rattle.tx_env.specs.Changes.{map_of}
use Rattle.tx_parts.specs.Atop.{atop, both_looks}
use Rattle.tx_walk.proofs.Elsewhere.{outside_is, outside_once, once_as}
use Rattle.tx_walk.proofs.Settled.{any_ok, on_ok}
use Rattle.tx_walk.proofs.shelled.join_outside.Goals as goal

pub join_writes-requires : goal.join_writes-requires
join_writes-requires c =
    once_as c.in_ok-writes.writes _ c.in_ok-writes.ensures
    (outside_once c.args.pairs.now c.args.trace.now.writes c.requires.once.1)

pub returns-clause-looks : goal.returns-clause-looks
returns-clause-looks c =
    any_ok c.join_writes.result _ (c.in_ok-join_looks.ensures
    ∙ ap (λ ls. both_looks (from_entries c.args.joined.now.looks) (map_of c.args.joined.now.writes) (from_entries ls))
    c.in_ok-looks.ensures
    ∙ ap (both_looks (from_entries c.args.joined.now.looks) (map_of c.args.joined.now.writes))
    (outside_is c.args.pairs.now c.args.trace.now.looks))

pub returns-clause-writes : goal.returns-clause-writes
returns-clause-writes c =
    on_ok c.join_writes.result _ _
    (λ h. h ∙ ap (λ ws. atop (from_entries ws) (map_of c.args.joined.now.writes)) c.in_ok-writes.ensures
    ∙ ap (λ w. atop w (map_of c.args.joined.now.writes)) (outside_is c.args.pairs.now c.args.trace.now.writes))
    c.join_writes.ensures
