use Rattle.std.proofs.Common.{ap, ◌∙◌}
use Rattle.std.proofs.Common.{take}
use Rattle.tx_env.specs.Changes.{map_of}
use Rattle.tx_env.specs.Environments.{overlaid}
use Rattle.tx_walk.proofs.Joining.{writes_next, writes_end}
use Rattle.tx_walk.proofs.joined.join_writes.Goals as goal

pub loop-name-preserved : goal.loop-name-preserved
loop-name-preserved c =
    writes_next (map_of c.args.own.now) c.loop-name.own c.put.new.self c.pairs-name-items.result.now
    c.loop-name.name-index c.loop-name-item.result c.in_ok-copy.field-0 c.in_ok-share.field-0 c.loop-name-test.true
    c.loop-name-item.is c.loop-name.invariant c.in_ok-put.ensures.ok c.in_ok-copy.ensures c.in_ok-share.ensures

pub returns : goal.returns
returns c =
    writes_end (map_of c.loop-name.own) (map_of c.args.own.now) c.args.more.now c.loop-name.name-index
    (c.loop-name.invariant ∙ ap (λ ws. overlaid (map_of c.args.own.now) (take c.loop-name.name-index ws))
    c.pairs-name-items.ensures)
    (rw (← c.pairs-name-items.ensures) c.loop-name-test.false) c.requires
