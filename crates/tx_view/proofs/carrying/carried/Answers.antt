use Rattle.std.proofs.Common.{◌∙◌, List, subst}
use Rattle.tx_doc.specs.Buffers.{tree_of}
use Rattle.tx_doc.specs.declared.buffer.Buffer.{Buffer}
use Rattle.tx_units.specs.Units.{units}
use Rattle.tx_bridge.specs.Entries.{units_of}
use Rattle.tx_view.specs.Laid.{IsWay}
use Rattle.tx_view.proofs.carrying.carried.Goals as goal

pub returns-clause-way : goal.returns-clause-way
returns-clause-way g c =
    subst (λ (bs : List Buffer). IsWay c.args.buffer c.args.mods.now (tree_of c.args.buffers.now c.args.buffer)
    (units_of c.args.bridges.now.kept) (units bs) c.carried_kept.new.bridges.sources c.in_ok-target.target)
    (c.deref.ensures.value ∙ c.in_ok-after.ensures) c.in_ok-target.ensures.way
