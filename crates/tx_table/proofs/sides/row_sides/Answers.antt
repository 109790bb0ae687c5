use Rattle.std.proofs.Common.{arith, ◌∙◌, ap}
use Rattle.std.proofs.lemmas.List.{length-replicate}
use Rattle.std.proofs.Common.{length}
use Rattle.tx_table.specs.declared.settings.Side.TheVariants.{Left}
use Rattle.tx_table.proofs.Coloring.{row_fresh, row_over}
use Rattle.tx_table.proofs.sides.row_sides.Goals as goal

pub loop-left-init : goal.loop-left-init
loop-left-init c = record {
  some = omega arith;
  wide = ap length c.loop-column.invariant.sides ∙ length-replicate c.loop-column.column Left ∙ omega arith;
  painted =
      row_fresh c.args.settings.now c.args.row c.args.count c.loop-column.column c.loop-column.sides.items
      c.loop-column.next.items c.loop-column.invariant.sides c.loop-column.invariant.next;
}

pub returns : goal.returns
returns c =
    c.new.ensures
    ∙ row_over c.args.settings.now c.args.row c.args.count c.loop-left.left c.loop-left.sides.items c.loop-left.next.items
    (omega arith) c.loop-left.invariant.wide c.loop-left.invariant.painted
