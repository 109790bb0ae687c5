use Rattle.std.proofs.Common.{[], refl, sym, subst}
use Rattle.tx_tree.specs.Labels.{IsLabel}
use Rattle.tx_cmd.specs.declared.words.ArgumentKind.TheVariants.{Label as LabelArgument}
use Rattle.tx_cmd.proofs.LooseFronts.{loose_cut}
use Rattle.tx_cmd.proofs.reading.last_label.Goals as goal

pub unreachable-requires : goal.unreachable-requires
unreachable-requires c =
    let f = rw c.in-Err-BadLabel.field-0-is at c.in-Err-BadLabel.ensures.refused in
    (f (λ e. cc)).1
    (loose_cut LabelArgument [] c.args.bytes.now c.cut.result.0.now c.cut.result.1.now refl c.cut.ensures
    c.requires).0

pub returns-in-Ok-clause-ok : goal.returns-in-Ok-clause-ok
returns-in-Ok-clause-ok c = (
  c.cut.result.0.now,
  c.cut.result.1.now,
  (subst IsLabel (sym c.in-Ok.ensures.ok) c.in-Ok.ensures.label, sym c.in-Ok.ensures.ok),
  (loose_cut LabelArgument [] c.args.bytes.now c.cut.result.0.now c.cut.result.1.now refl c.cut.ensures c.requires).1,
  c.cut.ensures.are,
)
