use Rattle.std.proofs.Common.{[], refl}
use Rattle.tx_cmd.specs.declared.words.ArgumentKind.TheVariants.{Number as NumberArgument}
use Rattle.tx_cmd.proofs.LooseFronts.{loose_cut}
use Rattle.tx_cmd.proofs.reading.last_number.Goals as goal

pub read_number-requires : goal.read_number-requires
read_number-requires c =
    (loose_cut NumberArgument [] c.args.bytes.now c.cut.result.0.now c.cut.result.1.now refl c.cut.ensures c.requires).0

pub returns : goal.returns
returns c = (
  c.cut.result.0.now,
  c.cut.result.1.now,
  c.read_number.ensures,
  (loose_cut NumberArgument [] c.args.bytes.now c.cut.result.0.now c.cut.result.1.now refl c.cut.ensures
      c.requires).1,
  c.cut.ensures.are,
)
