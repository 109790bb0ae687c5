use Rattle.std.proofs.Common.{[], ◌∷◌, refl}
use Rattle.tx_cmd.specs.declared.words.ArgumentKind.TheVariants.{Number as NumberArgument}
use Rattle.tx_cmd.proofs.LooseFronts.{loose_cut}
use Rattle.tx_cmd.proofs.reading.two_numbers.Goals as goal

pub read_number-requires : goal.read_number-requires
read_number-requires c =
    (loose_cut NumberArgument (NumberArgument ∷ []) c.args.bytes.now c.cut.result.0.now c.cut.result.1.now refl
    c.cut.ensures c.requires).0

pub last_number-requires : goal.last_number-requires
last_number-requires c =
    (loose_cut NumberArgument (NumberArgument ∷ []) c.args.bytes.now c.cut.result.0.now c.cut.result.1.now refl
    c.cut.ensures c.requires).1
