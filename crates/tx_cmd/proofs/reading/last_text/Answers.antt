use Rattle.std.proofs.Common.{◌≢◌, ◌+◌, [], ◌∷◌, refl}
use Rattle.std.proofs.lemmas.Result.{IfErr-weaker}
use Rattle.tx_cmd.specs.declared.command.CmdFault.TheVariants.{Memory}
use Rattle.tx_cmd.specs.declared.words.ArgumentKind.TheVariants.{Text as TextArgument}
use Rattle.tx_cmd.specs.Refusals.{IsBadText, IsFirstFault}
use Rattle.tx_cmd.proofs.Faults.{fault_here}
use Rattle.tx_cmd.proofs.reading.last_text.Goals as goal

pub returns-clause-refused : goal.returns-clause-refused
returns-clause-refused g c =
    IfErr-weaker c.read_text.result (λ f. f ≢ Memory → IsBadText c.cut.result.0.now (c.args.at + 1) f)
    (λ f. f ≢ Memory → IsFirstFault (TextArgument ∷ []) c.args.bytes.now c.args.at f)
    (λ f bad some.
    fault_here TextArgument [] c.args.bytes.now c.cut.result.0.now c.cut.result.1.now c.args.at f refl c.cut.ensures
    c.requires.loose (bad some))
    c.read_text.ensures.refused
