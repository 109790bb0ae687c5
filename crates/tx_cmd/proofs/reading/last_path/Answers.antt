use Rattle.std.proofs.Common.{◌≢◌, ◌+◌, [], ◌∷◌, refl}
use Rattle.std.proofs.lemmas.Result.{IfErr-weaker, IfOk-weaker}
use Rattle.tx_tree.specs.PathSpelling.{SpellsPath}
use Rattle.tx_cmd.specs.declared.command.CmdFault.TheVariants.{Memory}
use Rattle.tx_cmd.specs.declared.words.ArgumentKind.TheVariants.{Path as PathArgument}
use Rattle.tx_cmd.specs.Values.{a_path, Mean}
use Rattle.tx_cmd.specs.Refusals.{IsBadPath, IsFirstFault}
use Rattle.tx_cmd.proofs.LooseFronts.{loose_cut}
use Rattle.tx_cmd.proofs.Faults.{fault_here}
use Rattle.tx_cmd.proofs.reading.last_path.Goals as goal

pub returns-clause-ok : goal.returns-clause-ok
returns-clause-ok c =
    IfOk-weaker c.read_path.result (λ p. SpellsPath c.cut.result.0.now p) (λ p. Mean c.args.bytes.now (a_path p ∷ []))
    (λ p spelled. (
      c.cut.result.0.now,
      c.cut.result.1.now,
      spelled,
      (loose_cut PathArgument [] c.args.bytes.now c.cut.result.0.now c.cut.result.1.now refl c.cut.ensures
          c.requires.loose).1,
      c.cut.ensures.are,
    ))
    c.read_path.ensures.ok

pub returns-clause-refused : goal.returns-clause-refused
returns-clause-refused c =
    IfErr-weaker c.read_path.result (λ f. f ≢ Memory → IsBadPath c.cut.result.0.now (c.args.at + 1) f)
    (λ f. f ≢ Memory → IsFirstFault (PathArgument ∷ []) c.args.bytes.now c.args.at f)
    (λ f bad some. fault_here PathArgument [] c.args.bytes.now c.cut.result.0.now c.cut.result.1.now c.args.at f refl
    c.cut.ensures c.requires.loose (bad some))
    c.read_path.ensures.refused
