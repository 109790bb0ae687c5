use Rattle.std.proofs.Common.{◌≢◌, ◌+◌, ◌∷◌, length}
use Rattle.std.proofs.lemmas.Result.{err_from_is_err_and, IfErr-weaker}
use Rattle.tx_cmd.specs.declared.command.CmdFault.TheVariants.{Memory}
use Rattle.tx_cmd.specs.declared.words.ArgumentKind.TheVariants.{Path as PathArgument}
use Rattle.tx_cmd.specs.declared.words.Word.TheVariants.{Change}
use Rattle.tx_cmd.specs.Words.{arguments_behind}
use Rattle.tx_cmd.specs.Values.{a_path}
use Rattle.tx_cmd.specs.Refusals.{IsFirstFault}
use Rattle.tx_cmd.proofs.WordTexts.{arguments_in_order}
use Rattle.tx_cmd.proofs.LooseFronts.{loose_cut}
use Rattle.tx_cmd.proofs.Faults.{fault_here, fault_behind}
use Rattle.tx_cmd.proofs.reading.change.Goals as goal

pub returns-in_err-path-clause-refused : goal.returns-in_err-path-clause-refused
returns-in_err-path-clause-refused g c =
    let p = err_from_is_err_and c.from_residual.result c.from_residual.ensures.1 in
    rw (p.1, p.2) (λ some.
    fault_here PathArgument (arguments_behind c.args.word) c.args.bytes.now c.cut.result.0.now c.cut.result.1.now
    c.args.at c.in_err-path.field-0.0 (arguments_in_order (Change c.args.word)) c.cut.ensures c.requires.loose
    (c.in_err-path.ensures.refused some))

pub change_at-requires-clause-loose : goal.change_at-requires-clause-loose
change_at-requires-clause-loose g c =
    (loose_cut PathArgument (arguments_behind c.args.word) c.args.bytes.now c.cut.result.0.now c.cut.result.1.now
    (arguments_in_order (Change c.args.word)) c.cut.ensures c.requires.loose).1

pub returns-clause-refused : goal.returns-clause-refused
returns-clause-refused g c =
    IfErr-weaker c.change_at.result
    (λ f. f ≢ Memory → IsFirstFault (arguments_behind c.args.word) c.cut.result.1.now
    (c.args.at + 1 + length c.cut.result.0.now) f)
    (λ f. f ≢ Memory → IsFirstFault (PathArgument ∷ arguments_behind c.args.word) c.args.bytes.now c.args.at f)
    (λ f bad some.
    fault_behind (a_path c.in_ok-path.path) (arguments_behind c.args.word) c.args.bytes.now c.cut.result.0.now
    c.cut.result.1.now c.args.at f (arguments_in_order (Change c.args.word)) c.cut.ensures c.requires.loose
    c.in_ok-path.ensures.ok (bad some))
    c.change_at.ensures.refused
