use Rattle.std.proofs.Common.{◌≢◌, ◌-◌, length, take, drop, Some, subst}
use Rattle.std.proofs.lemmas.Result.{IfErr-weaker}
use Rattle.tx_cmd.specs.declared.command.CmdFault.TheVariants.{Memory}
use Rattle.tx_cmd.specs.Words.{arguments_of}
use Rattle.tx_cmd.specs.Pieces.{IsMisfit}
use Rattle.tx_cmd.specs.Refusals.{IsFirstFault, IsCmdFault}
use Rattle.tx_cmd.proofs.Splits.{behind_first}
use Rattle.tx_cmd.proofs.Faults.{args_fault, piece_fault}
use Rattle.tx_cmd.proofs.line.parse.Goals as goal

pub returns-in-Some-2-clause-refused : goal.returns-in-Some-2-clause-refused
returns-in-Some-2-clause-refused g c =
    let first = c.first_word-first.result.now in
    let rest = take (length c.args.line.now - length first) (drop (length first) c.args.line.now) in
    let place = c.in-Some-2.place in
    let there = rw c.in-Some-2.is at c.in_ok-place.ensures.misfit in
    args_fault c.in-Some.word c.args.line.now first rest place c.if-line-gt-MOST_LINE.false c.first_word-first.ensures
    c.in-Some.ensures (behind_first c.args.line.now first c.first_word-first.ensures).1
    (subst (λ x. IsMisfit x rest (Some place)) c.arguments.ensures there)

pub returns-clause-refused : goal.returns-clause-refused
returns-clause-refused g c =
    let first = c.first_word-first.result.now in
    let rest = take (length c.args.line.now - length first) (drop (length first) c.args.line.now) in
    IfErr-weaker c.command.result (λ f. f ≢ Memory → IsFirstFault (arguments_of c.in-Some.word) rest (length first) f)
    (IsCmdFault c.args.line.now)
    (λ f bad. piece_fault c.in-Some.word c.args.line.now first rest f c.if-line-gt-MOST_LINE.false c.in-Some.ensures
    (behind_first c.args.line.now first c.first_word-first.ensures).1 bad)
    c.command.ensures.refused
