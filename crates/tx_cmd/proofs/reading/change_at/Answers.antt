use Rattle.std.proofs.Common.{◌≡◌, [], ◌∷◌, rules, sym, subst}
use Rattle.std.proofs.lemmas.Result.{err_from_is_err_and}
use Rattle.tx_cmd.specs.declared.words.ArgumentKind.TheVariants.{Number as NumberArgument, Tree as TreeArgument}
use Rattle.tx_cmd.specs.Words.{arguments_behind}
use Rattle.tx_cmd.specs.Refusals.{IsFirstFault}
use Rattle.tx_cmd.proofs.reading.change_at.Goals as goal

pub returns-in_err-i-in-Insert-clause-refused : goal.returns-in_err-i-in-Insert-clause-refused
returns-in_err-i-in-Insert-clause-refused g c =
    let back = c.from_residual-in_err-i-in-Insert in
    let p = err_from_is_err_and back.result back.ensures.1 in
    let two : arguments_behind c.args.word ≡ NumberArgument ∷ TreeArgument ∷ [] = search rules in
    let fault = c.in_err-i-in-Insert.field-0.0 in
    rw (p.1, p.2) (λ some.
    subst (λ a. IsFirstFault a c.args.bytes.now c.args.at fault) (sym two) (c.in_err-i-in-Insert.ensures.refused some))
