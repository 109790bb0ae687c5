use Rattle.std.proofs.Common.{◌≡◌, ◌∷◌, ◌++◌, sym, subst}
use Rattle.std.specs.Prelude.{codes}
use Rattle.std.proofs.lemmas.Result.{IfOk-weaker}
use Rattle.tx_cmd.specs.Words.{IsFileName}
use Rattle.tx_cmd.specs.declared.command.Command.TheVariants.{At}
use Rattle.tx_telling.specs.Lines.{IsScriptLine}
use Rattle.tx_telling.proofs.Told.{at_name, told_weaker}
use Rattle.tx_telling.proofs.naming.at_line.Goals as goal

pub returns : goal.returns
returns c =
    let name = c.args.name.now in
    IfOk-weaker c.named_line.result _ _ (λ told.
    told_weaker told (¬ IsFileName name) (λ line. IsFileName name × (line.items ≡ codes "at" ++ 32 ∷ name))
    (λ line. IsScriptLine line.items (At name))
    (λ line h. subst (λ x. IsScriptLine x (At name)) (sym h.1) (at_name name h.0)))
    c.named_line.ensures
