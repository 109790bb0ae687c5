use Rattle.std.proofs.Common.{rules, ◌≡◌}
use Rattle.std.proofs.lemmas.Result.{IfOk-weaker}
use Rattle.tx_tree.specs.Texts.{item_bytes}
use Rattle.tx_telling.proofs.Pasted.{one_typed}
use Rattle.tx_telling.proofs.typing.typed_line.Goals as goal

pub returns : goal.returns
returns c =
    let added = c.in_ok-push_typed.ensures.added c.if-not-branch.false in
    let text = c.deref.result.now in
    let is : text ≡ item_bytes added.0 = search rules in
    IfOk-weaker c.type_line.result _ _
    (λ told line. one_typed (λ v. v.items) c.args.code text added.0 told added.1 is line) c.type_line.ensures
