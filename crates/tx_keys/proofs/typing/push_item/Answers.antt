use Rattle.std.proofs.Common.{rules, sym, subst, ◌∙◌}
use Rattle.std.specs.Prelude.{codes}
use Rattle.std.proofs.lemmas.Result.{on_ok_weaker}
use Rattle.tx_tree.specs.Texts.{byte, symbol}
use Rattle.tx_keys.specs.Typing.{IsTyped, hex_name}
use Rattle.tx_keys.proofs.Items.{typed_byte, typed_less, typed_gtr, typed_nbsp, typed_number}
use Rattle.tx_keys.proofs.typing.push_item.Goals as goal

pub returns-in-Some-clause-added : goal.returns-in-Some-clause-added
returns-in-Some-clause-added c = (
  byte c.in-Some.byte,
  typed_byte c.args.code c.in-Some.byte (sym c.byte_of.ensures ∙ c.in-Some.is),
  c.in_ok-push.ensures.items,
)

pub returns-in-60-clause-added : goal.returns-in-60-clause-added
returns-in-60-clause-added c =
    let typed = subst (λ code. IsTyped code (symbol (codes "less"))) (sym c.in-60.is) typed_less in
    on_ok_weaker c.push_symbol.result (λ added. (symbol (codes "less"), typed, added)) c.push_symbol.ensures.added

pub returns-in-62-clause-added : goal.returns-in-62-clause-added
returns-in-62-clause-added c =
    let typed = subst (λ code. IsTyped code (symbol (codes "gtr"))) (sym c.in-62.is) typed_gtr in
    on_ok_weaker c.push_symbol-in-62.result (λ added. (symbol (codes "gtr"), typed, added))
    c.push_symbol-in-62.ensures.added

pub returns-in-160-clause-added : goal.returns-in-160-clause-added
returns-in-160-clause-added c =
    let typed = subst (λ code. IsTyped code (symbol (codes "nbsp"))) (sym c.in-160.is) typed_nbsp in
    on_ok_weaker c.push_symbol-in-160.result (λ added. (symbol (codes "nbsp"), typed, added))
    c.push_symbol-in-160.ensures.added

pub returns-in_default-code-clause-added : goal.returns-in_default-code-clause-added
returns-in_default-code-clause-added c =
    let name = hex_name c.args.code in
    let typed : IsTyped c.args.code (symbol name) =
    typed_number c.args.code c.requires (sym c.byte_of.ensures ∙ c.in_default.is) (search rules) in
    on_ok_weaker c.push_number.result (λ added. (symbol name, typed, added)) c.push_number.ensures.added
