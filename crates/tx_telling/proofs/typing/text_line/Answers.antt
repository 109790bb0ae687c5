use Rattle.std.proofs.Common.{rules, ◌≡◌, length, inl, sym, subst, ◌∙◌}
use Rattle.std.proofs.lemmas.Result.{IfOk-weaker}
use Rattle.tx_telling.specs.Characters.{IsTypedText}
use Rattle.tx_telling.proofs.Growing.{typed_nothing}
use Rattle.tx_telling.proofs.Pasted.{all_typed, has_room, not_empty}
use Rattle.tx_telling.proofs.typing.text_line.Goals as goal

pub returns-then-is_empty-clause-told : goal.returns-then-is_empty-clause-told
returns-then-is_empty-clause-told c =
    let empty : length c.in_ok-text.text.items ≡ 0 = search rules in
    inl (typed_nothing c.args.codes.now c.in_ok-text.text.items c.in_ok-text.ensures empty)

pub returns-then-is_empty-clause-room : goal.returns-then-is_empty-clause-room
returns-then-is_empty-clause-room c few is =
    let empty : length c.in_ok-text.text.items ≡ 0 = search rules in
    typed_nothing c.args.codes.now c.in_ok-text.text.items c.in_ok-text.ensures empty

pub returns-clause-told : goal.returns-clause-told
returns-clause-told c =
    let codes = c.args.codes.now in
    let text = c.deref.result.now in
    let typed : IsTypedText codes text = subst (IsTypedText codes) (sym c.deref.ensures.value) c.in_ok-text.ensures in
    let some : length text ≡ 0 → ⊥ = λ e.
    not_empty _ c.is_empty.result c.is_empty.ensures c.if-is_empty.false (sym c.deref.ensures.len ∙ e) in
    IfOk-weaker c.type_line.result _ _ (λ told line. all_typed (λ v. v.items) codes text told typed some line)
    c.type_line.ensures

pub returns-clause-room : goal.returns-clause-room
returns-clause-room c few =
    let codes = c.args.codes.now in
    let text = c.deref.result.now in
    let typed : IsTypedText codes text = subst (IsTypedText codes) (sym c.deref.ensures.value) c.in_ok-text.ensures in
    IfOk-weaker c.type_line.result _ _ (λ told line. has_room (λ v. v.items) codes text told typed few line)
    c.type_line.ensures
