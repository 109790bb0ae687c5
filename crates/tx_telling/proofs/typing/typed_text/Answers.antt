use Rattle.std.proofs.Common.{arith}
use Rattle.tx_telling.proofs.Growing.{typed_step}
use Rattle.tx_telling.proofs.typing.typed_text.Goals as goal

pub loop-code-preserved : goal.loop-code-preserved
loop-code-preserved c =
    let pushed = c.in_ok-push_typed.ensures in
    typed_step c.args.codes.now c.loop-code.text.items c.push_typed.new.out.items c.loop-code.code-index
    c.in_ok-push_typed.field-0 (omega arith) pushed.shown pushed.added pushed.nothing c.loop-code.invariant
