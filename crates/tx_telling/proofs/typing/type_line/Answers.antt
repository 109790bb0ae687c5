use Rattle.std.proofs.Common.{rules, arith, ◌≡◌, ◌+◌, ◌≤◌, ◌++◌, length, sym, subst}
use Rattle.std.specs.Prelude.{codes}
use Rattle.tx_scm.specs.Spelling.{string_of}
use Rattle.tx_cmd.specs.declared.command.Command.TheVariants.{Typed}
use Rattle.tx_telling.specs.Lines.{IsScriptLine}
use Rattle.tx_telling.proofs.Told.{type_text}
use Rattle.tx_telling.proofs.typing.type_line.Goals as goal

pub returns : goal.returns
returns c =
    let bytes = c.args.bytes.now in
    let written : c.write.new.out.items ≡ codes "type " ++ string_of bytes = search rules in
    let counted : c.length.result ≡ length (string_of bytes) = search rules in
    let room : 5 + length (string_of bytes) ≤ 1048576 = omega (arith, c.in_ok-line.ensures.len) in
    subst (λ line. IsScriptLine line (Typed bytes)) (sym written)
    (type_text bytes c.in-Ok.ensures.text c.in-Ok.ensures.short room)
