use Rattle.std.proofs.Common.{◌≡◌, rules, subst}
use Rattle.tx_tree.proofs.TextFaults.{text_has_no_fault}
use Rattle.tx_tree.specs.Texts.{IsTextFault}
use Rattle.tx_tree.specs.declared.texts.TextFault.TheVariants.{BadByte, BadSymbol}
use Rattle.tx_units.proofs.tags.words.Goals as goal

pub unreachable-requires-in-Err-BadByte : goal.unreachable-requires-in-Err-BadByte
unreachable-requires-in-Err-BadByte c =
    let refused = rw c.in-Err-BadByte.field-0-is at c.in-Err-BadByte.ensures.refused in
    let same : c.as_bytes.result.now ≡ c.args.words.now = search rules in
    let bad = subst (λ b. IsTextFault b (BadByte c.in-Err-BadByte.field-0-0)) same (refused (λ e. cc)) in
    text_has_no_fault c.args.words.now (BadByte c.in-Err-BadByte.field-0-0) c.requires.text c.requires.short bad

pub unreachable-requires-in-Err-BadSymbol : goal.unreachable-requires-in-Err-BadSymbol
unreachable-requires-in-Err-BadSymbol c =
    let refused = rw c.in-Err-BadSymbol.field-0-is at c.in-Err-BadSymbol.ensures.refused in
    let same : c.as_bytes.result.now ≡ c.args.words.now = search rules in
    let bad = subst (λ b. IsTextFault b (BadSymbol c.in-Err-BadSymbol.field-0-0)) same (refused (λ e. cc)) in
    text_has_no_fault c.args.words.now (BadSymbol c.in-Err-BadSymbol.field-0-0) c.requires.text c.requires.short bad
