use Rattle.std.proofs.Common.{◌≡◌, true, sym, ◌∙◌}
use Rattle.tx_tree.specs.Labels.{is_label_byte}
use Rattle.std.proofs.lemmas.List.Elements.{All-more}
use Rattle.tx_scm.proofs.names.letters_len.Goals as goal

pub loop-i-preserved : goal.loop-i-preserved
loop-i-preserved c =
    All-more (λ b. is_label_byte b ≡ true) c.args.bytes.now c.loop-i.i 0 c.loop-i-test.true c.loop-i.invariant
    (sym c.is_label_byte.ensures ∙ c.if-not-is_label_byte.false)
