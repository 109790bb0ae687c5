use Rattle.std.proofs.Common.{◌∙◌, ap₂}
use Rattle.clap.specs.Words.{with_rule}
use Rattle.tx_words.proofs.parsing.tmx.Goals as goal

pub returns : goal.returns
returns c =
    c.in_ok-command.ensures.shape c.styles.ensures.local
    ∙ ap₂ with_rule (c.in_ok-arg-3.ensures.shape c.document.ensures.local
    ∙ ap₂ with_rule (c.in_ok-arg-2.ensures.shape c.option-2.ensures.local
    ∙ ap₂ with_rule (c.in_ok-arg.ensures.shape c.option.ensures.local
    ∙ ap₂ with_rule c.new.ensures.app c.option.ensures.rule) c.option-2.ensures.rule) c.document.ensures.rule)
    c.styles.ensures.rule
