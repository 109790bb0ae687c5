use Rattle.std.proofs.Common.{rules, ◌∙◌}
use Rattle.tx_text.proofs.Own.{shows_by_name}
use Rattle.tx_text.proofs.displays.symbol_char.Goals.{in_default-via-then-name-lt1}
use Rattle.tx_text.proofs.displays.symbol_char.Goals.{in_default-via-else-name-lt1+in_default-1}
use Rattle.tx_text.proofs.displays.symbol_char.Goals as goal

pub returns-in_default : goal.returns-in_default
returns-in_default c =
    c.named_char.ensures
    ∙ elim c.in_default.branch [
      | in_default-via-then-name-lt1 w ↦ search (rules, shows_by_name)
      | in_default-via-else-name-lt1+in_default-1 w ↦ search (rules, shows_by_name)
    ]
