use Rattle.std.proofs.Common.{◌≡◌, ◌++◌, drop, length}
use Rattle.std.specs.Str.{chars}
use Rattle.tx_page.specs.Texts.{text_characters}
use Rattle.tx_page.proofs.Fitting.{fitting_from}
use Rattle.tx_page.proofs.texts.text_row.Given as goal

-- what is shown so far, and what fits of the rest, are the whole
abbrev pub invariant-loop-code : goal.invariant-loop-code
invariant-loop-code l =
    l.row.items ++ fitting_from l.ink l.left (drop (length l.yielded) (chars l.text))
    ≡ text_characters l.text l.width l.ink
