use Rattle.std.proofs.Common.{sym, subst}
use Rattle.tx_words.specs.Words.{RowsAsk}
use Rattle.tx_words.proofs.reading.read_words.Goals as goal

pub returns-clause-faulty : goal.returns-clause-faulty
returns-clause-faulty c =
    λ e width height source ask.
    c.asked_by.ensures.faulty e width height source
    (subst (λ rows. RowsAsk rows width height source) (sym c.in_ok-matches.ensures.found) ask.found)
