use Rattle.clap.specs.Words.{found_of, rows_of}
use Rattle.tx_words.specs.Words.{styles_in}
use Rattle.tx_words.proofs.Cutting.{no_numbers}
use Rattle.tx_words.proofs.reading.source_of.Goals as goal

pub returns-in-None-clause-faulty : goal.returns-in-None-clause-faulty
returns-in-None-clause-faulty c =
    λ e source.
    no_numbers c.args.document.now c.in-Some.rest.now (styles_in (rows_of (found_of c.args.matches.now))) source
    c.in-Some.ensures (c.numbers.ensures.none c.in-None.is)
