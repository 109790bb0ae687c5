use Rattle.tx_words.proofs.generators.numbers.Goals as goal

pub returns-in_default-clause-none : goal.returns-in_default-clause-none
returns-in_default-clause-none c = λ e. c.parts.ensures.none c.in_default.is

pub returns-in_default-number_in-clause-none : goal.returns-in_default-number_in-clause-none
returns-in_default-number_in-clause-none c =
    λ e number count g.
    c.number_in.ensures.none c.in_default-number_in.is number ((c.in-Some.ensures.some number count).0 g).0

pub returns-in_default-number_in-2-clause-none : goal.returns-in_default-number_in-2-clause-none
returns-in_default-number_in-2-clause-none c =
    λ e number count g.
    c.number_in-2.ensures.none c.in_default-number_in-2.is count ((c.in-Some.ensures.some number count).0 g).1
