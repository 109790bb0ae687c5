use Rattle.tx_syntax_tests.proofs.fronts.places_at_newlines.Given as goal

abbrev pub ghosts-judged : goal.ghosts-judged
ghosts-judged g a = record { name = a.blank.name; parts = a.blank.parts }
