use Rattle.tx_syntax_tests.proofs.counts.memory_has_its_words.Given as goal

abbrev pub ghosts-seven_steps : goal.ghosts-seven_steps
ghosts-seven_steps g a = record { name = a.blank.name; parts = a.blank.parts }
