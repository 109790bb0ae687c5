use Rattle.tx_syntax_tests.proofs.trees.nodes_have_their_limits.Given as goal

abbrev pub ghosts-past_limits : goal.ghosts-past_limits
ghosts-past_limits g a = record { name = a.blank.name; parts = a.blank.parts }
