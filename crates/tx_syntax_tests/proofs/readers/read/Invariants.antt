use Rattle.tx_syntax_tests.proofs.readers.read.Given as goal

abbrev pub ghosts-tree_of : goal.ghosts-tree_of
ghosts-tree_of a = record { name = a.blank.name; parts = a.blank.parts }
