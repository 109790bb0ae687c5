use Rattle.tx_value_tests.proofs.origins.a_value_of_the_greatest_depth.Given as goal

abbrev pub ghosts-deepest : goal.ghosts-deepest
ghosts-deepest g a = record { name = a.blank.name; parts = a.blank.parts }
