use Rattle.tx_value_tests.proofs.origins.origins_of_nested_parts.Given as goal

abbrev pub ghosts-first_wrong_origin : goal.ghosts-first_wrong_origin
ghosts-first_wrong_origin g a = record { name = a.blank.name; parts = a.blank.parts }
