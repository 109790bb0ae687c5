use Rattle.tx_value_tests.proofs.rows.the_first_row_that_is_false_is_told.Given as goal

abbrev pub ghosts-first_untrue : goal.ghosts-first_untrue
ghosts-first_untrue g a = record { name = a.blank.name; parts = a.blank.parts }
