use Rattle.tx_value_tests.proofs.rows.a_row_of_which_nothing_can_be_told_is_told.Given as goal

abbrev pub ghosts-first_untrue : goal.ghosts-first_untrue
ghosts-first_untrue g a = record { name = a.blank.name; parts = a.blank.parts }
