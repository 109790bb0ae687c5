use Rattle.tx_value_tests.proofs.rows.no_row_is_told_where_all_hold.Given as goal

abbrev pub ghosts-first_untrue : goal.ghosts-first_untrue
ghosts-first_untrue g a = record { name = a.blank.name; parts = a.blank.parts }
