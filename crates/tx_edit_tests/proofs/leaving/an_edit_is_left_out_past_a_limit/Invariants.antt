use Rattle.tx_edit_tests.proofs.leaving.an_edit_is_left_out_past_a_limit.Given as goal

abbrev pub ghosts-first_untrue : goal.ghosts-first_untrue
ghosts-first_untrue g a = record { name = a.blank.name; parts = a.blank.parts }
