use Rattle.tx_session_tests.proofs.fronts.an_output_fails_at_each_call.Given as goal

abbrev pub ghosts-first_untrue : goal.ghosts-first_untrue
ghosts-first_untrue g a = record { name = a.blank.name; parts = a.blank.parts }
