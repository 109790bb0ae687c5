use Rattle.tx_session_tests.proofs.slow.a_slow_input_is_answered_alike.Given as goal

abbrev pub ghosts-first_untrue : goal.ghosts-first_untrue
ghosts-first_untrue g a = record { name = a.blank.name; parts = a.blank.parts }
