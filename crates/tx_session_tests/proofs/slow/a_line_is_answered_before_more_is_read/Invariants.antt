use Rattle.tx_session_tests.proofs.slow.a_line_is_answered_before_more_is_read.Given as goal

abbrev pub ghosts-first_untrue : goal.ghosts-first_untrue
ghosts-first_untrue g a = record { name = a.blank.name; parts = a.blank.parts }
