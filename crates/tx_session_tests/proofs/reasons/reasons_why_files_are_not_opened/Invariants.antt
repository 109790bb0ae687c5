use Rattle.tx_session_tests.proofs.reasons.reasons_why_files_are_not_opened.Given as goal

abbrev pub ghosts-first_untrue : goal.ghosts-first_untrue
ghosts-first_untrue g a = record { name = a.blank.name; parts = a.blank.parts }
