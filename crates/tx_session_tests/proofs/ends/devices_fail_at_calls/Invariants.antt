use Rattle.tx_session_tests.proofs.ends.devices_fail_at_calls.Given as goal

abbrev pub ghosts-first_untrue : goal.ghosts-first_untrue
ghosts-first_untrue g a = record { name = a.blank.name; parts = a.blank.parts }
