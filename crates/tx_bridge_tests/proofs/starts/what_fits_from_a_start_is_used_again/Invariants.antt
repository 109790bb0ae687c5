use Rattle.tx_bridge_tests.proofs.starts.what_fits_from_a_start_is_used_again.Given as goal

abbrev pub ghosts-first_untrue : goal.ghosts-first_untrue
ghosts-first_untrue g a = record { name = a.blank.name; parts = a.blank.parts }
