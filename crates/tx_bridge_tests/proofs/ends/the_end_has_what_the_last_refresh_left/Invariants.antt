use Rattle.tx_bridge_tests.proofs.ends.the_end_has_what_the_last_refresh_left.Given as goal

abbrev pub ghosts-first_untold : goal.ghosts-first_untold
ghosts-first_untold g a = record { name = a.blank.name; parts = a.blank.parts }
