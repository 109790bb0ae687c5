use Rattle.tx_bridge_tests.proofs.edits.edits_in_place_reach_what_they_change.Given as goal

abbrev pub ghosts-first_untrue : goal.ghosts-first_untrue
ghosts-first_untrue g a = record { name = a.blank.name; parts = a.blank.parts }
