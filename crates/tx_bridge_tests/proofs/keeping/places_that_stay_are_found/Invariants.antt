use Rattle.tx_bridge_tests.proofs.keeping.places_that_stay_are_found.Given as goal

abbrev pub ghosts-first_untrue : goal.ghosts-first_untrue
ghosts-first_untrue g a = record { name = a.blank.name; parts = a.blank.parts }
