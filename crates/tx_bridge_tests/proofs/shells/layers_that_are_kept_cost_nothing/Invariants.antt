use Rattle.tx_bridge_tests.proofs.shells.layers_that_are_kept_cost_nothing.Given as goal

abbrev pub ghosts-first_untold : goal.ghosts-first_untold
ghosts-first_untold g a = record { name = a.blank.name; parts = a.blank.parts }
