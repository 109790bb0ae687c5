use Rattle.tx_bridge_tests.proofs.shell_edits.layers_stay_known_through_edits.Given as goal

abbrev pub ghosts-first_untold : goal.ghosts-first_untold
ghosts-first_untold g a = record { name = a.blank.name; parts = a.blank.parts }
