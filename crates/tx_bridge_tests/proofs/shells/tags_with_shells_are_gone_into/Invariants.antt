use Rattle.tx_bridge_tests.proofs.shells.tags_with_shells_are_gone_into.Given as goal

abbrev pub ghosts-first_untold : goal.ghosts-first_untold
ghosts-first_untold g a = record { name = a.blank.name; parts = a.blank.parts }
